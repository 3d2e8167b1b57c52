-- What the definitions answer to a question; None refuses it. Assumes nothing.
use Rattle.std.specs.Prelude.{cond, Some, None, Option, option_map, ◌==◌}
use Rattle.amounts.specs.Shares.{seeded, cost, paid}
use Rattle.curves.specs.Meaning.{Curves}
use Rattle.figures.specs.declared.question.Answer.{Answer}
use Rattle.figures.specs.declared.question.Answer.TheVariants.{One, Two}
use Rattle.figures.specs.declared.question.Question.{Question}
use Rattle.figures.specs.declared.question.Question.TheVariants.{Seed, Buy, Price, Add, Remove}

abbrev pub answer_of : Curves → Question → Option Answer
answer_of m (Seed a b) = option_map One (seeded a b)
answer_of m (Buy at a) = option_map One (m.buy at.curve at.direction at.x at.y a)
answer_of m (Price at b) = option_map One (m.price at.curve at.direction at.x at.y b)
answer_of m (Add shares x y total) = cond (total == 0) None (Some (Two (cost shares x total) (cost shares y total)))
answer_of m (Remove shares x y total) = cond (total == 0) None (Some (Two (paid shares x total) (paid shares y total)))
