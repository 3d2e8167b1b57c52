-- What a question and an answer print. Assumes nothing.
use Rattle.std.specs.Prelude.{ℕ, List, ◌++◌, codes}
use Rattle.std.specs.Fmt.{decimal}
use Rattle.curves.specs.Texts.{market_text}
use Rattle.figures.specs.declared.question.Answer.{Answer}
use Rattle.figures.specs.declared.question.Answer.TheVariants.{One, Two}
use Rattle.figures.specs.declared.question.Question.{Question}
use Rattle.figures.specs.declared.question.Question.TheVariants.{Seed, Buy, Price, Add, Remove}

abbrev pub question_text : Question → List ℕ
question_text (Seed a b) = codes "seed " ++ (decimal a ++ (codes " and " ++ decimal b))
question_text (Buy market a) = market_text market ++ (codes ": buy for " ++ decimal a)
question_text (Price market b) = market_text market ++ (codes ": price of " ++ decimal b)
question_text (Add shares x y total) = codes "add " ++ (decimal shares ++ (codes " shares to " ++ (decimal total ++ (codes " at " ++ (decimal x ++ (codes ", " ++ decimal y))))))
question_text (Remove shares x y total) = codes "remove " ++ (decimal shares ++ (codes " shares of " ++ (decimal total ++ (codes " at " ++ (decimal x ++ (codes ", " ++ decimal y))))))

abbrev pub answer_text : Answer → List ℕ
answer_text (One n) = decimal n
answer_text (Two m n) = decimal m ++ (codes " and " ++ decimal n)
