-- The fourteen worked figures: a question with its answer. Seed takes a and b; Buy and Price the curve, the direction, x and y,
-- and the amount; Add and Remove the shares, x, y and the total of shares. None refuses. Assumes nothing.
use Rattle.std.specs.Prelude.{ℕ, List, [], ◌∷◌, Some, None}
use Rattle.curves.specs.declared.market.Market.{Market}
use Rattle.figures.specs.declared.question.Answer.TheVariants.{One, Two}
use Rattle.figures.specs.declared.question.Question.TheVariants.{Seed, Buy, Price, Add, Remove}
use Rattle.figures.specs.declared.table.Figure.{Figure}

abbrev market : ℕ → ℕ → ℕ → ℕ → Market
market c d v w = record { curve = c; direction = d; x = v; y = w }

abbrev pub worked : List Figure
worked =
    record { question = Seed 4000 9000; answer = Some (One 5000) }
    ∷ record { question = Seed 1001 1001; answer = Some (One 1) }
    ∷ record { question = Seed 1000 1000; answer = None }
    ∷ record { question = Buy (market 0 0 4000 9000) 100; answer = Some (One 219) }
    ∷ record { question = Buy (market 0 1 4000 9000) 1; answer = Some (One 0) }
    ∷ record { question = Price (market 0 0 4000 9000) 219; answer = Some (One 100) }
    ∷ record { question = Price (market 0 0 4000 9000) 1000; answer = Some (One 501) }
    ∷ record { question = Buy (market 2 0 4000 9000) 100; answer = Some (One 217) }
    ∷ record { question = Buy (market 2 0 4000 9000) 1; answer = Some (One 0) }
    ∷ record { question = Price (market 2 0 4000 9000) 217; answer = Some (One 100) }
    ∷ record { question = Buy (market 1 0 2147483637 100) 10; answer = Some (One 10) }
    ∷ record { question = Buy (market 1 0 2147483637 100) 11; answer = None }
    ∷ record { question = Add 600 4100 8781 6000; answer = Some (Two 410 879) }
    ∷ record { question = Remove 600 4510 9660 6600; answer = Some (Two 410 878) }
    ∷ []
