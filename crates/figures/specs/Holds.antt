-- When a figure is right. Assumes nothing.
use Rattle.std.specs.Prelude.{◌≡◌, List, length}
use Rattle.std.specs.List.{AllByRecursion}
use Rattle.curves.specs.Beside.{beside}
use Rattle.curves.specs.Fee.{fee}
use Rattle.curves.specs.Meaning.{Curves}
use Rattle.curves.specs.Single.{product, sum}
use Rattle.figures.specs.declared.table.Figure.{Figure}
use Rattle.figures.specs.Figures.{answer_of}

-- 0 is the product, 1 the sum, 2 the product under a fee of 30
abbrev pub examples : Curves
examples = beside (beside product sum) (fee product 30)

-- its answer is what the definitions give
abbrev pub Holds : Figure → Type 0
Holds f = answer_of examples f.question ≡ f.answer

-- fourteen figures, each of them right
pub record AllHold (figures : List Figure) : Type 0 where
  pub each : AllByRecursion Holds figures
  pub count : length figures ≡ 14
