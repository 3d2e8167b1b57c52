-- A call's result for a number or no answer. Assumes nothing.
use Rattle.std.specs.Prelude.{ℕ, Some, None, Ok, Err, Option, Result}
use Rattle.curves.specs.declared.bank.CurveFault.{CurveFault}
use Rattle.curves.specs.declared.bank.CurveFault.TheVariants.{NoAnswer}

abbrev pub answered : Option ℕ → Result ℕ CurveFault
answered (Some n) = Ok n
answered None = Err NoAnswer
