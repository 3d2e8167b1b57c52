use Rattle.std.proofs.Common.{arith}
use Rattle.std.proofs.lemmas.List.Sums.{fold_more}
use Rattle.std.proofs.lemmas.Int.{ints, to_z-of_z}
use Rattle.totals.proofs.debts.deltas_in.Goals as goal

pub loop-row-preserved : goal.loop-row-preserved
loop-row-preserved c = (grind (arith, to_z-of_z, fold_more), grind (arith, ints), grind (arith, ints))
