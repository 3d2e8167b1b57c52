use Rattle.std.proofs.Common.{◌≡◌, ◌*◌, take, pos, neg_ℤ, ◌≤ℤ◌}
use Rattle.totals.specs.Totals.{column}
use Rattle.totals.proofs.debts.deltas_in.Given as goal

abbrev pub invariant-loop-row : goal.invariant-loop-row
invariant-loop-row l = (l.sum ≡ column (take l.row-index l.book.deltas) l.c.number) × (neg_ℤ (pos (9223372036854775808 * l.row-index)) ≤ℤ l.sum) × (l.sum ≤ℤ pos (9223372036854775808 * l.row-index))
