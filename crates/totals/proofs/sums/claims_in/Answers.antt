use Rattle.std.proofs.Common.{rules, arith}
use Rattle.totals.proofs.Rows.{row_sums_fit}
use Rattle.totals.proofs.sums.claims_in.Goals as goal

pub sum-requires-clause-fits : goal.sum-requires-clause-fits
sum-requires-clause-fits c = row_sums_fit (search rules) (omega arith) (search rules)
