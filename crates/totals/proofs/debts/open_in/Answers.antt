use Rattle.std.proofs.Common.{◌≡◌, count_by, rules, arith}
use Rattle.std.proofs.lemmas.List.Sums.{count_by-le-length}
use Rattle.totals.specs.Totals.{is_open}
use Rattle.totals.proofs.Rows.{row_sums_fit}
use Rattle.totals.proofs.debts.open_in.Goals as goal

pub sum-requires-clause-fits : goal.sum-requires-clause-fits
sum-requires-clause-fits c = row_sums_fit (search rules) (omega arith) (search rules)

pub returns-clause-fits : goal.returns-clause-fits
returns-clause-fits c =
    let is : c.sum.result ≡ count_by is_open c.args.row.now = search rules in
    let few = count_by-le-length is_open c.args.row.now in
    search (rules, is, few)
