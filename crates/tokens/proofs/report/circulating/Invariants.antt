use Rattle.std.proofs.Common.{◌≡◌, ◌*◌, ◌≤◌}
use Rattle.tokens.specs.Meaning.{sum_below}
use Rattle.tokens.proofs.report.circulating.Given as goal

abbrev pub invariant-loop-account : goal.invariant-loop-account
invariant-loop-account g l = (l.sum ≡ sum_below l.account ((g.T.TokenBank.meaning l.bank).balance l.currency)) × (l.sum ≤ 4294967295 * l.account)
