use Rattle.std.proofs.Common.{rules}
use Rattle.amounts.proofs.Roots.{root_is, only_root}
use Rattle.amounts.proofs.shares.root.Goals as goal

pub returns : goal.returns
returns c = only_root _ _ c.args.n (c.isqrt.ensures.square_le, c.isqrt.ensures.next_square_gt) (root_is c.args.n (search rules))
