use Rattle.std.proofs.Common.{◌≡◌, ◌+◌, ◌*◌, ◌≤◌, drop}
use Rattle.store.specs.Saved.{world, recorded, Kept}
use Rattle.routes.specs.Routes.{hops}
use Rattle.routes.proofs.hops.hops.Given as goal

abbrev pub invariant-loop-pool : goal.invariant-loop-pool
invariant-loop-pool g l =
    let k = g.C.CurveBank.meaning l.curves in
    let w = world g.T.TokenBank.meaning g.H.HookBank.meaning in
    let start = l.initial.store in
    (hops k l.who.number 1 (record { carried = l.initial.carried; world = w start.held }) l.pools ≡ hops k l.who.number l.number (record { carried = l.carried; world = w l.store.held }) (drop l.pool-index l.pools))
    × (l.number ≡ l.pool-index + 1)
    × (recorded start ≤ recorded l.store)
    × (recorded l.store ≤ recorded start + 6 * l.pool-index)
    × (l.store.held.book.steps ≡ start.held.book.steps + l.pool-index)
    × Kept g.T.TokenBank.meaning g.H.HookBank.meaning start l.store (recorded start)
