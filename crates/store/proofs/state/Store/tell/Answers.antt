use Rattle.std.proofs.Common.{arith}
use Rattle.std.proofs.lemmas.Bool.Decides.{nat_tests}
use Rattle.store.proofs.Chained.{tell_back, one_more}
use Rattle.store.proofs.state.Store.tell.Goals as goal

pub returns-clause-leaves : goal.returns-clause-leaves
returns-clause-leaves g c =
    let s = c.args.self.now.held.hooks in
    let m = g.H.HookBank.meaning s in
    let same = tell_back m c.args.p.hook c.args.p.input c.args.p.output c.in_ok-old.old (g.met.H.HookBank.lawful s) (grind (arith, nat_tests)) (grind (arith, nat_tests)) in
    one_more _ c.push.ensures.items (cc) (cc)
