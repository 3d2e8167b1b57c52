use Rattle.std.proofs.Common.{sym, ◌∙◌}
use Rattle.store.proofs.Chained.{move_back, one_more}
use Rattle.store.proofs.state.Store.transfer.Goals as goal

pub returns-clause-leaves : goal.returns-clause-leaves
returns-clause-leaves g c =
    let s = c.args.self.now.held.tokens in
    let t = c.args.t in
    let same = move_back (g.T.TokenBank.meaning s) t.currency t.from t.to t.amount c.in_ok-arrived.arrived (g.met.T.TokenBank.lawful s) (sym c.transfer.ensures.answers ∙ c.in_ok-arrived.was) in
    one_more _ c.push.ensures.items (cc) (cc)
