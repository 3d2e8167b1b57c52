use Rattle.book.proofs.Backs.{back}
use Rattle.store.proofs.Chained.{one_more}
use Rattle.store.proofs.state.Store.write.Goals as goal

pub returns : goal.returns
returns g c = let same = back c.args.self.now.held.book c.args.cell in one_more _ c.push.ensures.items (cc) (cc)
