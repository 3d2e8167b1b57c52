use Rattle.store.specs.Saved.{world, Changed}
use Rattle.store.specs.World.{with_book, all_written}
use Rattle.std.proofs.Common.{take}
use Rattle.store.proofs.state.Store.commit.Given as goal

abbrev pub invariant-loop-cell : goal.invariant-loop-cell
invariant-loop-cell g l = Changed g.T.TokenBank.meaning g.H.HookBank.meaning l.initial.self l.self l.cell-index (with_book (world g.T.TokenBank.meaning g.H.HookBank.meaning l.initial.self.held) (all_written l.initial.self.held.book (take l.cell-index l.cells)))
