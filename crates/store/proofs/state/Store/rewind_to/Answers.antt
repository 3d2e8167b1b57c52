use Rattle.std.proofs.Common.{◌-◌, length, drop, arith, rules, length-drop}
use Rattle.std.proofs.lemmas.List.{take_all}
use Rattle.journal.proofs.Rewinds.{rewound_on}
use Rattle.store.specs.World.{undone}
use Rattle.store.specs.Saved.{world}
use Rattle.store.proofs.state.Store.rewind_to.Goals as goal

pub returns-clause-kept : goal.returns-clause-kept
returns-clause-kept g c =
    let w = world g.T.TokenBank.meaning g.H.HookBank.meaning in
    let s = c.args.self.now in
    let n = c.args.n in
    let later = take_all (length s.log.items - n) (drop n s.log.items) (simp length-drop (omega arith)) in
    λ k below. let same = rewound_on undone (w s.held) s.log.items n k below (search rules) in cc
