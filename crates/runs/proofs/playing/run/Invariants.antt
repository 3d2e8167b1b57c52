use Rattle.vault.specs.State.{state}
use Rattle.runs.proofs.Passing.{Passed}
use Rattle.runs.proofs.playing.run.Given as goal

abbrev pub invariant-loop-line : goal.invariant-loop-line
invariant-loop-line g l =
    let s = state g.T.TokenBank.meaning g.H.HookBank.meaning in
    Passed (s l.initial.desk.vault) l.initial.line-items (s l.desk.vault) l.line-items l.line-index
