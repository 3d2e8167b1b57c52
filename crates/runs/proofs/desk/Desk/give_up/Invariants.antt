use Rattle.std.proofs.Common.{◌≡◌, drop}
use Rattle.vault.specs.State.{state}
use Rattle.runs.specs.History.{after_all, given_up}
use Rattle.runs.proofs.desk.Desk.give_up.Given as goal

abbrev pub invariant-loop-call : goal.invariant-loop-call
invariant-loop-call g l =
    let s = state g.T.TokenBank.meaning g.H.HookBank.meaning in
    after_all (s l.self.vault) (drop l.call-index l.call-items) ≡ given_up (s l.fn.self.vault)
