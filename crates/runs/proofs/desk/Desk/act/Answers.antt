use Rattle.std.proofs.Common.{◌≡◌, true, sym, ap, ◌∙◌, subst}
use Rattle.vault.specs.State.{state}
use Rattle.runs.specs.Held.{held}
use Rattle.runs.proofs.Slipped.{same_phase}
use Rattle.runs.proofs.desk.Desk.act.Goals as goal

pub invariant_of-self : goal.invariant_of-self
invariant_of-self g c =
    let desk = c.args.self.now in
    let same = same_phase (state g.T.TokenBank.meaning g.H.HookBank.meaning desk.vault) c.args.action in
    record { slipped = subst (λ p. held p desk.slips ≡ true) (sym (ap (λ s. s.phase) c.act.ensures.leaves ∙ same)) desk.slipped }
