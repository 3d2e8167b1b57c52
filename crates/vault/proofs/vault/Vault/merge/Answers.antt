use Rattle.std.proofs.Common.{◌≡◌, true, ◌∷◌, subst}
use Rattle.store.specs.Saved.{recorded}
use Rattle.vault.specs.Marks.{ends, all_fit}
use Rattle.vault.proofs.Nesting.{popped_fit}
use Rattle.vault.proofs.vault.Vault.merge.Goals as goal

pub invariant_of-self-clause-fit : goal.invariant_of-self-clause-fit
invariant_of-self-clause-fit g c =
    let v = c.args.self.now in
    let s = v.store in
    let was = c.in-Some.is in
    let gone = c.pop.ensures.items in
    popped_fit s (recorded s) _ _ c.pop.result gone (subst (λ f. all_fit s (recorded s) (recorded s ∷ ends f) ≡ true) was v.fit)
