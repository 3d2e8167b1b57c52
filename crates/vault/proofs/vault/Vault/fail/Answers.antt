use Rattle.std.proofs.Common.{[], map, sym, ap, ◌∙◌}
use Rattle.store.specs.Saved.{world, saved}
use Rattle.vault.specs.declared.phase.Phase.TheVariants as phase
use Rattle.vault.specs.Turns.{last_of}
use Rattle.vault.proofs.Fitting.{back_fit}
use Rattle.vault.proofs.Nesting.{abandoned_ends}
use Rattle.vault.proofs.vault.Vault.fail.Goals as goal

pub invariant_of-self-clause-fit : goal.invariant_of-self-clause-fit
invariant_of-self-clause-fit g c =
    let v = c.args.self.now in
    let back = c.rewind_to.ensures in
    back_fit g.T.TokenBank.meaning g.H.HookBank.meaning v.store c.rewind_to.new.self 0 _ [] (abandoned_ends v.frames c.requires) back.kept v.fit back.shorter

pub returns : goal.returns
returns g c =
    let v = c.args.self.now in
    let t = g.T.TokenBank.meaning in
    let h = g.H.HookBank.meaning in
    let opening = c.rewind_to.ensures.now ∙ ap (λ ms. last_of (world t h v.store.held) (map (saved t h v.store) ms)) (sym (abandoned_ends v.frames c.requires)) in
    λ i. record { phase = phase.Locked; now = opening i; saved = [] }
