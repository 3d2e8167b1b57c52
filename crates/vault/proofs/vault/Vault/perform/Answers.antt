use Rattle.std.proofs.Common.{◌≡◌, true, ◌∷◌, is_some, sym, refl, ap, ◌∙◌, subst, rules}
use Rattle.actions.specs.Acts.{act}
use Rattle.store.specs.Outcome.{Meets}
use Rattle.store.specs.Saved.{world, recorded}
use Rattle.vault.specs.Marks.{phase_of, ends, all_fit}
use Rattle.vault.proofs.Performing.{inside, step_in_session, locked_ends, session_fit, locked_fit, acted_state}
use Rattle.vault.proofs.vault.Vault.perform.Goals as goal

pub invariant_of-self-clause-fit : goal.invariant_of-self-clause-fit
invariant_of-self-clause-fit g c =
    let v = c.args.self.now in
    let a = v.store in
    let b = c.act-answer.new.store in
    let s = c.forget.new.self in
    let t = g.T.TokenBank.meaning in
    let h = g.H.HookBank.meaning in
    let empty = c.forget.ensures.empty in
    let none = locked_ends v.frames (search rules) in
    subst (λ ms. all_fit s (recorded s) (recorded s ∷ ms) ≡ true) (sym none) (locked_fit t h a b (ends v.frames) v.fit s _ c.is_some-session.result c.args.action c.act-answer.result refl c.act-answer.ensures c.forget.ensures.holds empty)

pub invariant_of-self-else-not-session-clause-fit : goal.invariant_of-self-else-not-session-clause-fit
invariant_of-self-else-not-session-clause-fit g c =
    let v = c.args.self.now in
    let a = v.store in
    let b = c.act-answer.new.store in
    let t = g.T.TokenBank.meaning in
    let h = g.H.HookBank.meaning in
    let on : c.is_some-session.result ≡ true = search rules in
    let some : is_some v.frames ≡ true = search rules in
    session_fit t h a b (ends v.frames) v.fit _ c.args.action c.act-answer.result (ap (λ q. act q (world t h a.held) c.args.action) on) (step_in_session (phase_of v.frames) c.args.action c.requires (sym (inside v.frames) ∙ some)) c.act-answer.ensures

pub returns-else-not-session-clause-leaves : goal.returns-else-not-session-clause-leaves
returns-else-not-session-clause-leaves g c =
    let v = c.args.self.now in
    let a = v.store in
    let b = c.act-answer.new.store in
    let t = g.T.TokenBank.meaning in
    let h = g.H.HookBank.meaning in
    let met = subst (λ q. Meets t h (act q (world t h a.held) c.args.action) a b c.act-answer.result) (c.is_some-session.ensures ∙ inside v.frames) c.act-answer.ensures in
    acted_state t h a b (ends v.frames) v.fit (phase_of v.frames) _ c.act-answer.result met
