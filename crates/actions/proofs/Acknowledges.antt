-- A call that has nothing to tell, once acknowledged, meets its acknowledged outcome. Assumes nothing.
use Rattle.std.proofs.Common.{◌≡◌, Result, ap, ◌∙◌}
use Rattle.actions.specs.Acts.{acknowledged, acknowledgement}
use Rattle.faults.specs.declared.cause.VaultFault.{VaultFault}
use Rattle.hooks.specs.Meaning.{Hooks}
use Rattle.store.specs.declared.answer.Answer.{Answer}
use Rattle.store.specs.declared.state.Store.{Store}
use Rattle.store.specs.Outcome.{Outcome, refused, done, Meets}
use Rattle.tokens.specs.Meaning.{Tokens}

module _ {T H : Type 0} (tokens : T → Tokens) (hooks : H → Hooks) (a b : Store T H) where
  pub acknowledges : (o : Outcome (Unit {0})) (r : Result (Unit {0}) VaultFault) (said : Result Answer VaultFault) → Meets tokens hooks o a b r → said ≡ acknowledgement r → Meets tokens hooks (acknowledged o) a b said
  acknowledges (refused f) r said m e = (e ∙ ap acknowledgement m.0, m.1)
  acknowledges (done u w) r said m e = (e ∙ ap acknowledgement m.0, m.1)
