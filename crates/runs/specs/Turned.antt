-- One call of a run: the reply and the state are those of the rules. Assumes nothing.
use Rattle.std.specs.Prelude.{◌≡◌, Result}
use Rattle.faults.specs.declared.cause.VaultFault.{VaultFault}
use Rattle.hooks.specs.Meaning.{Hooks}
use Rattle.store.specs.declared.answer.Answer.{Answer}
use Rattle.tokens.specs.Meaning.{Tokens}
use Rattle.vault.specs.declared.call.Call.{Call}
use Rattle.vault.specs.declared.call.Call.TheVariants as call
use Rattle.vault.specs.declared.vault.Vault.{Vault}
use Rattle.runs.specs.declared.turns.FrameEnd.{FrameEnd}
use Rattle.runs.specs.declared.turns.FrameEnd.TheVariants as how
use Rattle.vault.specs.State.{state}
use Rattle.vault.specs.Turns.{turn}

-- the call that ends a frame so
abbrev pub ending : FrameEnd → Call
ending how.Keep = call.Keep
ending how.Drop = call.Drop

module _ {T H : Type 0} (tokens : T → Tokens) (hooks : H → Hooks) where
  pub record Turned (before : Vault T H) (c : Call) (after : Vault T H) (reply : Result Answer VaultFault) : Type 0 where
    pub answers : reply ≡ (turn (state tokens hooks before) c).answer
    pub leaves : state tokens hooks after ≡ (turn (state tokens hooks before) c).left
