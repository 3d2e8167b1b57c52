-- What a vault means: its phase, what holds, and what held when each frame and the session began. Assumes nothing.
use Rattle.std.specs.Prelude.{List, map}
use Rattle.hooks.specs.Meaning.{Hooks}
use Rattle.store.specs.Saved.{world, saved}
use Rattle.store.specs.World.{World}
use Rattle.tokens.specs.Meaning.{Tokens}
use Rattle.vault.specs.declared.phase.Phase.{Phase}
use Rattle.vault.specs.declared.vault.Vault.{Vault}
use Rattle.vault.specs.Marks.{phase_of, ends}

pub record State : Type 0 where
  pub phase : Phase
  pub now : World
  -- innermost first, the session's opening last
  pub saved : List World

module _ {T H : Type 0} (tokens : T → Tokens) (hooks : H → Hooks) where
  abbrev pub state : Vault T H → State
  state v = record { phase = phase_of v.frames; now = world tokens hooks v.store.held; saved = map (saved tokens hooks v.store) (ends v.frames) }
