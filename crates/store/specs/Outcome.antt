-- What a call comes to, and when a store has met it. Assumes nothing.
use Rattle.std.specs.Prelude.{◌≡◌, ℕ, ◌≤◌, Bool, true, false, Ok, Err, Result}
use Rattle.faults.specs.declared.cause.Cause.{Cause}
use Rattle.faults.specs.declared.cause.VaultFault.{VaultFault}
use Rattle.faults.specs.Reports.{unplaced}
use Rattle.hooks.specs.Meaning.{Hooks}
use Rattle.tokens.specs.Meaning.{Tokens}
use Rattle.store.specs.declared.state.Store.{Store}
use Rattle.store.specs.Room.{Grows}
use Rattle.store.specs.Saved.{world, recorded, saved, Changed}
use Rattle.store.specs.World.{World}

-- a refusal, or an answer with what holds then
pub data Outcome (A : Type 0) : Type 0 where
  refused : VaultFault → Outcome A
  done : A → World → Outcome A

-- the rest, where the test passes
abbrev pub need : {A : Type 0} → Bool → Cause → Outcome A → Outcome A
need true cause rest = rest
need false cause rest = refused (unplaced cause)

module _ {T H : Type 0} (tokens : T → Tokens) (hooks : H → Hooks) where
  -- the world is now w, by at most six entries more, and earlier marks restore what they did
  pub record Stepped (before after : Store T H) (w : World) : Type 0 where
    pub now : world tokens hooks after.held ≡ w
    pub longer : Grows (recorded before) (recorded after)
    pub kept : (n : ℕ) → n ≤ recorded before → saved tokens hooks after n ≡ saved tokens hooks before n

  -- the answer is the outcome's, and so is what holds then
  abbrev pub Meets : {A : Type 0} → Outcome A → Store T H → Store T H → Result A VaultFault → Type 0
  Meets (refused f) before after r = (r ≡ Err f) × Changed tokens hooks before after 0 (world tokens hooks before.held)
  Meets (done a w) before after r = (r ≡ Ok a) × Stepped before after w
