-- The marks of a session and its frames, and the room that the journal has after each. Assumes nothing.
use Rattle.std.specs.Prelude.{ℕ, zero, suc, ◌*◌, Bool, true, ◌&&◌, List, [], ◌∷◌, Some, None, Option, length, fold, ◌==◌, nat_le}
use Rattle.arrayvec.specs.ArrayVec.{ArrayVec}
use Rattle.store.specs.declared.state.Store.{Store}
use Rattle.store.specs.Room.{steps_at}
use Rattle.vault.specs.declared.phase.Phase.{Phase}
use Rattle.vault.specs.declared.phase.Phase.TheVariants as phase

-- the phase in which so many frames are open
abbrev pub with_frames : ℕ → Phase
with_frames zero = phase.Open
with_frames (suc n) = phase.Framed n

abbrev pub phase_of : Option (ArrayVec ℕ) → Phase
phase_of None = phase.Locked
phase_of (Some marks) = with_frames (length marks.items)

-- the session's own mark is 0, and each frame's comes before those outside it
abbrev pub inwards : List ℕ → List ℕ
inwards marks = fold (λ outer mark. mark ∷ outer) (0 ∷ []) marks

-- the marks of all that is open, innermost first
abbrev pub ends : Option (ArrayVec ℕ) → List ℕ
ends None = []
ends (Some marks) = inwards marks.items

-- there are at most four frames
abbrev pub nested : Option (ArrayVec ℕ) → Bool
nested None = true
nested (Some marks) = nat_le (length marks.items) 4

-- a locked vault has nothing to undo
abbrev pub at_rest : Option (ArrayVec ℕ) → ℕ → Bool
at_rest None len = len == 0
at_rest (Some marks) len = true

module _ {T H : Type 0} where
  -- at most six entries for each step, and at most 64 steps
  abbrev pub fits : Store T H → ℕ → Bool
  fits s n = nat_le n (6 * steps_at s n) && nat_le (steps_at s n) 64

  -- marks from the innermost outwards, none above the one before it
  abbrev pub all_fit : Store T H → ℕ → List ℕ → Bool
  all_fit s top [] = true
  all_fit s top (m ∷ ms) = nat_le m top && (fits s m && all_fit s m ms)
