-- A new book is shaped, and every action keeps the balance equation of every currency. Assumes nothing.
use Rattle.std.proofs.Common.{ℕ, ◌≤◌, Bool, [], length, replicate, ℤ, pos, refl, ap}
use Rattle.std.proofs.lemmas.List.{get_or-replicate}
use Rattle.actions.specs.declared.action.Action.{Action}
use Rattle.actions.specs.Acts.{act}
use Rattle.actions.specs.Balance.{Sized, Shaped, Sound, Keeps}
use Rattle.actions.proofs.Walks.{walked}
use Rattle.book.specs.New.{new_book}
use Rattle.store.specs.World.{World}

new_sized : {A : Type 0} (x : A) → Sized (replicate 16 (replicate 8 x))
new_sized x = record { count = refl; wide = λ i low. ap length (get_or-replicate 16 i (replicate 8 x) [] low) }

pub new_shaped : Shaped new_book
new_shaped = record { claims = new_sized 0; deltas = new_sized (pos 0) }

pub keeps : (start : World) → start.tokens.count ≤ 8 → (session : Bool) (w : World) (strays : ℕ → ℤ) → Sound start w strays → (a : Action) → Keeps start strays a (act session w a)
keeps start few session w strays s a = (walked session w a).1 (record { start = start; few = few; strays = strays; sound = s })
