-- What `sum` requires over the rows of an array. Assumes nothing.
use Rattle.std.proofs.Common.{◌≡◌, ℕ, ◌+◌, ◌-◌, ◌/◌, ◌<◌, ◌≤◌, length, fold, Bor, Iter, refl}
use Rattle.std.proofs.lemmas.Iterator.{YieldsList-from_slice}
use Rattle.std.proofs.lemmas.Iterator.Adapters.{fits_from_length, at_most_from_yields_List}
use Rattle.std.specs.Iterator.Adapters.{map_source, map_callee, map_steps}
use Rattle.std.specs.Iterator.Runs.{EachRunFrom}
use Rattle.std.specs.Slice.Iter.{iter_rest, iter_steps}
use Rattle.std.specs.declared.iter.Map.{Map}
use Rattle.std.specs.Fn.{Called}
use denote.Param.Members.{Mut}

-- there are sixteen at most, and what a closure gives for each is small enough
pub row_sums_fit : {X F : Type 0} {s : Map (Iter X) F} {g : Mut F (Bor X × Unit {0}) ℕ} {top : ℕ} → length (iter_rest (map_source s)) ≤ 16 → 0 < top → ((x : Bor X) (r : ℕ) (q : F) → Called g (map_callee s) (x, tt) r q → (q ≡ map_callee s) × (r ≤ (top - 1) / 16)) → EachRunFrom (map_steps iter_steps g) s (λ p. fold (λ a x. a + x) 0 p.items < top)
row_sums_fit few some each = fits_from_length _ _ 16 _ (at_most_from_yields_List (YieldsList-from_slice _ refl) few) refl some each
