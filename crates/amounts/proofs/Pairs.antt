-- What two banks share, their pair has. Assumes nothing.
use Rattle.std.proofs.Common.{ℕ, ◌-◌, ◌<◌, ◌≤◌, refl, subst, ⊎_elim}
use Rattle.std.proofs.lemmas.Bool.{cases_lt, cond_below, cond_above}
use Rattle.amounts.specs.Pair.{split}

-- what holds of the first bank at its numbers and of the second at the others holds of the pair
pub split_has : {X : Type 0} (P : X → Type 0) (count : ℕ) (f g : ℕ → X) (n : ℕ) → (n < count → P (f n)) → (count ≤ n → P (g (n - count))) → P (split count f g n)
split_has P count f g n first second =
    ⊎_elim
    (λ (h : n < count). subst P (cond_below n count (f n) (g (n - count)) h) (first h))
    (λ (h : count ≤ n). subst P (cond_above n count (f n) (g (n - count)) _ h refl) (second h))
    (cases_lt n count)
