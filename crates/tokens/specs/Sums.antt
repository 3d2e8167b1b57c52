-- Sums of the first values of a function, and what a change at one or two places does to them. Assumes nothing.
use Rattle.std.specs.Prelude.{◌≡◌, ℕ, zero, suc, ◌+◌, ◌<◌, ◌≤◌, ◌≢◌, refl}
use Rattle.std.proofs.Common.{arith}
use Rattle.std.proofs.lemmas.Bool.Decides.{nat_tests}
use Rattle.amounts.specs.Rows.{at}
use Rattle.tokens.specs.Meaning.{sum_below}

pub sum_none : (f : ℕ → ℕ) → sum_below 0 f ≡ 0
unfolding sum_below
sum_none f = refl

pub sum_more : (n : ℕ) (f : ℕ → ℕ) → sum_below (n + 1) f ≡ sum_below n f + f n
unfolding sum_below
sum_more n f = rw native.Mathlib.Numerals.add-one

pub sum_same : (n : ℕ) (f g : ℕ → ℕ) → ((k : ℕ) → k < n → f k ≡ g k) → sum_below n f ≡ sum_below n g
unfolding sum_below
sum_same zero f g e = refl
sum_same (suc n) f g e = let h = sum_same n f g (λ k l. e k (omega arith)) in omega (arith, h, e n (omega arith))

pub sum_at : (n : ℕ) (f : ℕ → ℕ) (i v : ℕ) → i < n → sum_below n (at f i v) + f i ≡ sum_below n f + v
unfolding sum_below
sum_at zero f i v h = absurd (omega arith)
sum_at (suc n) f i v h =
    let past = sum_same n (at f n v) f (λ k l. grind (arith, nat_tests)) in
    let below = sum_at n f i v in
    grind (arith, nat_tests)

pub part_of_sum : (n : ℕ) (f : ℕ → ℕ) (i : ℕ) → i < n → f i ≤ sum_below n f
part_of_sum n f i h = omega (arith, sum_at n f i 0 h)

pub two_of_sum : (n : ℕ) (f : ℕ → ℕ) (i j : ℕ) → i < n → j < n → (i ≢ j) → f i + f j ≤ sum_below n f
two_of_sum n f i j hi hj ne =
    let other : at f i 0 j ≡ f j = grind (arith, nat_tests) in
    omega (arith, sum_at n f i 0 hi, part_of_sum n (at f i 0) j hj, other)
