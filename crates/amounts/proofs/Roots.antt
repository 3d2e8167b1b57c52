-- The root that is found digit by digit is the whole part of the square root, and there is only one. Assumes nothing.
use Rattle.std.proofs.Common.{◌≡◌, ℕ, zero, suc, ◌+◌, ◌*◌, ◌/◌, ◌^◌, ◌<◌, ◌≤◌, Bool, true, false, cond, leb, refl, mul-le-mul, lt_of_not-le, arith, leb-false, leb-true}
use Rattle.amounts.specs.Shares.{root_below, root}

abbrev pub Root : ℕ → ℕ → Type 0
Root r n = (r * r ≤ n) × (n < (r + 1) * (r + 1))

digit : (r n : ℕ) (b : Bool) → Root r (n / 4) → leb ((2 * r + 1) * (2 * r + 1)) n ≡ b → Root (cond b (2 * r + 1) (2 * r)) n
digit r n true h e = (leb-true _ _ e, omega (arith, h.1))
digit r n false h e = (omega (arith, h.0), leb-false _ _ e)

below : (k n : ℕ) → n < 4 ^ k → Root (root_below k n) n
unfolding root_below
below zero n h = omega arith
below (suc k) n h = digit (root_below k (n / 4)) n _ (below k (n / 4) (omega arith)) refl

pub root_is : (n : ℕ) → n < 2 ^ 64 → Root (root n) n
unfolding root
root_is n h = below 32 n h

le_of_squares : (a b : ℕ) → a * a < b * b → a < b
le_of_squares a b h = lt_of_not-le (λ (g : b ≤ a). omega (arith, mul-le-mul g g))

pub only_root : (r s n : ℕ) → Root r n → Root s n → r ≡ s
only_root r s n h k =
    let p : r < s + 1 = le_of_squares r (s + 1) (omega arith) in
    let q : s < r + 1 = le_of_squares s (r + 1) (omega arith) in
    omega arith
