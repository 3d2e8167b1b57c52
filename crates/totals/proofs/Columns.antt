-- What a changed cell does to the sum down its column and to no other, and the sums of a new book. Assumes nothing.
use Rattle.std.proofs.Common.{◌≡◌, ℕ, zero, suc, ◌+◌, ◌<◌, cond, eqb, None, List, [], ◌∷◌, length, get_or, set, replicate, ℤ, pos, ◌+ℤ◌, ◌-ℤ◌, fold, sum_by, count_by, refl, ap, ◌∙◌, le_of_suc-le-suc, not-suc-le-zero, arith}
use Rattle.std.proofs.lemmas.List.{get_or-set_same, get_or-set_other}
use Rattle.std.proofs.lemmas.Int.{ints}
use Rattle.std.proofs.lemmas.List.Sums.{sum_by-cons, sum_by-set}
use Rattle.std.proofs.lemmas.Bool.Decides.{nat_tests}
use Rattle.book.specs.New.{new_book}
use Rattle.book.specs.Reads.{delta}
use Rattle.amounts.specs.Rows.{at2, put2}
use Rattle.totals.specs.Totals.{held, pools_in, claims_in, column, deltas_in, is_open}

-- the signed sum of f over a list, from z on
abbrev signed : {X : Type 0} → (X → ℤ) → ℤ → List X → ℤ
signed f z xs = fold (λ sum x. sum +ℤ f x) z xs

-- what it starts from stays a part of it
signed_from : {X : Type 0} (f : X → ℤ) (z d : ℤ) (xs : List X) → signed f (z +ℤ d) xs ≡ signed f z xs +ℤ d
signed_from f z d [] = refl
signed_from f z d (x ∷ xs) = ap (λ n. signed f n xs) (omega (arith, ints)) ∙ signed_from f (z +ℤ f x) d xs

signed_set : {X : Type 0} (f : X → ℤ) (z : ℤ) (xs : List X) (i : ℕ) (y d : X) → i < length xs → signed f z (set xs i y) ≡ signed f z xs +ℤ (f y -ℤ f (get_or xs i d))
signed_set f z [] i y d h = absurd (not-suc-le-zero h)
signed_set f z (x ∷ xs) zero y d h = ap (λ n. signed f n xs) (omega (arith, ints)) ∙ signed_from f (z +ℤ f x) (f y -ℤ f x) xs
signed_set f z (x ∷ xs) (suc i) y d h = signed_set f (z +ℤ f x) xs i y d (le_of_suc-le-suc h)

-- what a changed cell of claims, and of deltas, does to every column
pub claims_put : (rows : List (List ℕ)) (i j v : ℕ) → i < length rows → j < length (get_or rows i []) → (c : ℕ) → pos (sum_by (λ r. get_or r c 0) (put2 rows i j v)) ≡ pos (sum_by (λ r. get_or r c 0) rows) +ℤ cond (eqb j c) (pos v -ℤ pos (at2 rows i j 0)) (pos 0)
claims_put rows i j v h k c = let sum = sum_by-set (λ r. get_or r c 0) rows i (set (get_or rows i []) j v) [] h in grind (arith, ints, nat_tests, get_or-set_same, get_or-set_other)

pub deltas_put : (rows : List (List ℤ)) (i j : ℕ) (v : ℤ) → i < length rows → j < length (get_or rows i []) → (c : ℕ) → column (put2 rows i j v) c ≡ column rows c +ℤ cond (eqb j c) (v -ℤ at2 rows i j (pos 0)) (pos 0)
deltas_put rows i j v h k c = let sum = signed_set (λ r. get_or r c (pos 0)) (pos 0) rows i (set (get_or rows i []) j v) [] h in grind (arith, ints, nat_tests, get_or-set_same, get_or-set_other)

-- no part of a sum that is 0 is more than 0
no_part : {X : Type 0} (f : X → ℕ) (d : X) → f d ≡ 0 → (xs : List X) → sum_by f xs ≡ 0 → (i : ℕ) → f (get_or xs i d) ≡ 0
no_part f d none [] h i = none
no_part f d none (x ∷ xs) h zero = omega (arith, sum_by-cons f x xs)
no_part f d none (x ∷ xs) h (suc i) = no_part f d none xs (omega (arith, sum_by-cons f x xs)) i

-- how much a debt adds to the count of those that are open
abbrev weight : ℤ → ℕ
weight z = cond (is_open z) 1 0

shut : (z : ℤ) → weight z ≡ 0 → z ≡ pos 0
shut z h = grind (arith, ints, nat_tests)

-- where no debt is open, every delta is 0
pub settled : (rows : List (List ℤ)) → sum_by (λ row. count_by is_open row) rows ≡ 0 → (i j : ℕ) → at2 rows i j (pos 0) ≡ pos 0
settled rows h i j = shut (at2 rows i j (pos 0)) (no_part weight (pos 0) refl (get_or rows i []) (no_part (λ row. count_by is_open row) [] refl rows h i) j)

-- what holds of the one element of a list and of the default holds of what is read
read : {X : Type 0} (P : X → Type 0) (x d : X) → P x → P d → (n i : ℕ) → P (get_or (replicate n x) i d)
read P x d here past zero i = past
read P x d here past (suc n) zero = here
read P x d here past (suc n) (suc i) = read P x d here past n i

-- a sum of nothing, over and over
still : {X Y : Type 0} (f : Y → X → Y) (y : Y) (x : X) → f y x ≡ y → (n : ℕ) → fold f y (replicate n x) ≡ y
still f y x e zero = refl
still f y x e (suc n) = ap (λ z. fold f z (replicate n x)) e ∙ still f y x e n

pub new_pools : (c : ℕ) → pools_in new_book c ≡ 0
new_pools c = still (λ a p. a + held p c) 0 None refl 8

pub new_claims : (c : ℕ) → claims_in new_book c ≡ 0
new_claims c = still (λ a (r : List ℕ). a + get_or r c 0) 0 (replicate 8 0) (read (λ n. 0 + n ≡ 0) 0 0 refl refl 8 c) 16

pub new_deltas : (c : ℕ) → deltas_in new_book c ≡ pos 0
new_deltas c = still (λ a (r : List ℤ). a +ℤ get_or r c (pos 0)) (pos 0) (replicate 8 (pos 0)) (read (λ n. pos 0 +ℤ n ≡ pos 0) (pos 0) (pos 0) refl refl 8 c) 16

pub new_delta : (who c : ℕ) → delta new_book who c ≡ pos 0
new_delta who c = read (λ (r : List ℤ). get_or r c (pos 0) ≡ pos 0) (replicate 8 (pos 0)) [] (read (λ z. z ≡ pos 0) (pos 0) (pos 0) refl refl 8 c) refl 16 who
