-- What an answer under a test tells. Assumes nothing.
use Rattle.std.specs.Prelude.{◌≡◌, ℕ, Bool, true, false, Some, None, Option, refl}
use Rattle.std.proofs.Common.{ap, arith}
use Rattle.curves.specs.Single.{unless}

pub none_is_not : {X : Type 0} {n : ℕ} → None ≡ Some n → X
none_is_not e = let z : ◌≡◌ {A = ℕ} 0 1 = cc in absurd (omega arith)

pub same_number : {m n : ℕ} → Some m ≡ Some n → m ≡ n
same_number e = cc

pub passed : (against : Bool) (r : Option ℕ) (n : ℕ) → unless against r ≡ Some n → (against ≡ false) × (r ≡ Some n)
passed true r n e = none_is_not e
passed false r n e = (refl, e)

pub still_none : (against : Bool) (r : Option ℕ) → r ≡ None → unless against r ≡ None
still_none true r e = refl
still_none false r e = e

pub barred : (against : Bool) (r : Option ℕ) → against ≡ true → unless against r ≡ None
barred against r e = ap (λ t. unless t r) e
