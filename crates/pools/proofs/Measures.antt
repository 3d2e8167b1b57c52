-- Deposits and withdrawals do not lower the measure per share. Assumes nothing.
use Rattle.std.proofs.Common.{◌≡◌, ℕ, ◌+◌, ◌-◌, ◌*◌, ◌/◌, ◌^◌, ◌<◌, ◌≤◌, Bool, true, false, not, ◌&&◌, eqb, leb, Ok, Err, Result, refl, ap, ◌∙◌, subst, mul_comm, add-mul, mul-add, mul-le-mul, arith}
use Rattle.std.proofs.Math.Nat.{div-le_of_le-mul, mul-div-le, lt-div-mul-add}
use Rattle.std.proofs.lemmas.Bool.Decides.{nat_tests}
use Rattle.amounts.specs.Checks.{need, with_ok}
use Rattle.amounts.specs.Shares.{cost, paid}
use Rattle.book.specs.declared.records.Book.{Book}
use Rattle.book.specs.declared.records.Pool.{Pool}
use Rattle.checks.specs.Tests.{has_room}
use Rattle.curves.specs.Meaning.{Curves, Lawful}
use Rattle.faults.specs.declared.cause.Cause.{Cause}
use Rattle.faults.specs.declared.cause.Cause.TheVariants as cause
use Rattle.pools.specs.declared.change.Change.{Change}
use Rattle.pools.specs.declared.change.Deltas.{Deltas}
use Rattle.pools.specs.Measure.{NoPoorer}
use Rattle.pools.specs.Pools.{share, charged, credited, deposit, withdrawal}

-- what passed a test is what stands behind it
pub passed : {X E : Type 0} (t : Bool) (e : E) (rest : Result X E) (x : X) → need t e rest ≡ Ok x → (t ≡ true) × (rest ≡ Ok x)
passed true e rest x h = (refl, h)
passed false e rest x h = cc

-- and what came of a first answer is what came of it with the rest
opened : {X Y E : Type 0} (first : Result X E) (rest : X → Result Y E) (y : Y) → with_ok first rest ≡ Ok y → (x : X) × (rest x ≡ Ok y)
opened (Ok x) rest y h = (x, h)
opened (Err e) rest y h = cc

-- the pool that an accepted change leaves
abbrev pool_of : {A : Type 0} → Result (A × Change) Cause → Pool → Pool
pool_of (Ok r) l = r.1.pool
pool_of (Err e) l = l

-- a cost is a full share of a holding, or more
up_enough : (s x t : ℕ) → 0 < t → (t + s) * x ≤ t * (x + cost s x t)
up_enough s x t some =
    let q : ℕ = (s * x + (t - 1)) / t in
    let high : s * x + (t - 1) < q * t + t = lt-div-mul-add {a = s * x + (t - 1)} {b = t} some in
    omega (arith, high, some, add-mul t s x, mul-add t x q, mul_comm t q)

-- a payment is a full share of a holding, or less
down_enough : (s x t : ℕ) → s ≤ t → (t - s) * x ≤ t * (x - paid s x t)
down_enough s x t few =
    let q : ℕ = s * x / t in
    let held : q ≤ x = div-le_of_le-mul t (mul-le-mul few (omega arith)) in
    let low : t * q ≤ s * x = mul-div-le (s * x) t in
    let cut : t * x ≡ t * q + t * (x - q) = ap (λ n. t * n) (omega arith) ∙ mul-add t q (x - q) in
    let split : t * x ≡ (t - s) * x + s * x = ap (λ n. n * x) (omega arith) ∙ add-mul (t - s) s x in
    omega (arith, low, cut, split)

module _ (k : Curves) (laws : Lawful k) (l : Pool) where
  -- holdings that grow by more than the shares do
  per_share : (x y t : ℕ) → t * l.x ≤ l.total * x → t * l.y ≤ l.total * y → NoPoorer k l (record l { x = x; y = y; total = t })
  per_share x y t hx hy =
      let c = l.terms.curve in
      subst (λ n. n ≤ l.total ^ k.degree c * k.measure c x y) (laws.scales c t l.x l.y)
      (subst (λ n. k.measure c (t * l.x) (t * l.y) ≤ n) (laws.scales c l.total x y) (laws.rises c (t * l.x) (t * l.y) (l.total * x) (l.total * y) hx hy))

  pub deposit_no_poorer : (s : ℕ) → 0 < l.total → NoPoorer k l (record l { x = l.x + cost s l.x l.total; y = l.y + cost s l.y l.total; total = l.total + s })
  deposit_no_poorer s some = per_share _ _ (l.total + s) (up_enough s l.x l.total some) (up_enough s l.y l.total some)

  pub withdrawal_no_poorer : (s : ℕ) → s ≤ l.total → NoPoorer k l (record l { x = l.x - paid s l.x l.total; y = l.y - paid s l.y l.total; total = l.total - s })
  withdrawal_no_poorer s few = per_share _ _ (l.total - s) (down_enough s l.x l.total few) (down_enough s l.y l.total few)

  module _ (b : Book) (who p s : ℕ) where
    pub added_no_poorer : (r : (ℕ × ℕ) × Change) → deposit b who p l s ≡ Ok r → NoPoorer k l r.1.pool
    added_no_poorer r h =
        let a0 : ℕ = cost s l.x l.total in
        let a1 : ℕ = cost s l.y l.total in
        let set : Deltas → Result ((ℕ × ℕ) × Change) Cause = λ d. Ok ((a0, a1), record { pool = record l { x = l.x + a0; y = l.y + a1; total = l.total + s }; deltas = d; share = share b p who + s }) in
        let last = with_ok (charged b who l.terms a0 a1) set in
        let four = need (has_room (share b p who + s)) cause.Full last in
        let three = need (has_room (l.total + s)) cause.Full four in
        let two = need (has_room (l.y + a1)) cause.Full three in
        let one = need (has_room (l.x + a0)) cause.Full two in
        let some = passed (not (eqb l.total 0)) cause.Shares one r h in
        let h1 = passed (has_room (l.x + a0)) cause.Full two r some.1 in
        let h2 = passed (has_room (l.y + a1)) cause.Full three r h1.1 in
        let h3 = passed (has_room (l.total + s)) cause.Full four r h2.1 in
        let h4 = passed (has_room (share b p who + s)) cause.Full last r h3.1 in
        let rest = opened (charged b who l.terms a0 a1) set r h4.1 in
        subst (NoPoorer k l) (ap (λ x. pool_of x l) rest.1) (deposit_no_poorer s (grind (arith, nat_tests, some.0)))

    -- no more shares go than there are
    pub removed_no_poorer : s ≤ l.total → (r : (ℕ × ℕ) × Change) → withdrawal b who p l s ≡ Ok r → NoPoorer k l r.1.pool
    removed_no_poorer few r h =
        let a0 : ℕ = paid s l.x l.total in
        let a1 : ℕ = paid s l.y l.total in
        let set : Deltas → Result ((ℕ × ℕ) × Change) Cause = λ d. Ok ((a0, a1), record { pool = record l { x = l.x - a0; y = l.y - a1; total = l.total - s }; deltas = d; share = share b p who - s }) in
        let last = with_ok (credited b who l.terms a0 a1) set in
        let two = need (not (eqb a0 0 && eqb a1 0)) cause.Nothing last in
        let one = need (leb s (share b p who)) cause.SharesShort two in
        let h1 = passed (not (eqb l.total 0)) cause.Shares one r h in
        let h2 = passed (leb s (share b p who)) cause.SharesShort two r h1.1 in
        let h3 = passed (not (eqb a0 0 && eqb a1 0)) cause.Nothing last r h2.1 in
        let rest = opened (credited b who l.terms a0 a1) set r h3.1 in
        subst (NoPoorer k l) (ap (λ x. pool_of x l) rest.1) (withdrawal_no_poorer s few)
