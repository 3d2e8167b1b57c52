-- A bank of one curve whose measure does not tell its sides apart shows all laws, if the curve shows them in direction 0.
-- So product and sum do. Assumes nothing.
use Rattle.std.specs.Prelude.{◌≡◌, ℕ, ◌+◌, ◌-◌, ◌*◌, ◌/◌, ◌^◌, ◌≤◌, Bool, true, false, cond, ◌||◌, ◌⊎◌, Some, Option, ◌==◌, nat_le, nat_lt, refl}
use Rattle.std.proofs.Common.{subst, inl, inr, mul_comm, mul-le-mul, add_comm, arith}
use Rattle.std.proofs.lemmas.Bool.Decides.{nat_tests}
use Rattle.amounts.specs.Rounding.{most}
use Rattle.curves.specs.Meaning.{Fair, Lawful, in_side, out_side}
use Rattle.curves.specs.Single.{single, product, product_buy, product_price, product_input, sum, sum_trade}
use Rattle.curves.specs.Options.{passed, barred, same_number}
use Rattle.curves.specs.Floors.{floor_le, bought_keeps, priced_keeps, product_scales, sum_scales}

pub record Even (buy price : ℕ → ℕ → ℕ → Option ℕ) (k : ℕ → ℕ → ℕ) (d : ℕ) : Type 0 where
  turned : (x y : ℕ) → k x y ≡ k y x
  bought : (i o a b : ℕ) → buy i o a ≡ Some b → Fair k 0 i o a b
  priced : (i o a b : ℕ) → price i o b ≡ Some a → Fair k 0 i o a b
  rises : (x y v w : ℕ) → x ≤ v → y ≤ w → k x y ≤ k v w
  scales : (n x y : ℕ) → k (n * x) (n * y) ≡ n ^ d * k x y
  degrees : (d ≡ 1) ⊎ (d ≡ 2)

-- what is fair in direction 0 is fair in the direction that puts the same sides in and out
either_way : (k : ℕ → ℕ → ℕ) → ((x y : ℕ) → k x y ≡ k y x) → (direction x y a b : ℕ) → Fair k 0 (in_side direction x y) (out_side direction x y) a b → Fair k direction x y a b
either_way k turned direction x y a b f =
    let kept_at : (t : Bool) → k (cond t x y) (cond t y x) ≤ k (cond t x y + a) (cond t y x - b) → k x y ≤ cond t (k (x + a) (y - b)) (k (x - b) (y + a)) =
    λ t. elim t as (λ t. k (cond t x y) (cond t y x) ≤ k (cond t x y + a) (cond t y x - b) → k x y ≤ cond t (k (x + a) (y - b)) (k (x - b) (y + a))) [
      | true ↦ λ h. h
      | false ↦ λ h. omega (arith, turned x y, turned (x - b) (y + a), h)
    ]
    in
    record { held = f.held; room = f.room; kept = kept_at (direction == 0) f.kept }

stranger : (c : ℕ) (direction : ℕ) → (1 ≤ c) ⊎ (2 ≤ direction) → (nat_lt 0 c || nat_lt 1 direction) ≡ true
stranger c direction (inl h) = grind (arith, nat_tests)
stranger c direction (inr h) = grind (arith, nat_tests)

pub single_lawful : (buy price : ℕ → ℕ → ℕ → Option ℕ) (k : ℕ → ℕ → ℕ) (d : ℕ) → Even buy price k d → Lawful (single buy price k d)
single_lawful buy price k d even =
    record {
      few = omega arith;
      unknown = λ c direction x y n h. (barred _ _ (stranger c direction (inl h)), barred _ _ (stranger c direction (inl h)));
      two_ways = λ c direction x y n h. (barred _ _ (stranger c direction (inr h)), barred _ _ (stranger c direction (inr h)));
      bought = λ c direction x y a b e. either_way k even.turned direction x y a b (even.bought _ _ a b (passed _ _ b e).1);
      priced = λ c direction x y a b e. either_way k even.turned direction x y a b (even.priced _ _ a b (passed _ _ a e).1);
      rises = λ c. even.rises;
      scales = λ c. even.scales;
      degrees = λ c. even.degrees;
    }

pub product_lawful : Lawful product
product_lawful =
    single_lawful product_buy product_price (λ x y. x * y) 2
    (record {
      turned = λ x y. mul_comm x y;
      bought =
          λ i o a b e.
          let p = passed (i == 0 || (o == 0 || nat_lt most (i + a))) (Some (o * a / (i + a))) b e in
          let room : i + a ≤ most = grind (arith, nat_tests, p.0) in
          subst (λ n. Fair (λ x y. x * y) 0 i o a n) (same_number p.1) (record { held = floor_le i o a; room = room; kept = bought_keeps i o a });
      priced =
          λ i o a b e.
          let p = passed (i == 0 || (nat_le o b || nat_lt most (i + product_input i o b))) (Some (product_input i o b)) a e in
          let less : b + 1 ≤ o = grind (arith, nat_tests, p.0) in
          let room : i + product_input i o b ≤ most = grind (arith, nat_tests, p.0) in
          subst (λ n. Fair (λ x y. x * y) 0 i o n b) (same_number p.1) (record { held = omega arith; room = room; kept = priced_keeps i o b (omega arith) });
      rises = λ x y v w h k. mul-le-mul h k;
      scales = product_scales;
      degrees = inr refl;
    })

traded : (i o n m : ℕ) → sum_trade i o n ≡ Some m → Fair (λ x y. x + y) 0 i o n n × (n ≡ m)
traded i o n m e =
    let p = passed (nat_lt o n || nat_lt most (i + n)) (Some n) m e in
    let there : n ≤ o = grind (arith, nat_tests, p.0) in
    let room : i + n ≤ most = grind (arith, nat_tests, p.0) in
    (record { held = there; room = room; kept = omega arith }, same_number p.1)

pub sum_lawful : Lawful sum
sum_lawful =
    single_lawful sum_trade sum_trade (λ x y. x + y) 1
    (record {
      turned = λ x y. add_comm x y;
      bought = λ i o a b e. let t = traded i o a b e in subst (λ n. Fair (λ x y. x + y) 0 i o a n) t.1 t.0;
      priced = λ i o a b e. let t = traded i o b a e in subst (λ n. Fair (λ x y. x + y) 0 i o n b) t.1 t.0;
      rises = λ x y v w h k. omega arith;
      scales = sum_scales;
      degrees = inl refl;
    })
