-- A fee over a bank that shows its laws shows them too. Assumes nothing.
use Rattle.std.specs.Prelude.{◌≡◌, ℕ, ◌+◌, ◌-◌, ◌≤◌, true, false, cond, Some, None, Option, ◌==◌, nat_lt, refl}
use Rattle.std.proofs.Common.{ap, subst, le_trans, arith}
use Rattle.std.proofs.lemmas.Bool.Decides.{nat_tests}
use Rattle.amounts.specs.Rounding.{most, left, grossed}
use Rattle.amounts.proofs.Parts.{left_le, grossed_ge}
use Rattle.curves.specs.Meaning.{Curves, Fair, Lawful, in_side, measure_after}
use Rattle.curves.specs.Fee.{fee, with_fee}
use Rattle.curves.specs.Options.{none_is_not, passed, still_none, same_number}

-- what is fair for an input is fair for a larger one that the in side has room for
pub fair_more : (k : ℕ → ℕ → ℕ) → ((x y v w : ℕ) → x ≤ v → y ≤ w → k x y ≤ k v w) → (direction x y a more b : ℕ) → a ≤ more → in_side direction x y + more ≤ most → Fair k direction x y a b → Fair k direction x y more b
fair_more k rises direction x y a more b h room f =
    let step : measure_after k direction x y a b ≤ measure_after k direction x y more b =
    elim (direction == 0) as (λ t. cond t (k (x + a) (y - b)) (k (x - b) (y + a)) ≤ cond t (k (x + more) (y - b)) (k (x - b) (y + more))) [
      | true ↦ rises (x + a) (y - b) (x + more) (y - b) (omega arith) (omega arith)
      | false ↦ rises (x - b) (y + a) (x - b) (y + more) (omega arith) (omega arith)
    ]
    in
    record { held = f.held; room = room; kept = le_trans f.kept step }

-- the price under a fee is that of an answer below, with the fee
with_fee_of : (rate i a : ℕ) (r : Option ℕ) → with_fee rate i r ≡ Some a → (n : ℕ) × (r ≡ Some n) × (i + a ≤ most) × (grossed n rate ≡ a)
with_fee_of rate i a None e = none_is_not e
with_fee_of rate i a (Some n) e =
    let p = passed (nat_lt most (i + grossed n rate)) (Some (grossed n rate)) a e in
    let same = same_number p.1 in
    let room : i + grossed n rate ≤ most = grind (arith, nat_tests, p.0) in
    (n, refl, subst (λ g. i + g ≤ most) same room, same)

pub fee_lawful : (m : Curves) (rate : ℕ) → rate ≤ 1000 → Lawful m → Lawful (fee m rate)
fee_lawful m rate small below =
    record {
      few = below.few;
      unknown = λ c direction x y n h. (still_none _ _ (below.unknown c direction x y (left n rate) h).0, ap (with_fee rate (in_side direction x y)) (below.unknown c direction x y n h).1);
      two_ways = λ c direction x y n h. (still_none _ _ (below.two_ways c direction x y (left n rate) h).0, ap (with_fee rate (in_side direction x y)) (below.two_ways c direction x y n h).1);
      bought =
          λ c direction x y a b e.
          let p = passed (nat_lt most (in_side direction x y + a)) (m.buy c direction x y (left a rate)) b e in
          let room : in_side direction x y + a ≤ most = grind (arith, nat_tests, p.0) in
          fair_more _ (below.rises c) direction x y (left a rate) a b (left_le a rate) room (below.bought c direction x y (left a rate) b p.1);
      priced =
          λ c direction x y a b e.
          let p = with_fee_of rate (in_side direction x y) a (m.price c direction x y b) e in
          let n = p.0 in
          let more : n ≤ a = subst (λ g. n ≤ g) p.3 (grossed_ge n rate small) in
          fair_more _ (below.rises c) direction x y n a b more p.2 (below.priced c direction x y n b p.1);
      rises = below.rises;
      scales = below.scales;
      degrees = below.degrees;
    }
