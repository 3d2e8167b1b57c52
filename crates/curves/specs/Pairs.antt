-- Two banks that show their laws show them side by side. Assumes nothing.
use Rattle.std.specs.Prelude.{◌≡◌, ℕ, ◌+◌, ◌-◌, ◌*◌, ◌^◌, ◌≤◌, true, false, cond, ◌⊎◌, Some, None, Option, nat_le, nat_lt, refl}
use Rattle.std.proofs.Common.{arith}
use Rattle.std.proofs.lemmas.Bool.{cond_both}
use Rattle.std.proofs.lemmas.Bool.Decides.{nat_tests}
use Rattle.curves.specs.Meaning.{Curves, Fair, Lawful}
use Rattle.curves.specs.Single.{unless}
use Rattle.amounts.proofs.Pairs.{split_has}
use Rattle.amounts.specs.Pair.{both, split}
use Rattle.curves.specs.Beside.{beside}
use Rattle.curves.specs.Options.{passed, still_none}

-- a number that the pair lacks has no answer
lacking : (m n c : ℕ) (f g : ℕ → Option ℕ) → both 8 m n ≤ c → ((k : ℕ) → n ≤ k → g k ≡ None) → unless (nat_le 8 c) (split m f g c) ≡ None
lacking m n c f g h second =
    cond_both (nat_le 8 c) None (split m f g c) (λ r. r ≡ None) (λ e. refl)
    (λ e.
    let past : m + n ≤ c = grind (arith, nat_tests) in
    split_has (λ r. r ≡ None) m f g c (λ here. absurd (omega arith)) (λ there. second (c - m) (omega arith)))

-- an answer of the pair is one of the bank that has the number
fair_either : (m c direction x y a b n : ℕ) (f g : ℕ → Option ℕ) (k l : ℕ → ℕ → ℕ → ℕ) → unless (nat_le 8 c) (split m f g c) ≡ Some n → (f c ≡ Some n → Fair (k c) direction x y a b) → (g (c - m) ≡ Some n → Fair (l (c - m)) direction x y a b) → Fair (split m k l c) direction x y a b
fair_either m c direction x y a b n f g k l e first second =
    let p = passed (nat_le 8 c) (split m f g c) n e in
    elim (nat_lt c m) as (λ t. cond t (f c) (g (c - m)) ≡ Some n → Fair (cond t (k c) (l (c - m))) direction x y a b) [ true ↦ first | false ↦ second ] p.1

pub beside_lawful : (a b : Curves) → Lawful a → Lawful b → Lawful (beside a b)
beside_lawful a b la lb =
    record {
      few = grind (arith, nat_tests);
      unknown = λ c direction x y n h. (lacking a.count b.count c (λ k. a.buy k direction x y n) (λ k. b.buy k direction x y n) h (λ k past. (lb.unknown k direction x y n past).0), lacking a.count b.count c (λ k. a.price k direction x y n) (λ k. b.price k direction x y n) h (λ k past. (lb.unknown k direction x y n past).1));
      two_ways = λ c direction x y n h. (
        still_none (nat_le 8 c) _ (split_has (λ r. r ≡ None) a.count (λ k. a.buy k direction x y n) (λ k. b.buy k direction x y n) c (λ _. (la.two_ways c direction x y n h).0) (λ _. (lb.two_ways (c - a.count) direction x y n h).0)),
        still_none (nat_le 8 c) _ (split_has (λ r. r ≡ None) a.count (λ k. a.price k direction x y n) (λ k. b.price k direction x y n) c (λ _. (la.two_ways c direction x y n h).1) (λ _. (lb.two_ways (c - a.count) direction x y n h).1)),
      );
      bought = λ c direction x y i o e. fair_either a.count c direction x y i o o (λ k. a.buy k direction x y i) (λ k. b.buy k direction x y i) a.measure b.measure e (la.bought c direction x y i o) (lb.bought (c - a.count) direction x y i o);
      priced = λ c direction x y i o e. fair_either a.count c direction x y i o i (λ k. a.price k direction x y o) (λ k. b.price k direction x y o) a.measure b.measure e (la.priced c direction x y i o) (lb.priced (c - a.count) direction x y i o);
      rises = λ c x y v w h k. split_has (λ f. f x y ≤ f v w) a.count a.measure b.measure c (λ _. la.rises c x y v w h k) (λ _. lb.rises (c - a.count) x y v w h k);
      scales = λ c n x y.
          elim (nat_lt c a.count) as (λ t. cond t (a.measure c) (b.measure (c - a.count)) (n * x) (n * y) ≡ n ^ cond t (a.degree c) (b.degree (c - a.count)) * cond t (a.measure c) (b.measure (c - a.count)) x y) [
            | true ↦ la.scales c n x y
            | false ↦ lb.scales (c - a.count) n x y
          ];
      degrees = λ c. split_has (λ d. (d ≡ 1) ⊎ (d ≡ 2)) a.count a.degree b.degree c (λ _. la.degrees c) (λ _. lb.degrees (c - a.count));
    }
