-- What a bank of curves means, and the laws that every bank shows. Assumes nothing.
use Rattle.std.specs.Prelude.{◌≡◌, ℕ, ◌+◌, ◌-◌, ◌*◌, ◌^◌, ◌≤◌, cond, ◌⊎◌, Some, None, Option, ◌==◌}
use Rattle.amounts.specs.Rounding.{most}

-- Direction 0 puts x's currency in and takes y's out, direction 1 is the reverse.
abbrev pub in_side : ℕ → ℕ → ℕ → ℕ
in_side direction x y = cond (direction == 0) x y

abbrev pub out_side : ℕ → ℕ → ℕ → ℕ
out_side direction x y = cond (direction == 0) y x

-- Curve, direction, x, y and the input or the output: a number, or no answer. The measure K takes curve, x and y.
pub record Curves : Type 0 where
  pub count : ℕ
  pub buy : ℕ → ℕ → ℕ → ℕ → ℕ → Option ℕ
  pub price : ℕ → ℕ → ℕ → ℕ → ℕ → Option ℕ
  pub measure : ℕ → ℕ → ℕ → ℕ
  pub degree : ℕ → ℕ

-- the measure once a came in and b went out
abbrev pub measure_after : (ℕ → ℕ → ℕ) → ℕ → ℕ → ℕ → ℕ → ℕ → ℕ
measure_after k direction x y a b = cond (direction == 0) (k (x + a) (y - b)) (k (x - b) (y + a))

-- a for b takes no more than there is, leaves room on the in side, and does not lower the measure
pub record Fair (k : ℕ → ℕ → ℕ) (direction x y a b : ℕ) : Type 0 where
  pub held : b ≤ out_side direction x y
  pub room : in_side direction x y + a ≤ most
  pub kept : k x y ≤ measure_after k direction x y a b

pub record Lawful (m : Curves) : Type 0 where
  pub few : m.count ≤ 8
  pub unknown : (c direction x y n : ℕ) → m.count ≤ c → (m.buy c direction x y n ≡ None) × (m.price c direction x y n ≡ None)
  pub two_ways : (c direction x y n : ℕ) → 2 ≤ direction → (m.buy c direction x y n ≡ None) × (m.price c direction x y n ≡ None)
  pub bought : (c direction x y a b : ℕ) → m.buy c direction x y a ≡ Some b → Fair (m.measure c) direction x y a b
  pub priced : (c direction x y a b : ℕ) → m.price c direction x y b ≡ Some a → Fair (m.measure c) direction x y a b
  pub rises : (c x y v w : ℕ) → x ≤ v → y ≤ w → m.measure c x y ≤ m.measure c v w
  pub scales : (c n x y : ℕ) → m.measure c (n * x) (n * y) ≡ n ^ m.degree c * m.measure c x y
  pub degrees : (c : ℕ) → (m.degree c ≡ 1) ⊎ (m.degree c ≡ 2)
