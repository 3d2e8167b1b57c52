-- A fee over any bank of curves. Assumes nothing.
use Rattle.std.specs.Prelude.{ℕ, ◌+◌, Some, None, Option, nat_lt}
use Rattle.amounts.specs.Rounding.{most, left, grossed}
use Rattle.curves.specs.Meaning.{Curves, in_side}
use Rattle.curves.specs.Single.{unless}

-- the whole input a stays in the pool, and the curve below sees what the fee leaves of it
abbrev pub fee_buy : Curves → ℕ → ℕ → ℕ → ℕ → ℕ → ℕ → Option ℕ
fee_buy m rate c direction x y a = unless (nat_lt most (in_side direction x y + a)) (m.buy c direction x y (left a rate))

-- an input of which the fee leaves the price below, where the in side has room for it
abbrev pub with_fee : ℕ → ℕ → Option ℕ → Option ℕ
with_fee rate i None = None
with_fee rate i (Some n) = unless (nat_lt most (i + grossed n rate)) (Some (grossed n rate))

abbrev pub fee_price : Curves → ℕ → ℕ → ℕ → ℕ → ℕ → ℕ → Option ℕ
fee_price m rate c direction x y b = with_fee rate (in_side direction x y) (m.price c direction x y b)

abbrev pub fee : Curves → ℕ → Curves
fee m rate = record { count = m.count; buy = fee_buy m rate; price = fee_price m rate; measure = m.measure; degree = m.degree }
