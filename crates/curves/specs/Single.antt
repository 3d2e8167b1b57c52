-- Banks of one curve: product and sum. Assumes nothing.
use Rattle.std.specs.Prelude.{ℕ, ◌+◌, ◌-◌, ◌*◌, Bool, cond, ◌||◌, Some, None, Option, ◌==◌, nat_le, nat_lt}
use Rattle.amounts.specs.Rounding.{most, down}
use Rattle.curves.specs.Meaning.{Curves, in_side, out_side}

-- an answer, unless something stands against it
abbrev pub unless : Bool → Option ℕ → Option ℕ
unless against r = cond against None r

-- a curve that sees the in side and the out side, under number 0 and in directions 0 and 1
abbrev pub seen : (ℕ → ℕ → ℕ → Option ℕ) → ℕ → ℕ → ℕ → ℕ → ℕ → Option ℕ
seen f c direction x y n = unless (nat_lt 0 c || nat_lt 1 direction) (f (in_side direction x y) (out_side direction x y) n)

abbrev pub single : (ℕ → ℕ → ℕ → Option ℕ) → (ℕ → ℕ → ℕ → Option ℕ) → (ℕ → ℕ → ℕ) → ℕ → Curves
single buy price k d = record { count = 1; buy = seen buy; price = seen price; measure = λ _. k; degree = λ _. d }

abbrev pub product_buy : ℕ → ℕ → ℕ → Option ℕ
product_buy i o a = unless (i == 0 || (o == 0 || nat_lt most (i + a))) (Some (down (o * a) (i + a)))

abbrev pub product_input : ℕ → ℕ → ℕ → ℕ
product_input i o b = down (i * b) (o - b) + 1

abbrev pub product_price : ℕ → ℕ → ℕ → Option ℕ
product_price i o b = unless (i == 0 || (nat_le o b || nat_lt most (i + product_input i o b))) (Some (product_input i o b))

-- K = x × y, of degree 2
abbrev pub product : Curves
product = single product_buy product_price (λ x y. x * y) 2

-- a unit for a unit, both ways
abbrev pub sum_trade : ℕ → ℕ → ℕ → Option ℕ
sum_trade i o n = unless (nat_lt o n || nat_lt most (i + n)) (Some n)

-- K = x + y, of degree 1
abbrev pub sum : Curves
sum = single sum_trade sum_trade (λ x y. x + y) 1
