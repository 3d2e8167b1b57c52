-- The largest amount, the two ways of rounding, and rates in ten-thousandths. Assumes nothing.
use Rattle.std.specs.Prelude.{ℕ, ◌+◌, ◌-◌, ◌*◌, ◌/◌}

-- the largest amount, M
abbrev pub most : ℕ
most = 2147483647

-- n / d rounded down
abbrev pub down : ℕ → ℕ → ℕ
down n d = n / d

-- n / d rounded up
abbrev pub up : ℕ → ℕ → ℕ
up n d = (n + (d - 1)) / d

-- what a rate takes of an amount
abbrev pub part : ℕ → ℕ → ℕ
part a rate = down (a * rate) 10000

-- what is left of an amount under a rate
abbrev pub left : ℕ → ℕ → ℕ
left a rate = down (a * (10000 - rate)) 10000

-- the amount of which a rate leaves n
abbrev pub grossed : ℕ → ℕ → ℕ
grossed n rate = up (n * 10000) (10000 - rate)
