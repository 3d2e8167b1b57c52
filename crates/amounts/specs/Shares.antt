-- What a first deposit makes, what later deposits cost and withdrawals pay. Assumes nothing.
use Rattle.std.specs.Prelude.{ℕ, zero, suc, ◌+◌, ◌-◌, ◌*◌, ◌/◌, cond, Some, None, Option, nat_le}
use Rattle.amounts.specs.Rounding.{up, down}

-- one binary digit more of a root, for n
abbrev pub next_digit : ℕ → ℕ → ℕ
next_digit r n = cond (nat_le ((2 * r + 1) * (2 * r + 1)) n) (2 * r + 1) (2 * r)

-- the whole part of the square root of an n below 4 ^ k; std has one for its floats, and here a reader sees how it is found
unfoldable pub root_below : ℕ → ℕ → ℕ
root_below zero n = 0
root_below (suc k) n = next_digit (root_below k (n / 4)) n

-- the whole part of the square root, of every n below 2 ^ 64
unfoldable pub root : ℕ → ℕ
root n = root_below 32 n

-- the shares for a first deposit of a and b: the root of a × b, of which 1000 belong to nobody
abbrev pub seeded : ℕ → ℕ → Option ℕ
seeded a b = cond (nat_le (root (a * b)) 1000) None (Some (root (a * b) - 1000))

-- a deposit costs its share of a holding, rounded up
abbrev pub cost : ℕ → ℕ → ℕ → ℕ
cost s x total = up (s * x) total

-- a withdrawal pays its share of a holding, rounded down
abbrev pub paid : ℕ → ℕ → ℕ → ℕ
paid s x total = down (s * x) total
