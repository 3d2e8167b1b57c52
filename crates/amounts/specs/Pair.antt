-- Two banks side by side. Assumes nothing.
use Rattle.std.specs.Prelude.{ℕ, ◌+◌, ◌-◌, cond, Some, None, Option, nat_le, nat_lt}
use Rattle.amounts.specs.declared.pair.Place.{Place}
use Rattle.amounts.specs.declared.pair.Place.TheVariants.{First, Second}

-- the sum of both counts, cut at the bound
abbrev pub both : ℕ → ℕ → ℕ → ℕ
both bound m n = cond (nat_le (m + n) bound) (m + n) bound

-- whose a number below the bound is
abbrev pub place : ℕ → ℕ → ℕ → Option Place
place bound first n = cond (nat_le bound n) None (Some (cond (nat_lt n first) (First n) (Second (n - first))))

-- what the first bank has for its numbers, and the second for the others, less the first one's count
abbrev pub split : {X : Type 0} → ℕ → (ℕ → X) → (ℕ → X) → ℕ → X
split first f g n = cond (nat_lt n first) (f n) (g (n - first))
