-- What a rate leaves is no more than the amount, and what it leaves a given amount of is no less. Assumes nothing.
use Rattle.std.proofs.Common.{ℕ, ◌-◌, ◌≤◌, arith}
use Rattle.std.proofs.lemmas.Grind.{common_steps}
use Rattle.amounts.specs.Rounding.{left, grossed}

pub left_le : (a r : ℕ) → left a r ≤ a
left_le a r = let kept : 10000 - r ≤ 10000 = omega arith in grind (arith, common_steps)

pub grossed_ge : (n r : ℕ) → r ≤ 1000 → n ≤ grossed n r
grossed_ge n r h = grind (arith, common_steps)
