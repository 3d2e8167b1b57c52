-- A ready-made hook keeps the laws of a bank. Assumes nothing.
use Rattle.std.proofs.Common.{rules, arith}
use Rattle.std.specs.Prelude.{◌≡◌, ℕ, ◌-◌, ◌≤◌, true}
use Rattle.std.proofs.lemmas.Grind.{common_steps}
use Rattle.std.proofs.lemmas.Bool.Decides.{nat_tests}
use Rattle.amounts.specs.Rounding.{part}
use Rattle.hooks.specs.declared.rule.HookRule.{HookRule}
use Rattle.hooks.specs.declared.rule.HookRule.TheVariants.{Open, Toll, Volume}
use Rattle.hooks.specs.Laws.{Lawful, Fit}
use Rattle.hooks.specs.Ready.{ready}
use Rattle.hooks.specs.Rules.{sound_hook, rule_ask}

-- a tenth at most is below the whole
part_below : (o r : ℕ) → r ≤ 1000 → part o r ≤ o - 1
part_below o r h = grind (arith, common_steps)

fits : (rule : HookRule) (n i o : ℕ) → Fit (rule_ask rule n i o) o
fits Open n i o = omega arith
fits (Toll rate) n i o = part_below o rate.parts rate.within
fits (Volume «cap») n i o = grind (arith, nat_tests)

pub ready_lawful : (rule : HookRule) (p n : ℕ) → sound_hook rule p n ≡ true → Lawful (ready rule p n)
ready_lawful rule p n s = let asked = fits rule in search rules
