-- What the rule of a ready-made hook says: its legal numbers, what it answers, and its step. Assumes nothing.
use Rattle.std.specs.Prelude.{ℕ, ◌+◌, Bool, true, cond, ◌&&◌, ◌==◌, nat_le}
use Rattle.amounts.specs.Rounding.{most, part}
use Rattle.hooks.specs.declared.rule.HookRule.{HookRule}
use Rattle.hooks.specs.declared.rule.HookRule.TheVariants.{Open, Toll, Volume}
use Rattle.hooks.specs.Meaning.{Verdict, denied, toll}

abbrev pub rule_legal : HookRule → ℕ → Bool
rule_legal Open n = n == 0
rule_legal (Toll rate) n = n == 0
rule_legal (Volume «cap») n = nat_le n «cap»

-- at a number, for in and out
abbrev pub rule_ask : HookRule → ℕ → ℕ → ℕ → Verdict
rule_ask Open n i o = toll 0
rule_ask (Toll rate) n i o = toll (part o rate.parts)
rule_ask (Volume «cap») n i o = cond (nat_le (n + i) «cap») (toll 0) (denied 1)

abbrev pub rule_step : HookRule → ℕ → ℕ → ℕ → ℕ
rule_step Open n i o = 0
rule_step (Toll rate) n i o = 0
rule_step (Volume «cap») n i o = n + i

-- a cap is an amount
abbrev pub capped : HookRule → Bool
capped Open = true
capped (Toll rate) = true
capped (Volume «cap») = nat_le «cap» most

abbrev pub lawful_payee : ℕ → Bool
lawful_payee p = nat_le 1 p && nat_le p 15

-- what holds of every ready-made hook
abbrev pub sound_hook : HookRule → ℕ → ℕ → Bool
sound_hook rule payee number = lawful_payee payee && (capped rule && rule_legal rule number)
