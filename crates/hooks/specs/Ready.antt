-- A ready-made hook as a bank of one, and why one is not made. Assumes nothing.
use Rattle.std.specs.Prelude.{◌≡◌, ℕ, Ok, Err, Result, nat_le}
use Rattle.amounts.specs.Checks.{need}
use Rattle.amounts.specs.Rounding.{most}
use Rattle.amounts.specs.Rows.{at}
use Rattle.hooks.specs.declared.hook.Hook.{Hook}
use Rattle.hooks.specs.declared.ready.HookSetupFault.{HookSetupFault}
use Rattle.hooks.specs.declared.ready.HookSetupFault.TheVariants.{Payee, Rate, Cap, Number}
use Rattle.hooks.specs.declared.rule.HookRule.{HookRule}
use Rattle.hooks.specs.declared.rule.HookRule.TheVariants.{Open, Toll, Volume}
use Rattle.hooks.specs.Meaning.{Hooks}
use Rattle.hooks.specs.Rules.{rule_legal, rule_ask, rule_step, lawful_payee}

-- hook 0, and no other
abbrev pub ready : HookRule → ℕ → ℕ → Hooks
ready rule payee number = record { count = 1; number = at (λ _. 0) 0 number; legal = λ _. rule_legal rule; payee = λ _. payee; ask = λ _. rule_ask rule; step = λ _. rule_step rule }

-- what a ready-made hook means as a bank
abbrev pub of_hook : Hook → Hooks
of_hook h = ready h.rule h.payee h.number

-- what a constructor answers: the fault of the tests if there is one, else a hook of which P holds
abbrev pub Made : Result Hook HookSetupFault → Result Unit HookSetupFault → (Hook → Type 0) → Type 0
Made (Ok h) (Ok tests) P = P h
Made (Ok h) (Err fault) P = ⊥
Made (Err e) (Ok tests) P = ⊥
Made (Err e) (Err fault) P = e ≡ fault

abbrev pub open_tests : ℕ → Result Unit HookSetupFault
open_tests payee = need (lawful_payee payee) Payee (Ok tt)

abbrev pub toll_tests : ℕ → ℕ → Result Unit HookSetupFault
toll_tests payee rate = need (lawful_payee payee) Payee (need (nat_le rate 1000) Rate (Ok tt))

abbrev pub volume_tests : ℕ → ℕ → ℕ → Result Unit HookSetupFault
volume_tests payee «cap» number = need (lawful_payee payee) Payee (need (nat_le «cap» most) Cap (need (nat_le number «cap») Number (Ok tt)))

-- the rule is a toll at this rate
abbrev pub Tolls : HookRule → ℕ → Type 0
Tolls Open rate = ⊥
Tolls (Toll r) rate = r.parts ≡ rate
Tolls (Volume «cap») rate = ⊥
