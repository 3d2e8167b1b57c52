-- A bank of hooks, what its operations answer, and what they leave. Assumes nothing.
use Rattle.std.specs.Prelude.{ℕ, Bool, true, false, cond, ◌&&◌, Ok, Err, Result, nat_lt}
use Rattle.amounts.specs.Checks.{need}
use Rattle.amounts.specs.Rows.{at}
use Rattle.hooks.specs.declared.bank.HookFault.{HookFault}
use Rattle.hooks.specs.declared.bank.HookFault.TheVariants.{Unknown, Denied, Illegal}

-- a hook denies for a reason, or takes a toll
pub data Verdict : Type 0 where
  denied : ℕ → Verdict
  toll : ℕ → Verdict

abbrev pub passes : Verdict → Bool
passes (denied reason) = false
passes (toll t) = true

-- how many hooks there are; of each its number, and what is fixed: its legal numbers, its payee, and its two rules, which take
-- the hook, its number, in and out
pub record Hooks : Type 0 where
  pub count : ℕ
  pub number : ℕ → ℕ
  pub legal : ℕ → ℕ → Bool
  pub payee : ℕ → ℕ
  pub ask : ℕ → ℕ → ℕ → ℕ → Verdict
  pub step : ℕ → ℕ → ℕ → ℕ → ℕ

abbrev pub known : Hooks → ℕ → Bool
known m h = nat_lt h m.count

-- what the hook says at its present number
abbrev pub verdict : Hooks → ℕ → ℕ → ℕ → Verdict
verdict m h i o = m.ask h (m.number h) i o

-- all as it is, but for one hook's number
abbrev pub numbered : Hooks → ℕ → ℕ → Hooks
numbered m h n = record m { number = at m.number h n }

-- a hook that is told makes a step, unless it denies
abbrev pub told : Hooks → ℕ → ℕ → ℕ → Hooks
told m h i o = cond (known m h && passes (verdict m h i o)) (numbered m h (m.step h (m.number h) i o)) m

abbrev pub after_set : Hooks → ℕ → ℕ → Hooks
after_set m h n = cond (known m h && m.legal h n) (numbered m h n) m

abbrev pub known_answer : Hooks → ℕ → Result (Unit {0}) HookFault
known_answer m h = need (known m h) Unknown (Ok tt)

abbrev pub payee_answer : Hooks → ℕ → Result ℕ HookFault
payee_answer m h = need (known m h) Unknown (Ok (m.payee h))

abbrev pub verdict_answer : Verdict → Result ℕ HookFault
verdict_answer (denied reason) = Err (Denied reason)
verdict_answer (toll t) = Ok t

abbrev pub ask_answer : Hooks → ℕ → ℕ → ℕ → Result ℕ HookFault
ask_answer m h i o = need (known m h) Unknown (verdict_answer (verdict m h i o))

abbrev pub number_answer : Hooks → ℕ → Result ℕ HookFault
number_answer m h = need (known m h) Unknown (Ok (m.number h))

abbrev pub set_answer : Hooks → ℕ → ℕ → Result (Unit {0}) HookFault
set_answer m h n = need (known m h) Unknown (need (m.legal h n) Illegal (Ok tt))
