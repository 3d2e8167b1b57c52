-- Which actions are steps, and what an outcome does to the step count. Assumes nothing.
use Rattle.std.specs.Prelude.{◌≡◌, ℕ, ◌≤◌, Bool, true, false}
use Rattle.actions.specs.declared.action.Action.{Action}
use Rattle.actions.specs.declared.action.Action.TheVariants as action
use Rattle.checks.specs.Tests.{steps_after}
use Rattle.store.specs.declared.answer.Answer.{Answer}
use Rattle.store.specs.Outcome.{Outcome, refused, done}

-- in a session, or in a locked vault
abbrev pub is_step : Bool → Action → Bool
is_step session (action.Sync c) = true
is_step session (action.Settle who c) = true
is_step session (action.Take who c to a) = true
is_step session (action.Pay who c to a) = session
is_step session (action.Clear who c a) = true
is_step session (action.Mint who to c a) = true
is_step session (action.Burn who from c a) = true
is_step session (action.Hand caller from to c a) = session
is_step session (action.Allow owner spender c a) = false
is_step session (action.Operator owner spender flag) = false

-- an accepted step is counted, and the count does not pass 64
abbrev pub Counted : Bool → ℕ → Outcome Answer → Type 0
Counted step n (refused f) = Unit
Counted step n (done said w) = (w.book.steps ≡ steps_after step n) × (n ≤ 64 → w.book.steps ≤ 64)
