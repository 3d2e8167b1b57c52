-- What an action comes to, on what holds. Assumes nothing.
use Rattle.std.specs.Prelude.{Bool, Ok, Err, Result}
use Rattle.actions.specs.declared.action.Action.{Action}
use Rattle.actions.specs.declared.action.Action.TheVariants as action
use Rattle.claims.specs.Claims.{mint, burn, hand, allow}
use Rattle.faults.specs.declared.cause.VaultFault.{VaultFault}
use Rattle.hands.specs.Hands.{operator}
use Rattle.payments.specs.Payments.{sync, settle, take, pay, clear}
use Rattle.store.specs.declared.answer.Answer.{Answer}
use Rattle.store.specs.declared.answer.Answer.TheVariants as answer
use Rattle.store.specs.Outcome.{Outcome, refused, done}
use Rattle.store.specs.World.{World}

-- a call that has nothing to tell answers that it is done
abbrev pub acknowledged : Outcome (Unit {0}) → Outcome Answer
acknowledged (refused f) = refused f
acknowledged (done u w) = done answer.Done w

abbrev pub acknowledgement : Result (Unit {0}) VaultFault → Result Answer VaultFault
acknowledgement (Ok u) = Ok answer.Done
acknowledgement (Err f) = Err f

-- in a session, or in a locked vault
abbrev pub act : Bool → World → Action → Outcome Answer
act session w (action.Sync c) = sync w c
act session w (action.Settle who c) = settle w who c
act session w (action.Take who c to a) = take w who c to a
act session w (action.Pay who c to a) = pay session w who c to a
act session w (action.Clear who c a) = clear w who c a
act session w (action.Mint who to c a) = acknowledged (mint w who to c a)
act session w (action.Burn who from c a) = acknowledged (burn w who from c a)
act session w (action.Hand caller from to c a) = acknowledged (hand session w caller from to c a)
act session w (action.Allow owner spender c a) = acknowledged (allow w owner spender c a)
act session w (action.Operator owner spender flag) = operator w owner spender flag
