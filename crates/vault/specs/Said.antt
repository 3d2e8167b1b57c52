-- What the answers with slips say. Assumes nothing.
use Rattle.std.specs.Prelude.{Bool, true, false, Ok, Err, Result}
use Rattle.faults.specs.declared.cause.Cause.{Cause}
use Rattle.faults.specs.declared.cause.VaultFault.{VaultFault}
use Rattle.faults.specs.Reports.{unplaced}
use Rattle.store.specs.declared.answer.Answer.{Answer}
use Rattle.store.specs.declared.answer.Answer.TheVariants as answer
use Rattle.vault.specs.declared.slips.NotClosed.{NotClosed}
use Rattle.vault.specs.declared.slips.NotClosed.TheVariants as not_closed
use Rattle.vault.specs.declared.slips.Refused.{Refused}

-- the slip of a call that the phase lets through, or the refusal with the slip
abbrev pub admitted : {S : Type 0} → Result Unit Cause → S → Result S (Refused S)
admitted (Ok u) slip = Ok slip
admitted (Err cause) slip = Err (record { fault = unplaced cause; slip = slip })

-- a slip was given out, or the call refused
abbrev pub given : {S : Type 0} → Result S VaultFault → Result Answer VaultFault
given (Ok slip) = Ok answer.Done
given (Err f) = Err f

-- a slip was taken in, or given back with the refusal
abbrev pub taken : {S : Type 0} → Result Unit (Refused S) → Result Answer VaultFault
taken (Ok u) = Ok answer.Done
taken (Err r) = Err r.fault

abbrev pub closed : Result Unit NotClosed → Result Answer VaultFault
closed (Ok u) = Ok answer.Done
closed (Err (not_closed.Refused r)) = Err r.fault
closed (Err (not_closed.Undone f)) = Err f

-- the session's slip is back with its holder
abbrev pub slip_back : Result Unit NotClosed → Bool
slip_back (Ok u) = false
slip_back (Err (not_closed.Refused r)) = true
slip_back (Err (not_closed.Undone f)) = false
