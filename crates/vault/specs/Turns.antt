-- What every call answers, and what it leaves. Assumes nothing.
use Rattle.std.specs.Prelude.{ℕ, suc, ◌-◌, Bool, true, false, cond, List, [], ◌∷◌, Ok, Err, Result, ◌==◌, nat_le}
use Rattle.actions.specs.declared.action.Action.{Action}
use Rattle.actions.specs.declared.action.Action.TheVariants as action
use Rattle.actions.specs.Acts.{act}
use Rattle.faults.specs.declared.cause.Cause.{Cause}
use Rattle.faults.specs.declared.cause.Cause.TheVariants as cause
use Rattle.faults.specs.declared.cause.VaultFault.{VaultFault}
use Rattle.faults.specs.Reports.{unplaced}
use Rattle.book.specs.New.{new_book}
use Rattle.hooks.specs.Meaning.{Hooks}
use Rattle.store.specs.declared.answer.Answer.{Answer}
use Rattle.store.specs.declared.answer.Answer.TheVariants as answer
use Rattle.store.specs.Outcome.{Outcome, refused, done}
use Rattle.store.specs.World.{World, finished}
use Rattle.tokens.specs.Meaning.{Tokens}
use Rattle.totals.specs.Totals.{open_deltas}
use Rattle.vault.specs.declared.call.Call.{Call}
use Rattle.vault.specs.declared.call.Call.TheVariants as call
use Rattle.vault.specs.declared.phase.Phase.{Phase}
use Rattle.vault.specs.declared.phase.Phase.TheVariants as phase
use Rattle.vault.specs.State.{State}

-- which actions a locked vault lets through
abbrev pub locked_meets : Action → Result Unit Cause
locked_meets (action.Sync c) = Err cause.Locked
locked_meets (action.Settle who c) = Err cause.Locked
locked_meets (action.Take who c to a) = Err cause.Locked
locked_meets (action.Pay who c to a) = Ok tt
locked_meets (action.Clear who c a) = Err cause.Locked
locked_meets (action.Mint who to c a) = Err cause.Locked
locked_meets (action.Burn who from c a) = Err cause.Locked
locked_meets (action.Hand caller from to c a) = Ok tt
locked_meets (action.Allow owner spender c a) = Ok tt
locked_meets (action.Operator owner spender flag) = Ok tt

-- which actions a session lets through
abbrev pub session_meets : Action → Result Unit Cause
session_meets (action.Sync c) = Ok tt
session_meets (action.Settle who c) = Ok tt
session_meets (action.Take who c to a) = Ok tt
session_meets (action.Pay who c to a) = Ok tt
session_meets (action.Clear who c a) = Ok tt
session_meets (action.Mint who to c a) = Ok tt
session_meets (action.Burn who from c a) = Ok tt
session_meets (action.Hand caller from to c a) = Ok tt
session_meets (action.Allow owner spender c a) = Err cause.Session
session_meets (action.Operator owner spender flag) = Err cause.Session

-- the phase that a call meets
abbrev pub meets : Phase → Call → Result Unit Cause
meets phase.Locked call.Open = Ok tt
meets phase.Locked call.Close = Err cause.Locked
meets phase.Locked call.Abandon = Err cause.Locked
meets phase.Locked call.Frame = Err cause.Locked
meets phase.Locked call.Keep = Err cause.Locked
meets phase.Locked call.Drop = Err cause.Locked
meets phase.Locked (call.Act a) = locked_meets a
meets phase.Open call.Open = Err cause.Session
meets phase.Open call.Close = Ok tt
meets phase.Open call.Abandon = Ok tt
meets phase.Open call.Frame = Ok tt
meets phase.Open call.Keep = Err cause.NoFrame
meets phase.Open call.Drop = Err cause.NoFrame
meets phase.Open (call.Act a) = session_meets a
meets (phase.Framed i) call.Open = Err cause.Session
meets (phase.Framed i) call.Close = Err cause.FrameOpen
meets (phase.Framed i) call.Abandon = Err cause.FrameOpen
meets (phase.Framed i) call.Frame = cond (nat_le 3 i) (Err cause.FramesFull) (Ok tt)
meets (phase.Framed i) call.Keep = Ok tt
meets (phase.Framed i) call.Drop = Ok tt
meets (phase.Framed i) (call.Act a) = session_meets a

abbrev pub in_session : Phase → Bool
in_session phase.Locked = false
in_session phase.Open = true
in_session (phase.Framed i) = true

-- how many frames are open
abbrev pub frames : Phase → ℕ
frames phase.Locked = 0
frames phase.Open = 0
frames (phase.Framed i) = suc i

-- one frame less
abbrev pub shallower : Phase → Phase
shallower phase.Locked = phase.Locked
shallower phase.Open = phase.Open
shallower (phase.Framed i) = cond (i == 0) phase.Open (phase.Framed (i - 1))

-- what held when the innermost frame began, when the session began, and what is saved without the innermost
abbrev pub first_of : World → List World → World
first_of w [] = w
first_of w (v ∷ vs) = v

abbrev pub innermost : State → World
innermost s = first_of s.now s.saved

abbrev pub last_of : World → List World → World
last_of w [] = w
last_of w (v ∷ vs) = last_of v vs

abbrev pub opening : State → World
opening s = last_of s.now s.saved

abbrev pub rest : List World → List World
rest [] = []
rest (w ∷ ws) = ws

-- an answer or a refusal, and what the call leaves
pub record Turn : Type 0 where
  pub answer : Result Answer VaultFault
  pub left : State

abbrev pub accepted : State → Turn
accepted s = record { answer = Ok answer.Done; left = s }

abbrev pub refuses : Cause → State → Turn
refuses c s = record { answer = Err (unplaced c); left = s }

-- the session failed: locked, and all as it was at the opening
abbrev pub failed : State → State
failed s = record { phase = phase.Locked; now = opening s; saved = [] }

-- the session is over: locked, with no mark and no step
abbrev pub finishing : State → State
finishing s = record { phase = phase.Locked; now = finished s.now; saved = [] }

abbrev pub acted : State → Outcome Answer → Turn
acted s (refused f) = record { answer = Err f; left = s }
acted s (done said w) = record { answer = Ok said; left = record { phase = s.phase; now = w; saved = s.saved } }

-- a call that the phase lets through
abbrev pub granted : State → Call → Turn
granted s call.Open = accepted (record { phase = phase.Open; now = s.now; saved = s.now ∷ s.saved })
granted s call.Close =
    cond (open_deltas s.now.book == 0)
    (accepted (finishing s))
    (refuses cause.DeltaOpen (failed s))
granted s call.Abandon = accepted (failed s)
granted s call.Frame = accepted (record { phase = phase.Framed (frames s.phase); now = s.now; saved = s.now ∷ s.saved })
granted s call.Keep = accepted (record { phase = shallower s.phase; now = s.now; saved = rest s.saved })
granted s call.Drop = accepted (record { phase = shallower s.phase; now = innermost s; saved = rest s.saved })
granted s (call.Act a) = acted s (act (in_session s.phase) s.now a)

abbrev pub met : State → Call → Result Unit Cause → Turn
met s c (Ok u) = granted s c
met s c (Err why) = refuses why s

abbrev pub turn : State → Call → Turn
turn s c = met s c (meets s.phase c)

-- a new vault is locked, and all but its banks is empty
abbrev pub new_state : Tokens → Hooks → State
new_state tokens hooks = record { phase = phase.Locked; now = record { book = new_book; tokens = tokens; hooks = hooks }; saved = [] }
