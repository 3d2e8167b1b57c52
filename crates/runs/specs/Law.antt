-- The law on runs: what holds at every moment of every history. It is told from calls, answers and what held, and from nothing else.
-- Assumes nothing.
use Rattle.std.specs.Prelude.{◌≡◌, ℕ, cond, List, [], ◌∷◌, ℤ, pos, ◌+ℤ◌, None, Ok, Err, Result, ◌==◌}
use Rattle.std.specs.List.{AllByRecursion}
use Rattle.actions.specs.Balance.{Equation, stray_of}
use Rattle.book.specs.Reads.{delta}
use Rattle.faults.specs.declared.cause.VaultFault.{VaultFault}
use Rattle.faults.specs.Reports.{number_of}
use Rattle.store.specs.declared.answer.Answer.{Answer}
use Rattle.store.specs.World.{World}
use Rattle.vault.specs.declared.call.Call.{Call}
use Rattle.vault.specs.declared.call.Call.TheVariants as call
use Rattle.runs.specs.History.{Event}

-- what an answered call does to sessions and frames
pub data Effect : Type 0 where
  refused : Effect
  -- a session or a frame begins
  begins : Effect
  -- the session is closed
  closes : Effect
  -- the session failed
  fails : Effect
  -- the innermost frame is kept, or dropped
  keeps : Effect
  drops : Effect
  -- any other accepted call
  acts : Effect

-- a close refused for open debts, 33, ends the session
abbrev pub close_refused : VaultFault → Effect
close_refused f = cond (number_of f.cause == 33) fails refused

abbrev pub effect : Call → Result Answer VaultFault → Effect
effect call.Open (Ok a) = begins
effect call.Open (Err f) = refused
effect call.Close (Ok a) = closes
effect call.Close (Err f) = close_refused f
effect call.Abandon (Ok a) = fails
effect call.Abandon (Err f) = refused
effect call.Frame (Ok a) = begins
effect call.Frame (Err f) = refused
effect call.Keep (Ok a) = keeps
effect call.Keep (Err f) = refused
effect call.Drop (Ok a) = drops
effect call.Drop (Err f) = refused
effect (call.Act x) (Ok a) = acts
effect (call.Act x) (Err f) = refused

-- what an accepted call adds to the stray of a currency
abbrev pub added : Call → Result Answer VaultFault → ℕ → ℤ
added call.Open said c = pos 0
added call.Close said c = pos 0
added call.Abandon said c = pos 0
added call.Frame said c = pos 0
added call.Keep said c = pos 0
added call.Drop said c = pos 0
added (call.Act x) (Ok a) c = stray_of x a c
added (call.Act x) (Err f) c = pos 0

abbrev pub stray : Event → ℕ → ℤ
stray e c = added e.call e.said c

-- the stray of a currency: the new vault's balance, and what the calls that stand have added
abbrev pub strays : World → List Event → ℕ → ℤ
strays start [] c = pos (start.tokens.balance c 0)
strays start (e ∷ es) c = strays start es c +ℤ stray e c

-- when a session or a frame began: what held, and which calls stood
pub record Begin : Type 0 where
  pub held : World
  pub stood : List Event

-- what the history so far tells: what holds, which calls stand, what has begun (innermost first, the session last), and what held at
-- each locked moment (the latest first)
pub record Told : Type 0 where
  pub now : World
  pub stands : List Event
  pub begun : List Begin
  pub locked : List World

-- a moment is locked where nothing has begun
abbrev pub if_locked : List Begin → World → List World → List World
if_locked [] w ws = w ∷ ws
if_locked (b ∷ bs) w ws = ws

abbrev pub moment : World → List Event → List Begin → List World → Told
moment w stands begun locked = record { now = w; stands = stands; begun = begun; locked = if_locked begun w locked }

abbrev pub outer : List Begin → List Begin
outer [] = []
outer (b ∷ bs) = bs

-- which calls stood when the innermost began, and when the session began
abbrev pub stood_inside : List Event → List Begin → List Event
stood_inside es [] = es
stood_inside es (b ∷ bs) = b.stood

abbrev pub stood_first : List Event → List Begin → List Event
stood_first es [] = es
stood_first es (b ∷ bs) = stood_first b.stood bs

-- one event more
abbrev pub told_by : Effect → Told → Event → Told
told_by refused t e = moment e.after t.stands t.begun t.locked
told_by begins t e = moment e.after t.stands (record { held = t.now; stood = t.stands } ∷ t.begun) t.locked
told_by closes t e = moment e.after t.stands [] t.locked
told_by fails t e = moment e.after (stood_first t.stands t.begun) [] t.locked
told_by keeps t e = moment e.after t.stands (outer t.begun) t.locked
told_by drops t e = moment e.after (stood_inside t.stands t.begun) (outer t.begun) t.locked
told_by acts t e = moment e.after (e ∷ t.stands) t.begun t.locked

abbrev pub told : Told → Event → Told
told t e = told_by (effect e.call e.said) t e

-- a new vault
abbrev pub told_new : World → Told
told_new start = moment start [] [] []

-- all is as it was when the innermost, or the first of what has begun, began
abbrev pub AsInside : List Begin → World → Type 0
AsInside [] w = ⊥
AsInside (b ∷ bs) w = w ≡ b.held

abbrev pub AsFirst : List Begin → World → Type 0
AsFirst [] w = ⊥
AsFirst (b ∷ []) w = w ≡ b.held
AsFirst (b ∷ c ∷ bs) w = AsFirst (c ∷ bs) w

-- a refused call leaves all as it is, a dropped frame all as it was when it began, a failed session all as it was at its opening
abbrev pub Restores : Effect → Told → World → Type 0
Restores refused t w = w ≡ t.now
Restores begins t w = w ≡ t.now
Restores closes t w = Unit
Restores fails t w = AsFirst t.begun w
Restores keeps t w = w ≡ t.now
Restores drops t w = AsInside t.begun w
Restores acts t w = Unit

-- between sessions no delta is open, no balance marked and no step counted
pub record AtRest (w : World) : Type 0 where
  pub settled : (who c : ℕ) → delta w.book who c ≡ pos 0
  pub unmarked : w.book.mark ≡ None
  pub no_steps : w.book.steps ≡ 0

-- from an earlier locked moment to a later one: no pool is poorer per share, since so far no call touches one
abbrev pub NoPoorer : World → World → Type 0
NoPoorer later earlier = later.book.pools ≡ earlier.book.pools

-- at every moment
pub record Holds (start : World) (t : Told) : Type 0 where
  pub even : (c : ℕ) → Equation t.now c (strays start t.stands c)
  pub at_rest : t.begun ≡ [] → AtRest t.now
  pub no_poorer : t.begun ≡ [] → AllByRecursion (NoPoorer t.now) t.locked

-- at the first moment, at every event, and at every moment after it
abbrev pub Law : World → Told → List Event → Type 0
Law start t [] = Holds start t
Law start t (e ∷ es) = Holds start t × Restores (effect e.call e.said) t e.after × Law start (told t e) es
