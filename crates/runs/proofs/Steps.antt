-- What the law needs at a moment, and that every call keeps it. Assumes nothing.
use Rattle.std.proofs.Common.{◌≡◌, suc, ◌-◌, ◌≤◌, eqb, leb, List, [], ◌∷◌, map, length, Ok, Err, Result, refl, ap, ◌∙◌, arith}
use Rattle.std.specs.List.{AllByRecursion}
use Rattle.std.proofs.lemmas.Bool.{cond_both, cond-false, ne_eqb, eqb-true}
use Rattle.actions.specs.declared.action.Action.{Action}
use Rattle.actions.specs.Acts.{act}
use Rattle.actions.specs.Balance.{Sound, Keeps}
use Rattle.actions.specs.Balance.Keeps.{nothing, sound}
use Rattle.actions.proofs.Balances.{keeps}
use Rattle.faults.specs.declared.cause.Cause.{Cause}
use Rattle.store.specs.declared.answer.Answer.{Answer}
use Rattle.store.specs.Outcome.{Outcome, done}
use Rattle.store.specs.World.{World, finished}
use Rattle.totals.specs.Totals.{open_deltas}
use Rattle.vault.specs.declared.call.Call.{Call}
use Rattle.vault.specs.declared.call.Call.TheVariants as call
use Rattle.vault.specs.declared.phase.Phase.{Phase}
use Rattle.vault.specs.declared.phase.Phase.TheVariants as phase
use Rattle.vault.specs.State.{State}
use Rattle.vault.specs.Turns.{Turn, turn, met, acted, in_session, shallower, last_of, failed, finishing}
use Rattle.runs.specs.History.{Event, event}
use Rattle.runs.specs.Law.{effect, strays, Begin, Told, moment, told, AtRest, Restores}
use Rattle.runs.proofs.Resting.{stays, closed_rests}

-- the state that the history tells
abbrev phase_of : List Begin → Phase
phase_of [] = phase.Locked
phase_of (b ∷ []) = phase.Open
phase_of (b ∷ c ∷ bs) = phase.Framed (length bs)

abbrev pub state_of : Told → State
state_of t = record { phase = phase_of t.begun; now = t.now; saved = map (λ b. b.held) t.begun }

-- one frame less
less : (b : Begin) (bs : List Begin) → shallower (phase.Framed (length bs)) ≡ phase_of (b ∷ bs)
less b [] = refl
less b (c ∷ bs) = cond-false (eqb (suc (length bs)) 0) phase.Open (phase.Framed (suc (length bs) - 1)) (ne_eqb (suc (length bs)) 0 (λ e. omega (arith, e))) ∙ ap phase.Framed (omega arith)

-- all is at rest, or was before the session
abbrev pub Rested : World → List Begin → Type 0
Rested w begun = AtRest (last_of w (map (λ b. b.held) begun))

module _ (start : World) where
  -- the pools of every locked moment are those of the start
  abbrev Untouched : List World → Type 0
  Untouched locked = AllByRecursion (λ w. w.book.pools ≡ start.book.pools) locked

  -- all was sound whenever a session or a frame began
  abbrev Begun : List Begin → Type 0
  Begun begun = AllByRecursion (λ b. Sound start b.held (strays start b.stood)) begun

  -- what is kept from moment to moment
  pub record Good (t : Told) : Type 0 where
    pub sound : Sound start t.now (strays start t.stands)
    pub begun : Begun t.begun
    pub rests : Rested t.now t.begun
    pub locked : Untouched t.locked

  -- a locked moment is one more of them
  pub good_moment : (w : World) (stands : List Event) (begun : List Begin) (locked : List World) → Sound start w (strays start stands) → Begun begun → Rested w begun → Untouched locked → Good (moment w stands begun locked)
  good_moment w stands [] locked s b r l = record { sound = s; begun = b; rests = r; locked = (s.same_pools, l) }
  good_moment w stands (c ∷ cs) locked s b r l = record { sound = s; begun = b; rests = r; locked = l }

  -- to the next moment: all is restored that has to be, and the state is the one that the history tells
  pub record Step (Restored : Type 0) (next : Told) (s : State) : Type 0 where
    pub restores : Restored
    pub good : Good next
    pub left : s ≡ state_of next

  abbrev pub Goes : Told → Call → Turn → Type 0
  Goes t c to = Step (Restores (effect c to.answer) t to.left.now) (told t (event c to)) to.left

  -- a moment reached, in a phase that fits what has begun
  onto : {Restored : Type 0} {p : Phase} (w : World) (stands : List Event) (begun : List Begin) (locked : List World) → Restored → Sound start w (strays start stands) → Begun begun → Rested w begun → Untouched locked → p ≡ phase_of begun → Step Restored (moment w stands begun locked) (record { phase = p; now = w; saved = map (λ b. b.held) begun })
  onto w stands begun locked x s b r l e = record { restores = x; good = good_moment w stands begun locked s b r l; left = λ i. record { phase = e i; now = w; saved = map (λ b. b.held) begun } }

  module _ (now : World) (stands : List Event) (locked : List World) where
    abbrev so_far : List Begin → Told
    so_far begun = record { now = now; stands = stands; begun = begun; locked = locked }

    -- a refused call
    refusal : (begun : List Begin) → Good (so_far begun) → Step (now ≡ now) (moment now stands begun locked) (state_of (so_far begun))
    refusal begun g = onto now stands begun locked refl g.sound g.begun g.rests g.locked refl

    -- a session or a frame more
    beginning : (begun : List Begin) → Good (so_far begun) → let more = record { held = now; stood = stands } ∷ begun in Step (now ≡ now) (moment now stands more locked) (state_of (so_far more))
    beginning begun g = onto now stands _ locked refl g.sound (g.sound, g.begun) g.rests g.locked refl

    -- the session fails
    failing : (b : Begin) → Good (so_far (b ∷ [])) → Step (b.held ≡ b.held) (moment b.held b.stood [] locked) (failed (state_of (so_far (b ∷ []))))
    failing b g = onto b.held b.stood [] locked refl g.begun.0 tt g.rests g.locked refl

    -- the session is closed
    closing : (b : Begin) → Good (so_far (b ∷ [])) → open_deltas now.book ≡ 0 → Step Unit (moment (finished now) stands [] locked) (finishing (state_of (so_far (b ∷ []))))
    closing b g none =
        let s = g.sound in
        onto (finished now) stands [] locked tt (record { shaped = record { claims = s.shaped.claims; deltas = s.shaped.deltas }; same_count = s.same_count; same_pools = s.same_pools; even = s.even }) tt (closed_rests now none) g.locked refl

    -- an action, by what it comes to
    acting : (begun : List Begin) (a : Action) {o : Outcome Answer} → Good (so_far begun) → Keeps start (strays start stands) a o → ((said : Answer) (w : World) → o ≡ done said w → Rested w begun) → Goes (so_far begun) (call.Act a) (acted (state_of (so_far begun)) o)
    acting begun a g (nothing f) rests = refusal begun g
    acting begun a g (sound said w s) rests = onto w _ begun locked tt s g.begun (rests said w refl) g.locked refl

    module _ (few : start.tokens.count ≤ 8) where
      -- an action, by what the phase says to it
      performing : (begun : List Begin) (a : Action) (r : Result Unit Cause) → Good (so_far begun) → (r ≡ Ok tt → (said : Answer) (w : World) → act (in_session (phase_of begun)) now a ≡ done said w → Rested w begun) → Goes (so_far begun) (call.Act a) (met (state_of (so_far begun)) (call.Act a) r)
      performing begun a (Err why) g rests = refusal begun g
      performing begun a (Ok u) g rests = acting begun a g (keeps start few _ now (strays start stands) g.sound a) (rests refl)

      pub step : (begun : List Begin) → Good (so_far begun) → (c : Call) → Goes (so_far begun) c (turn (state_of (so_far begun)) c)
      step [] g call.Open = beginning [] g
      step [] g call.Close = refusal [] g
      step [] g call.Abandon = refusal [] g
      step [] g call.Frame = refusal [] g
      step [] g call.Keep = refusal [] g
      step [] g call.Drop = refusal [] g
      step [] g (call.Act a) = performing [] a _ g (stays now a g.rests)
      step (b ∷ []) g call.Open = refusal (b ∷ []) g
      step (b ∷ []) g call.Close =
          cond_both (eqb (open_deltas now.book) 0) _ _ (Goes (so_far (b ∷ [])) call.Close)
          (λ e. closing b g (eqb-true _ 0 e))
          (λ _. failing b g)
      step (b ∷ []) g call.Abandon = failing b g
      step (b ∷ []) g call.Frame = beginning (b ∷ []) g
      step (b ∷ []) g call.Keep = refusal (b ∷ []) g
      step (b ∷ []) g call.Drop = refusal (b ∷ []) g
      step (b ∷ []) g (call.Act a) = performing (b ∷ []) a _ g (λ _ _ _ _. g.rests)
      step (b ∷ c ∷ bs) g call.Open = refusal (b ∷ c ∷ bs) g
      step (b ∷ c ∷ bs) g call.Close = refusal (b ∷ c ∷ bs) g
      step (b ∷ c ∷ bs) g call.Abandon = refusal (b ∷ c ∷ bs) g
      step (b ∷ c ∷ bs) g call.Frame =
          let t = so_far (b ∷ c ∷ bs) in
          cond_both (leb 3 (length bs)) _ _ (λ r. Goes t call.Frame (met (state_of t) call.Frame r))
          (λ _. refusal (b ∷ c ∷ bs) g)
          (λ _. beginning (b ∷ c ∷ bs) g)
      step (b ∷ c ∷ bs) g call.Keep = onto now stands (c ∷ bs) locked refl g.sound g.begun.1 g.rests g.locked (less c bs)
      step (b ∷ c ∷ bs) g call.Drop = onto b.held b.stood (c ∷ bs) locked refl g.begun.0 g.begun.1 g.rests g.locked (less c bs)
      step (b ∷ c ∷ bs) g (call.Act a) = performing (b ∷ c ∷ bs) a _ g (λ _ _ _ _. g.rests)
