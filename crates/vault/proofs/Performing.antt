-- An action leaves the marks fitting, refused or accepted. Assumes nothing.
use Rattle.std.proofs.Common.{◌≡◌, ℕ, zero, suc, ◌+◌, ◌*◌, ◌≤◌, Bool, true, false, leb, List, [], ◌∷◌, length, map, Some, None, Option, is_some, Ok, Result, sym, refl, ap, ◌∙◌, subst, arith}
use Rattle.std.proofs.lemmas.Bool.{and_parts, and_from, leb-true, le-leb}
use Rattle.arrayvec.specs.ArrayVec.{ArrayVec}
use Rattle.actions.specs.declared.action.Action.{Action}
use Rattle.actions.specs.declared.action.Action.TheVariants as action
use Rattle.actions.specs.Acts.{act}
use Rattle.actions.specs.Counted.{is_step, Counted}
use Rattle.actions.proofs.Counts.{counted}
use Rattle.checks.specs.Tests.{steps_after}
use Rattle.faults.specs.declared.cause.VaultFault.{VaultFault}
use Rattle.hooks.specs.Meaning.{Hooks}
use Rattle.store.specs.declared.answer.Answer.{Answer}
use Rattle.store.specs.declared.state.Store.{Store}
use Rattle.store.specs.Outcome.{Outcome, refused, done, Meets}
use Rattle.store.specs.Room.{steps_at}
use Rattle.store.specs.Saved.{world, recorded, saved}
use Rattle.store.specs.World.{World}
use Rattle.store.proofs.Rooms.{steps_now}
use Rattle.tokens.specs.Meaning.{Tokens}
use Rattle.vault.specs.declared.call.Call.TheVariants as call
use Rattle.vault.specs.declared.phase.Phase.{Phase}
use Rattle.vault.specs.declared.phase.Phase.TheVariants as phase
use Rattle.vault.specs.Marks.{with_frames, phase_of, ends, fits, all_fit}
use Rattle.vault.specs.State.{State}
use Rattle.vault.specs.Turns.{meets, session_meets, in_session, acted}
use Rattle.vault.proofs.Fitting.{outer, under, same_fit, same_worlds}

-- what a session lets through is a step
session_step : (a : Action) → session_meets a ≡ Ok tt → is_step true a ≡ true
session_step (action.Sync c) e = refl
session_step (action.Settle who c) e = refl
session_step (action.Take who c to a) e = refl
session_step (action.Pay who c to a) e = refl
session_step (action.Clear who c a) e = refl
session_step (action.Mint who to c a) e = refl
session_step (action.Burn who from c a) e = refl
session_step (action.Hand caller from to c a) e = refl
session_step (action.Allow owner spender c a) e = cc e
session_step (action.Operator owner spender flag) e = cc e

pub step_in_session : (p : Phase) (a : Action) → meets p (call.Act a) ≡ Ok tt → in_session p ≡ true → is_step true a ≡ true
step_in_session phase.Locked a e s = cc s
step_in_session phase.Open a e s = session_step a e
step_in_session (phase.Framed i) a e s = session_step a e

in_frames : (n : ℕ) → in_session (with_frames n) ≡ true
in_frames zero = refl
in_frames (suc n) = refl

-- a session is open where there are marks
pub inside : (f : Option (ArrayVec ℕ)) → is_some f ≡ in_session (phase_of f)
inside None = refl
inside (Some marks) = sym (in_frames (length marks.items))

pub locked_ends : (f : Option (ArrayVec ℕ)) → is_some f ≡ false → ends f ≡ []
locked_ends None e = refl
locked_ends (Some marks) e = cc e

module _ {T H : Type 0} where
  -- the room after the last entry
  last_fits : (s : Store T H) (ms : List ℕ) → all_fit s (recorded s) ((recorded s) ∷ ms) ≡ true → ((recorded s) ≤ 6 * s.held.book.steps) × (s.held.book.steps ≤ 64)
  last_fits s ms e =
      let here = and_parts (leb (recorded s) (6 * steps_at s (recorded s))) _ (and_parts (fits s (recorded s)) _ (and_parts (leb (recorded s) (recorded s)) _ e).1).0 in
      (subst (λ n. (recorded s) ≤ 6 * n) (steps_now s) (leb-true _ _ here.0), subst (λ n. n ≤ 64) (steps_now s) (leb-true _ _ here.1))

  -- the marks fit, if there is room after the last entry
  with_room : (s : Store T H) (ms : List ℕ) → (recorded s) ≤ 6 * s.held.book.steps → s.held.book.steps ≤ 64 → all_fit s (recorded s) ms ≡ true → all_fit s (recorded s) ((recorded s) ∷ ms) ≡ true
  with_room s ms long few e =
      and_from _ _ (le-leb (recorded s) (recorded s) (omega arith))
      (and_from (fits s (recorded s)) _ (and_from _ _ (le-leb _ _ (subst (λ n. (recorded s) ≤ 6 * n) (sym (steps_now s)) long)) (le-leb _ _ (subst (λ n. n ≤ 64) (sym (steps_now s)) few))) e)

  module _ (tokens : T → Tokens) (hooks : H → Hooks) (a b : Store T H) (ms : List ℕ) (fit : all_fit a (recorded a) ((recorded a) ∷ ms) ≡ true) where
    -- what an accepted action does to the step count
    counts : (session : Bool) (x : Action) (y : Answer) (w : World) → done y w ≡ act session (world tokens hooks a.held) x → (w.book.steps ≡ steps_after (is_step session x) a.held.book.steps) × (a.held.book.steps ≤ 64 → w.book.steps ≤ 64)
    counts session x y w e = subst (Counted (is_step session x) a.held.book.steps) (sym e) (counted session (world tokens hooks a.held) x)

    -- in a session the marks fit after an action as before it
    pub session_fit : (o : Outcome Answer) (x : Action) (r : Result Answer VaultFault) → o ≡ act true (world tokens hooks a.held) x → is_step true x ≡ true → Meets tokens hooks o a b r → all_fit b (recorded b) ((recorded b) ∷ ms) ≡ true
    session_fit (refused f) x r e step m =
        let l = m.1.longer in
        let len : (recorded a) ≡ (recorded b) = omega (arith, l) in
        subst (λ n. all_fit b n (n ∷ ms) ≡ true) len (same_fit tokens hooks a b (recorded a) (recorded a) ((recorded a) ∷ ms) m.1.kept (omega arith) fit)
    session_fit (done y w) x r e step m =
        let s = m.1 in
        let room = last_fits a ms fit in
        let long = room.0 in
        let count = counts true x y w e in
        let now : b.held.book.steps ≡ w.book.steps = ap (λ v. v.book.steps) s.now in
        let one : w.book.steps ≡ a.held.book.steps + 1 = count.0 ∙ ap (λ t. steps_after t a.held.book.steps) step in
        let few = count.1 room.1 in
        let grown = s.longer.0 in
        let longer = s.longer.1 in
        with_room b ms (omega (arith, long, now, one, longer)) (omega (arith, now, few)) (under b (recorded a) (recorded b) ms grown (same_fit tokens hooks a b (recorded a) (recorded a) ms s.kept (omega arith) (outer a (recorded a) (recorded a) ms fit)))

    -- the step count stays within its bound
    few_steps : (o : Outcome Answer) (session : Bool) (x : Action) (r : Result Answer VaultFault) → o ≡ act session (world tokens hooks a.held) x → Meets tokens hooks o a b r → b.held.book.steps ≤ 64
    few_steps (refused f) session x r e m = let now : b.held.book.steps ≡ a.held.book.steps = ap (λ v. v.book.steps) m.1.now in let few = (last_fits a ms fit).1 in omega (arith, now, few)
    few_steps (done y w) session x r e m = let now : b.held.book.steps ≡ w.book.steps = ap (λ v. v.book.steps) m.1.now in let few = (counts session x y w e).1 (last_fits a ms fit).1 in omega (arith, now, few)

    -- in a locked vault nothing is left to undo
    pub locked_fit : (s : Store T H) (o : Outcome Answer) (session : Bool) (x : Action) (r : Result Answer VaultFault) → o ≡ act session (world tokens hooks a.held) x → Meets tokens hooks o a b r → s.held ≡ b.held → (recorded s) ≡ 0 → all_fit s (recorded s) ((recorded s) ∷ []) ≡ true
    locked_fit s o session x r e m held empty =
        let few = few_steps o session x r e m in
        let now : s.held.book.steps ≡ b.held.book.steps = ap (λ v. v.book.steps) held in
        with_room s [] (omega (arith, empty)) (omega (arith, now, few)) refl

    -- the state with these marks
    abbrev marked : Store T H → Phase → State
    marked s p = record { phase = p; now = world tokens hooks s.held; saved = map (saved tokens hooks s) ms }

    -- what is left is what the outcome leaves
    pub acted_state : (p : Phase) (o : Outcome Answer) (r : Result Answer VaultFault) → Meets tokens hooks o a b r → marked b p ≡ (acted (marked a p) o).left
    acted_state p (refused f) r m = let same = same_worlds tokens hooks a b (recorded a) (recorded a) ms m.1.kept (omega arith) (outer a (recorded a) (recorded a) ms fit) in λ j. record { phase = p; now = m.1.now j; saved = same j }
    acted_state p (done y w) r m = let same = same_worlds tokens hooks a b (recorded a) (recorded a) ms m.1.kept (omega arith) (outer a (recorded a) (recorded a) ms fit) in λ j. record { phase = p; now = m.1.now j; saved = same j }
