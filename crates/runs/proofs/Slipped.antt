-- The slips held are those of the phase after a frame ends, and after an action. Assumes nothing.
use Rattle.std.proofs.Common.{◌≡◌, suc, ◌-◌, true, eqb, List, Some, Ok, Err, Result, sym, refl, ap, ◌∙◌, subst, arith}
use Rattle.std.proofs.lemmas.Bool.{cond_both, eqb-true, eqb-false, eq-eqb}
use Rattle.actions.specs.declared.action.Action.{Action}
use Rattle.actions.specs.Acts.{act}
use Rattle.faults.specs.declared.cause.Cause.{Cause}
use Rattle.store.specs.declared.answer.Answer.{Answer}
use Rattle.store.specs.Outcome.{Outcome, refused, done}
use Rattle.vault.specs.declared.call.Call.TheVariants as call
use Rattle.vault.specs.declared.phase.Phase.{Phase}
use Rattle.vault.specs.declared.phase.Phase.TheVariants as phase
use Rattle.store.specs.declared.answer.Answer.TheVariants as answer
use Rattle.store.specs.World.{World}
use Rattle.vault.specs.declared.slips.Frame.{Frame}
use Rattle.vault.specs.declared.slips.Refused.{Refused}
use Rattle.vault.specs.declared.slips.Session.{Session}
use Rattle.vault.specs.Said.{taken}
use Rattle.vault.specs.State.{State}
use Rattle.vault.specs.Turns.{meets, shallower, acted, met, turn, in_session}
use Rattle.runs.specs.declared.slips.Frames.{Frames}
use Rattle.runs.specs.declared.turns.FrameEnd.{FrameEnd}
use Rattle.runs.specs.declared.turns.FrameEnd.TheVariants as how
use Rattle.runs.specs.Held.{count, held}
use Rattle.runs.specs.Turned.{ending}

-- a frame less, and a frame's slip less
pub one_less : (p : Phase) (s : Session) (f g : Frames) → held p (Some (record { session = s; frames = f })) ≡ true → suc (count g) ≡ count f → held (shallower p) (Some (record { session = s; frames = g })) ≡ true
one_less phase.Locked s f g e less = cc e
one_less phase.Open s f g e less = let n = eqb-true (count f) 0 e in eq-eqb (count g) 0 (omega (arith, n, less))
one_less (phase.Framed i) s f g e less =
    let n = eqb-true (count f) (suc i) e in
    cond_both (eqb i 0) phase.Open (phase.Framed (i - 1)) (λ p. held p (Some (record { session = s; frames = g })) ≡ true)
    (λ z. let zero = eqb-true i 0 z in eq-eqb (count g) 0 (omega (arith, n, less, zero)))
    (λ z. let more = eqb-false i 0 z in eq-eqb (count g) (suc (i - 1)) (omega (arith, n, less, more)))

acted_phase : (s : State) (o : Outcome Answer) → (acted s o).left.phase ≡ s.phase
acted_phase s (refused f) = refl
acted_phase s (done said w) = refl

met_phase : (s : State) (a : Action) (r : Result Unit Cause) → (met s (call.Act a) r).left.phase ≡ s.phase
met_phase s a (Ok u) = acted_phase s (act (in_session s.phase) s.now a)
met_phase s a (Err why) = refl

-- an action leaves the phase
pub same_phase : (s : State) (a : Action) → (turn s (call.Act a)).left.phase ≡ s.phase
same_phase s a = met_phase s a (meets s.phase (call.Act a))

-- a frame that has ended leaves the phase one frame less
ended_phase : (p : Phase) (now : World) (saved : List World) (how : FrameEnd) → let t = turn (record { phase = p; now = now; saved = saved }) (ending how) in t.answer ≡ Ok answer.Done → t.left.phase ≡ shallower p
ended_phase phase.Locked now saved how.Keep e = cc
ended_phase phase.Locked now saved how.Drop e = cc
ended_phase phase.Open now saved how.Keep e = cc
ended_phase phase.Open now saved how.Drop e = cc
ended_phase (phase.Framed i) now saved how.Keep e = refl
ended_phase (phase.Framed i) now saved how.Drop e = refl

-- and the slips one frame's slip less
pub ended_slips : (s t : State) (how : FrameEnd) (r : Result Unit (Refused Frame)) (x : Session) (f g : Frames) → taken r ≡ (turn s (ending how)).answer → t ≡ (turn s (ending how)).left → r ≡ Ok tt → held s.phase (Some (record { session = x; frames = f })) ≡ true → suc (count g) ≡ count f → held t.phase (Some (record { session = x; frames = g })) ≡ true
ended_slips s t how r x f g answers leaves ok h less =
    let phase = ap (λ s. s.phase) leaves ∙ ended_phase s.phase s.now s.saved how (sym answers ∙ ap taken ok) in
    subst (λ p. held p (Some (record { session = x; frames = g })) ≡ true) (sym phase) (one_less s.phase x f g h less)
