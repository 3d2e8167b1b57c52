-- The marks of a frame more and of a frame less. Assumes nothing.
use Rattle.std.proofs.Common.{◌≡◌, ℕ, zero, suc, ◌-◌, true, eqb, List, [], ◌∷◌, ◌++◌, length, Some, None, Option, Ok, refl, ap, ◌∙◌, subst, append-nil, arith}
use Rattle.std.specs.Option.{option_to_list}
use Rattle.std.proofs.lemmas.Bool.{cond-false, ne_eqb}
use Rattle.std.proofs.lemmas.List.Sums.{fold-append}
use Rattle.arrayvec.specs.ArrayVec.{ArrayVec}
use Rattle.store.specs.declared.state.Store.{Store}
use Rattle.vault.specs.declared.call.Call.TheVariants as call
use Rattle.vault.specs.declared.phase.Phase.TheVariants as phase
use Rattle.vault.specs.Marks.{with_frames, phase_of, inwards, ends, all_fit}
use Rattle.vault.specs.Turns.{meets, shallower}
use Rattle.vault.proofs.Fitting.{without}

-- the last mark is the innermost
pub pushed : (marks : List ℕ) (m : ℕ) → inwards (marks ++ m ∷ []) ≡ m ∷ inwards marks
pushed marks m = fold-append (λ outer mark. mark ∷ outer) (0 ∷ []) marks (m ∷ [])

pub last_mark : (f : Option (ArrayVec ℕ)) (v : ArrayVec ℕ) (left : List ℕ) (m : ℕ) (gone : Option ℕ) → f ≡ Some v → v.items ≡ left ++ option_to_list gone → gone ≡ Some m → ends f ≡ m ∷ inwards left
last_mark f v left m gone was split is = ap ends was ∙ ap inwards (split ∙ ap (λ r. left ++ option_to_list r) is) ∙ pushed left m

-- a frame less
pub shallow : (n : ℕ) → shallower (with_frames (suc n)) ≡ with_frames n
shallow zero = refl
shallow (suc n) = cond-false (eqb (suc n) 0) phase.Open (phase.Framed (suc n - 1)) (ne_eqb (suc n) 0 (λ e. omega (arith, e))) ∙ ap phase.Framed (omega arith)

-- marks without the last fit
pub popped_fit : {T H : Type 0} (s : Store T H) (top : ℕ) (marks kept : List ℕ) (gone : Option ℕ) → marks ≡ kept ++ option_to_list gone → all_fit s top (top ∷ inwards marks) ≡ true → all_fit s top (top ∷ inwards kept) ≡ true
popped_fit s top marks kept None e fit = subst (λ l. all_fit s top (top ∷ inwards l) ≡ true) (e ∙ append-nil kept) fit
popped_fit s top marks kept (Some m) e fit = without s top top m _ (subst (λ l. all_fit s top (top ∷ l) ≡ true) (ap inwards e ∙ pushed kept m) fit)

no_frame : (marks : List ℕ) → meets (with_frames (length marks)) call.Abandon ≡ Ok tt → inwards marks ≡ 0 ∷ []
no_frame [] e = refl
no_frame (m ∷ marks) e = cc e

-- a session without frames is abandoned
pub abandoned_ends : (f : Option (ArrayVec ℕ)) → meets (phase_of f) call.Abandon ≡ Ok tt → ends f ≡ 0 ∷ []
abandoned_ends None e = cc e
abandoned_ends (Some marks) e = no_frame marks.items e
