-- The laws of moves follow from what arrives being no more than what is sent. Assumes nothing.
use Rattle.std.specs.Prelude.{◌≡◌, ℕ, ◌-◌, ◌<◌, ◌≤◌, Ok, Err, Result, refl}
use Rattle.std.proofs.Common.{ap, ◌∙◌, arith}
use Rattle.std.proofs.lemmas.Bool.Decides.{nat_tests}
use Rattle.amounts.specs.Checks.{then}
use Rattle.amounts.specs.Rounding.{most}
use Rattle.tokens.specs.declared.bank.TokenFault.{TokenFault}
use Rattle.tokens.specs.Meaning.{Tokens, total, shifted, moved, unmoved}
use Rattle.tokens.specs.Moves.{Lawful, numbered, after, transfer_answer, unmove_answer}
use Rattle.tokens.specs.Shifts.{shift_back, shift_keeps}

-- what was new where the call was accepted, and old where not
either_way : {X : Type 0} (r : Result X TokenFault) (new old : Tokens) (P : Tokens → Type 0) → ((x : X) → r ≡ Ok x → P new) → P old → P (after r new old)
either_way (Ok x) new old P accepted refused = accepted x refl
either_way (Err e) new old P accepted refused = refused

record Numbers (count c from to a : ℕ) : Type 0 where
  payer : from < 16
  payee : to < 16
  apart : from ≡ to → ⊥
  all : numbered count c from to a ≡ Ok tt

-- an accepted call has passed the test of its numbers
numbers : {Y : Type 0} (count c from to a : ℕ) (rest : Result Y TokenFault) (y : Y) → then (numbered count c from to a) rest ≡ Ok y → Numbers count c from to a × (rest ≡ Ok y)
numbers count c from to a rest y e = (record { payer = grind (arith, nat_tests); payee = grind (arith, nat_tests); apart = λ same. grind (arith, nat_tests); all = grind (arith, nat_tests) }, grind (arith, nat_tests))

pub lawful_from : (t : Tokens) → t.count ≤ 8 → ((c a : ℕ) → t.arrives c a ≤ a) → ((c : ℕ) → c < t.count → total t c ≤ most) → Lawful t
lawful_from t few within bounded =
    record {
      few = few;
      within = within;
      bounded = bounded;
      move_keeps = λ c from to a d.
          either_way (transfer_answer t c from to a) (moved t c from to a) t (λ u. total u d ≡ total t d)
          (λ n e. shift_keeps t c from a to (t.arrives c a) _ (λ same. grind (arith, nat_tests)) (grind (arith, nat_tests)) (grind (arith, nat_tests)) (grind (arith, nat_tests)) (omega (arith, within c a)) d)
          refl;
      unmove_keeps = λ c from to a d.
          either_way (unmove_answer t c from to a) (unmoved t c from to a) t (λ u. total u d ≡ total t d)
          (λ n e.
          let rest : a - t.arrives c a ≤ t.pot c = grind (arith, nat_tests) in
          shift_keeps t c to (t.arrives c a) from a _ (λ same. grind (arith, nat_tests)) (grind (arith, nat_tests)) (grind (arith, nat_tests)) (grind (arith, nat_tests)) (omega (arith, within c a)) d)
          refl;
      accepted_back = λ c from to a n e. grind (arith, nat_tests);
      restored = λ c from to a n e.
          let pot : (moved t c from to a).pot c - (a - t.arrives c a) ≡ t.pot c = grind (arith, nat_tests) in
          ap (λ n. shifted (moved t c from to a) c to (t.arrives c a) from a n) pot ∙ shift_back t c from a to (t.arrives c a) _ (λ same. grind (arith, nat_tests)) (grind (arith, nat_tests));
    }
