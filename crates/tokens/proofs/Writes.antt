-- What the writes of a shift mean. Assumes nothing.
use Rattle.std.proofs.Common.{◌≡◌, ℕ, ◌+◌, ◌-◌, ◌<◌, ◌≤◌, List, length, get_or, set, refl, ap, ◌∙◌, arith}
use Rattle.std.proofs.lemmas.List.{get_or-set_same, get_or-set_other, length-set}
use Rattle.std.proofs.lemmas.Bool.Decides.{nat_tests}
use Rattle.amounts.specs.Rounding.{most}
use Rattle.tokens.specs.Ledgers.{supply, held, ledger, Shaped, Bounded, Shift}
use Rattle.tokens.specs.Meaning.{total, shifted}
use Rattle.tokens.specs.declared.ledger.Ledger.{Ledger}
use Rattle.tokens.specs.declared.supply.Supply.{Supply}
use Rattle.tokens.specs.Sums.{two_of_sum}
use Rattle.tokens.specs.Shifts.{same_tokens, shift_keeps}

-- in supply c the payer's balance is written first, then the payee's and the pot
abbrev pub rewritten : List Supply → ℕ → ℕ → ℕ → ℕ → ℕ → ℕ → List Supply
rewritten supplies c payer fall payee rise pot =
    let once = set (supply supplies c).held payer (held supplies c payer - fall) in
    set supplies c (record { held = set once payee (get_or once payee 0 + rise); pot = pot })

module _ (s : Ledger) (c payer fall payee rise pot : ℕ) (ok : Shift s.count s.supplies c payer fall payee rise pot) where
  low : c < 8
  low = let few = s.few in let known = ok.known in omega arith

  wide : c < length s.supplies
  wide = omega (arith, low, s.shaped.0)

  -- the payee's new balance and the new pot are within what there is
  pub room : (held s.supplies c payee + rise ≤ most) × (pot ≤ most)
  room =
      let sum = s.bounded c ok.known in
      let two = two_of_sum 16 (held s.supplies c) payer payee ok.payer_known ok.payee_known ok.apart in
      (omega arith, omega arith)

  pub still_shaped : Shaped (rewritten s.supplies c payer fall payee rise pot)
  still_shaped = let there = wide in (length-set s.supplies c _ ∙ s.shaped.0, λ d h. let row = s.shaped.1 d h in grind (arith, nat_tests, get_or-set_same, get_or-set_other, length-set))

  pub written : (rate : ℕ) → ledger s.count (rewritten s.supplies c payer fall payee rise pot) rate ≡ shifted (ledger s.count s.supplies rate) c payer fall payee rise pot
  written rate =
      let there = wide in
      let row = s.shaped.1 c low in
      same_tokens _ _ refl
      (λ d b. grind (arith, nat_tests, get_or-set_same, get_or-set_other, length-set))
      (λ d. grind (arith, nat_tests, get_or-set_same, get_or-set_other))
      (λ d a. refl)

  pub still_bounded : Bounded s.count (rewritten s.supplies c payer fall payee rise pot)
  still_bounded d h =
      let keeps = ap (λ t. total t d) (written 0) ∙ shift_keeps (ledger s.count s.supplies 0) c payer fall payee rise pot ok.apart ok.holds ok.payer_known ok.payee_known ok.even d in
      omega (arith, keeps, s.bounded d h)
