-- Token banks side by side: a shift in one of them is one of the pair. Assumes nothing.
use Rattle.std.specs.Prelude.{◌≡◌, ℕ, ◌+◌, ◌-◌, ◌<◌, ◌≤◌, Some, Ok, Err, Result, refl}
use Rattle.std.proofs.Common.{sym, ap, ◌∙◌, arith}
use Rattle.std.proofs.lemmas.Bool.Decides.{nat_tests}
use Rattle.amounts.specs.Pair.{place}
use Rattle.amounts.specs.declared.pair.Place.TheVariants.{Second}
use Rattle.tokens.specs.declared.bank.TokenFault.{TokenFault}
use Rattle.tokens.specs.Beside.{beside}
use Rattle.tokens.specs.Meaning.{Tokens, shifted}
use Rattle.tokens.specs.Moves.{Lawful, after, transfer_answer, after_transfer, unmove_answer, after_unmove}
use Rattle.tokens.specs.Laws.{lawful_from}
use Rattle.tokens.specs.Shifts.{same_tokens}

-- a shift in the second bank is one of the pair
second_shifted : (a b : Tokens) (c payer fall payee rise pot : ℕ) → a.count ≤ c → beside a (shifted b (c - a.count) payer fall payee rise pot) ≡ shifted (beside a b) c payer fall payee rise pot
second_shifted a b c payer fall payee rise pot h = same_tokens _ _ refl (λ d e. grind (arith, nat_tests)) (λ d. grind (arith, nat_tests)) (λ d e. refl)

-- where two calls answer the same, what follows from either is seen alike by the pair
alike : {X : Type 0} (r s : Result X TokenFault) (a new old news : Tokens) → r ≡ s → beside a new ≡ news → beside a (after r new old) ≡ after s news (beside a old)
alike (Ok x) s a new old news e same = same ∙ ap (λ r. after r news (beside a old)) e
alike (Err x) s a new old news e same = ap (λ r. after r news (beside a old)) e

-- a transfer or an unmove in the second bank is one of the pair
module _ (a b : Tokens) (c k from to n : ℕ) (second : Some (Second k) ≡ place 8 a.count c) where
  past : a.count ≤ c
  past = grind (arith, nat_tests)

  low : c < 8
  low = grind (arith, nat_tests)

  less : c - a.count ≡ k
  less = grind (arith, nat_tests)

  arrives : (beside a b).arrives c n ≡ b.arrives k n
  arrives = grind (arith, nat_tests)

  pot : (beside a b).pot c ≡ b.pot k
  pot = grind (arith, nat_tests)

  shifts : (payer fall payee rise m : ℕ) → beside a (shifted b k payer fall payee rise m) ≡ shifted (beside a b) c payer fall payee rise m
  shifts payer fall payee rise m = ap (λ i. beside a (shifted b i payer fall payee rise m)) (sym less) ∙ second_shifted a b c payer fall payee rise m past

  pub transfers_as_second : (transfer_answer b k from to n ≡ transfer_answer (beside a b) c from to n) × (beside a (after_transfer b k from to n) ≡ after_transfer (beside a b) c from to n)
  transfers_as_second =
      let answers : transfer_answer b k from to n ≡ transfer_answer (beside a b) c from to n = grind (arith, nat_tests) in
      let same = shifts from n to (b.arrives k n) (b.pot k + (n - b.arrives k n)) in
      (answers, alike _ _ a _ b _ answers (same ∙ cc (arrives, pot)))

  pub unmoves_as_second : (unmove_answer b k from to n ≡ unmove_answer (beside a b) c from to n) × (beside a (after_unmove b k from to n) ≡ after_unmove (beside a b) c from to n)
  unmoves_as_second =
      let answers : unmove_answer b k from to n ≡ unmove_answer (beside a b) c from to n = grind (arith, nat_tests) in
      let same = shifts to (b.arrives k n) from n (b.pot k - (n - b.arrives k n)) in
      (answers, alike _ _ a _ b _ answers (same ∙ cc (arrives, pot)))

-- the pair is lawful, by what its two banks show
pub beside_lawful : (a b : Tokens) → Lawful a → Lawful b → Lawful (beside a b)
beside_lawful a b la lb =
    lawful_from (beside a b) (grind (arith, nat_tests))
    (λ c n. let f = la.within c n in let s = lb.within (c - a.count) n in grind (arith, nat_tests))
    (λ c known. let f = la.bounded c in let s = lb.bounded (c - a.count) in grind (arith, nat_tests))
