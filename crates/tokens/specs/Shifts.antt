-- A shift keeps what there is of each currency, and the reverse shift restores it. Assumes nothing.
use Rattle.std.specs.Prelude.{◌≡◌, ℕ, ◌+◌, ◌-◌, ◌<◌, ◌≤◌, refl}
use Rattle.std.proofs.Common.{ap, arith, ⊎_elim}
use Rattle.std.proofs.lemmas.Bool.{cases_eq}
use Rattle.std.proofs.lemmas.Bool.Decides.{nat_tests}
use Rattle.amounts.specs.Rows.{at}
use Rattle.tokens.specs.Meaning.{Tokens, sum_below, total, shifted}
use Rattle.tokens.specs.Sums.{sum_same, sum_at}

pub same_tokens : (t u : Tokens) → t.count ≡ u.count → ((d b : ℕ) → t.balance d b ≡ u.balance d b) → ((d : ℕ) → t.pot d ≡ u.pot d) → ((d a : ℕ) → t.arrives d a ≡ u.arrives d a) → t ≡ u
same_tokens t u count balance pot arrives = λ i. record { count = count i; balance = λ d b. balance d b i; pot = λ d. pot d i; arrives = λ d a. arrives d a i }

module _ (t : Tokens) (c payer fall payee rise pot : ℕ) (apart : payer ≡ payee → ⊥) (holds : fall ≤ t.balance c payer) where
  pub shift_back : shifted (shifted t c payer fall payee rise pot) c payee rise payer fall (t.pot c) ≡ t
  shift_back = same_tokens _ _ refl (λ d b. grind (arith, nat_tests)) (λ d. grind (arith, nat_tests)) (λ d a. refl)

  pub shift_keeps : payer < 16 → payee < 16 → rise + pot ≡ fall + t.pot c → (d : ℕ) → total (shifted t c payer fall payee rise pot) d ≡ total t d
  shift_keeps p q even d =
      let row : ℕ → ℕ = t.balance c in
      let once : ℕ → ℕ = at row payer (row payer - fall) in
      let twice : ℕ → ℕ = at once payee (row payee + rise) in
      let new : ℕ → ℕ = (shifted t c payer fall payee rise pot).balance d in
      let stays : once payee ≡ row payee = grind (arith, nat_tests) in
      ⊎_elim
      (λ (e : d ≡ c).
      let sums : sum_below 16 new ≡ sum_below 16 twice = sum_same 16 new twice (λ b _. grind (arith, nat_tests)) in
      let here : (shifted t c payer fall payee rise pot).pot d ≡ pot = grind (arith, nat_tests) in
      omega (arith, sums, here, stays, ap (λ k. sum_below 16 (t.balance k)) e, ap t.pot e, sum_at 16 row payer (row payer - fall) p, sum_at 16 once payee (row payee + rise) q))
      (λ (ne : d ≡ c → ⊥).
      let sums : sum_below 16 new ≡ sum_below 16 (t.balance d) = sum_same 16 new (t.balance d) (λ b _. grind (arith, nat_tests)) in
      let here : (shifted t c payer fall payee rise pot).pot d ≡ t.pot d = grind (arith, nat_tests) in
      omega (arith, sums, here))
      (cases_eq d c)
