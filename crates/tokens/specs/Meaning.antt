-- What a token bank means, and how a move changes it. Assumes nothing.
use Rattle.std.specs.Prelude.{ℕ, zero, suc, ◌+◌, ◌-◌, cond, ◌==◌}

-- By currency and account the balance, by currency the pot, by currency and amount what arrives of it.
pub record Tokens : Type 0 where
  pub count : ℕ
  pub balance : ℕ → ℕ → ℕ
  pub pot : ℕ → ℕ
  pub arrives : ℕ → ℕ → ℕ

-- f 0 + .. + f (n - 1)
unfoldable pub sum_below : ℕ → (ℕ → ℕ) → ℕ
sum_below zero f = 0
sum_below (suc n) f = sum_below n f + f n

-- all that there is of a currency
abbrev pub total : Tokens → ℕ → ℕ
total t c = sum_below 16 (t.balance c) + t.pot c

-- in currency c the payer falls, the payee rises, and the pot is a new one; all else stays
abbrev pub shifted : Tokens → ℕ → ℕ → ℕ → ℕ → ℕ → ℕ → Tokens
shifted t c payer fall payee rise pot =
    record t {
      balance = λ d b.
          cond (d == c)
          (cond (b == payee) (t.balance c payee + rise) (cond (b == payer) (t.balance c payer - fall) (t.balance d b)))
          (t.balance d b);
      pot = λ d. cond (d == c) pot (t.pot d);
    }

-- from falls by a, to rises by what arrives, and the pot by the rest
abbrev pub moved : Tokens → ℕ → ℕ → ℕ → ℕ → Tokens
moved t c from to a = shifted t c from a to (t.arrives c a) (t.pot c + (a - t.arrives c a))

-- the reverse
abbrev pub unmoved : Tokens → ℕ → ℕ → ℕ → ℕ → Tokens
unmoved t c from to a = shifted t c to (t.arrives c a) from a (t.pot c - (a - t.arrives c a))
