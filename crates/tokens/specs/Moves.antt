-- Which moves are accepted and what they answer, and the laws that every token bank shows. Assumes nothing.
use Rattle.std.specs.Prelude.{◌≡◌, ℕ, ◌-◌, ◌<◌, ◌≤◌, not, ◌&&◌, Ok, Err, Result, ◌==◌, nat_le, nat_lt}
use Rattle.amounts.specs.Checks.{need, then}
use Rattle.amounts.specs.Rounding.{most}
use Rattle.tokens.specs.declared.bank.TokenFault.{TokenFault}
use Rattle.tokens.specs.declared.bank.TokenFault.TheVariants.{UnknownCurrency, UnknownAccount, SameAccount, NoAmount, Short}
use Rattle.tokens.specs.Meaning.{Tokens, sum_below, total, moved, unmoved}

abbrev pub balance_answer : Tokens → ℕ → ℕ → Result ℕ TokenFault
balance_answer t c account = need (nat_lt c t.count) UnknownCurrency (need (nat_lt account 16) UnknownAccount (Ok (t.balance c account)))

-- the sixteen balances together
abbrev pub circulating_answer : Tokens → ℕ → Result ℕ TokenFault
circulating_answer t c = need (nat_lt c t.count) UnknownCurrency (Ok (sum_below 16 (t.balance c)))

-- known numbers, two accounts, and an amount
abbrev pub numbered : ℕ → ℕ → ℕ → ℕ → ℕ → Result Unit TokenFault
numbered count c from to a =
    need (nat_lt c count) UnknownCurrency
    (need (nat_lt from 16 && nat_lt to 16) UnknownAccount
    (need (not (from == to)) SameAccount
    (need (nat_lt 0 a) NoAmount (Ok tt))))

-- from holds the amount, and the answer is what arrives
abbrev pub transfer_answer : Tokens → ℕ → ℕ → ℕ → ℕ → Result ℕ TokenFault
transfer_answer t c from to a = then (numbered t.count c from to a) (need (nat_le a (t.balance c from)) Short (Ok (t.arrives c a)))

-- to holds what arrived, and the pot the rest
abbrev pub unmove_answer : Tokens → ℕ → ℕ → ℕ → ℕ → Result Unit TokenFault
unmove_answer t c from to a = then (numbered t.count c from to a) (need (nat_le (t.arrives c a) (t.balance c to) && nat_le (a - t.arrives c a) (t.pot c)) Short (Ok tt))

-- what holds after a call: something new where it is accepted, else what held before
abbrev pub after : {X : Type 0} → Result X TokenFault → Tokens → Tokens → Tokens
after (Ok answer) new old = new
after (Err fault) new old = old

abbrev pub after_transfer : Tokens → ℕ → ℕ → ℕ → ℕ → Tokens
after_transfer t c from to a = after (transfer_answer t c from to a) (moved t c from to a) t

abbrev pub after_unmove : Tokens → ℕ → ℕ → ℕ → ℕ → Tokens
after_unmove t c from to a = after (unmove_answer t c from to a) (unmoved t c from to a) t

pub record Lawful (t : Tokens) : Type 0 where
  pub few : t.count ≤ 8
  pub within : (c a : ℕ) → t.arrives c a ≤ a
  pub bounded : (c : ℕ) → c < t.count → total t c ≤ most
  pub move_keeps : (c from to a d : ℕ) → total (after_transfer t c from to a) d ≡ total t d
  pub unmove_keeps : (c from to a d : ℕ) → total (after_unmove t c from to a) d ≡ total t d
  pub accepted_back : (c from to a n : ℕ) → transfer_answer t c from to a ≡ Ok n → unmove_answer (moved t c from to a) c from to a ≡ Ok tt
  pub restored : (c from to a n : ℕ) → transfer_answer t c from to a ≡ Ok n → unmoved (moved t c from to a) c from to a ≡ t
