-- From which opening balances a ledger is made, and what a new ledger means. Assumes nothing.
use Rattle.std.specs.Prelude.{◌≡◌, ℕ, ◌-◌, Bool, List, take, Ok, Result, nat_le, slice_index}
use Rattle.std.specs.List.{list_all}
use Rattle.amounts.specs.Checks.{need}
use Rattle.amounts.specs.Rounding.{most, part}
use Rattle.amounts.specs.Rows.{at2}
use Rattle.tokens.specs.declared.opening.OpeningFault.{OpeningFault}
use Rattle.tokens.specs.declared.opening.OpeningFault.TheVariants.{Count, Rate, Sum}
use Rattle.tokens.specs.Meaning.{Tokens, sum_below}

-- of none of the first n currencies is there more than M
abbrev pub all_fit : ℕ → List (List ℕ) → Bool
all_fit n rows = list_all (λ row. nat_le (sum_below 16 (slice_index row)) most) (take n rows)

abbrev pub opened : ℕ → List (List ℕ) → ℕ → Result Unit OpeningFault
opened count rows rate = need (nat_le count 8) Count (need (nat_le rate 1000) Rate (need (all_fit count rows) Sum (Ok tt)))

-- the opening balances, empty pots, and a levy of so many ten-thousandths
abbrev pub fresh : ℕ → List (List ℕ) → ℕ → Tokens
fresh count rows rate = record { count = count; balance = λ c a. at2 rows c a 0; pot = λ _. 0; arrives = λ _ a. a - part a rate }

-- all that is sent arrives
abbrev pub Plain : Tokens → Type 0
Plain t = (c a : ℕ) → t.arrives c a ≡ a
