-- What a ledger means, and what every ledger keeps. Assumes nothing.
use Rattle.std.specs.Prelude.{◌≡◌, ℕ, ◌+◌, ◌-◌, ◌<◌, ◌≤◌, List, [], length, slice_index, slice_index_or}
use Rattle.amounts.specs.Rounding.{most, part}
use Rattle.tokens.specs.Meaning.{Tokens, sum_below}
use Rattle.tokens.specs.declared.supply.Supply.{Supply}

-- balances, and an empty pot
abbrev pub fresh_supply : List ℕ → Supply
fresh_supply held = record { held = held; pot = 0 }

-- what there is of currency c
abbrev pub supply : List Supply → ℕ → Supply
supply supplies c = slice_index_or supplies c (fresh_supply [])

abbrev pub held : List Supply → ℕ → ℕ → ℕ
held supplies c a = slice_index (supply supplies c).held a

abbrev pub pot_of : List Supply → ℕ → ℕ
pot_of supplies c = (supply supplies c).pot

-- a levy of so many ten-thousandths goes to the pot
abbrev pub ledger : ℕ → List Supply → ℕ → Tokens
ledger count supplies rate = record { count = count; balance = held supplies; pot = pot_of supplies; arrives = λ _ a. a - part a rate }

-- eight currencies, each with the places of all sixteen accounts
abbrev pub Shaped : List Supply → Type 0
Shaped supplies = (length supplies ≡ 8) × ((c : ℕ) → c < 8 → 15 < length (supply supplies c).held)

-- of no known currency is there more than M
abbrev pub Bounded : ℕ → List Supply → Type 0
Bounded count supplies = (c : ℕ) → c < count → sum_below 16 (held supplies c) + pot_of supplies c ≤ most

-- a shift between two accounts of a known currency, of which there is as much after it as before
pub record Shift (count : ℕ) (supplies : List Supply) (c payer fall payee rise pot : ℕ) : Type 0 where
  pub known : c < count
  pub payer_known : payer < 16
  pub payee_known : payee < 16
  pub apart : payer ≡ payee → ⊥
  pub holds : fall ≤ held supplies c payer
  pub even : rise + pot ≡ fall + pot_of supplies c
