-- A tested currency is the one of its number. Assumes nothing.
use Rattle.std.proofs.Common.{◌≡◌, ◌<◌, sym}
use mathlib.Core.HLevel.{is_prop→PathP}
use Rattle.std.proofs.Math.Bridge.{le_prop}
use Rattle.std.proofs.Math.Nat.{mod-eq_of_lt}
use Rattle.book.specs.declared.ids.Currency.{Currency}
use Rattle.book.specs.Pools.{currency}

pub same_currency : (c : Currency) → c ≡ currency c.number
unfolding currency
same_currency c =
    let same = sym (mod-eq_of_lt c.within) in
    λ i. record { number = same i; within = is_prop→PathP (λ j. same j < 8) (λ j. le_prop) c.within (currency c.number).within i }
