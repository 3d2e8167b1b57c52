-- What an opening is tested for, and what a new ledger means. Assumes nothing.
use Rattle.std.proofs.Common.{[], sum, take, length-take, length, get_or, slice_index, sym, ◌≡◌, ℕ, zero, suc, ◌-◌, ◌<◌, ◌≤◌, true, leb, List, refl, ap, ◌∙◌, ⊎_elim, add-one, arith}
use Rattle.std.proofs.lemmas.Bool.{cases_lt}
use Rattle.std.proofs.lemmas.List.{get_or_past, get_or-take, take_all}
use Rattle.std.proofs.lemmas.List.Folds.{list_all_at}
use Rattle.std.proofs.lemmas.List.Sums.{sum_by_more}
use Rattle.std.proofs.lemmas.Bool.Decides.{nat_tests}
use Rattle.amounts.specs.Rounding.{most, part}
use Rattle.amounts.specs.Rows.{at2}
use Rattle.tokens.specs.Ledgers.{fresh_supply, supply, ledger}
use Rattle.tokens.specs.Meaning.{sum_below}
use Rattle.tokens.specs.Opening.{all_fit, fresh}
use Rattle.tokens.specs.Shifts.{same_tokens}
use Rattle.tokens.specs.declared.supply.Supply.{Supply}

-- a sum by places is the sum of a list as long
sum_up_to : (row : List ℕ) (n : ℕ) → n ≤ length row → sum_below n (slice_index row) ≡ sum (take n row)
unfolding sum_below
sum_up_to row zero h = refl
sum_up_to row (suc n) h = omega (arith, sum_up_to row n (omega arith), sum_by_more (λ (x : ℕ). x) row n 0 (omega arith), ap (λ k. sum (take k row)) (add-one n))

pub sum_of_row : (row : List ℕ) → length row ≡ 16 → sum_below 16 (slice_index row) ≡ sum row
sum_of_row row long = sum_up_to row 16 (omega arith) ∙ ap sum (take_all 16 row (omega arith))

-- where all fit, each does
pub fit_each : (rows : List (List ℕ)) (n c : ℕ) → n ≤ length rows → all_fit n rows ≡ true → c < n → sum_below 16 (λ a. at2 rows c a 0) ≤ most
fit_each rows n c room all h =
    let here = get_or-take n rows c [] h in
    let long = length-take n rows in
    let no = list_all_at (λ row. leb (sum_below 16 (slice_index row)) most) (take n rows) c [] (omega arith) in
    grind (arith, nat_tests, here, no)

-- each supply of a new ledger has an opening balance and an empty pot, under any number
pub all_new : (opening : List (List ℕ)) (supplies : List Supply) → length opening ≡ 8 → length supplies ≡ 8 → ((d : ℕ) → d < 8 → supply supplies d ≡ fresh_supply (get_or opening d [])) → (d : ℕ) → supply supplies d ≡ fresh_supply (get_or opening d [])
all_new opening supplies eight long each d =
    ⊎_elim
    (each d)
    (λ (h : 8 ≤ d). get_or_past supplies d _ (omega arith) ∙ ap fresh_supply (sym (get_or_past opening d [] (omega arith))))
    (cases_lt d 8)

pub opens_fresh : (count : ℕ) (opening : List (List ℕ)) (supplies : List Supply) (parts rate : ℕ) → ((d : ℕ) → supply supplies d ≡ fresh_supply (get_or opening d [])) → parts ≡ rate → ledger count supplies parts ≡ fresh count opening rate
opens_fresh count opening supplies parts rate new e = same_tokens _ _ refl (λ d b. ap (λ s. slice_index s.held b) (new d)) (λ d. ap (λ s. s.pot) (new d)) (λ d a. ap (λ r. a - part a r) e)
