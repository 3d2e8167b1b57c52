-- What a book holds of a currency, all records and rows together, and how many debts are open. Assumes nothing.
use Rattle.std.specs.Prelude.{ℕ, ◌+◌, Bool, cond, not, ◌&&◌, List, ℤ, pos, ◌+ℤ◌, Some, None, Option, fold, sum_by, count_by, ◌==◌, int_le, slice_index, slice_index_or}
use Rattle.book.specs.declared.records.Book.{Book}
use Rattle.book.specs.declared.records.Pool.{Pool}

-- what one pool holds of a currency
abbrev pub held : Option Pool → ℕ → ℕ
held None c = 0
held (Some p) c = cond (p.terms.c0.number == c) p.x 0 + cond (p.terms.c1.number == c) p.y 0

abbrev pub pools_in : Book → ℕ → ℕ
pools_in b c = sum_by (λ p. held p c) b.pools.rows

abbrev pub claims_in : Book → ℕ → ℕ
claims_in b c = sum_by (λ row. slice_index row c) b.claims

-- the rows' cells in one column, signed
abbrev pub column : List (List ℤ) → ℕ → ℤ
column rows c = fold (λ sum row. sum +ℤ slice_index_or row c (pos 0)) (pos 0) rows

abbrev pub deltas_in : Book → ℕ → ℤ
deltas_in b c = column b.deltas c

-- not 0
abbrev pub is_open : ℤ → Bool
is_open z = not (int_le z (pos 0) && int_le (pos 0) z)

-- how many deltas are open
abbrev pub open_deltas : Book → ℕ
open_deltas b = sum_by (λ row. count_by is_open row) b.deltas
