-- What stands in a book. Assumes nothing.
use Rattle.std.specs.Prelude.{ℕ, ℤ, pos}
use Rattle.book.specs.declared.records.Book.{Book}
use Rattle.book.specs.Cells.{allowed}
use Rattle.amounts.specs.Rows.{at2}

abbrev pub delta : Book → ℕ → ℕ → ℤ
delta b who c = at2 b.deltas who c (pos 0)

abbrev pub claim : Book → ℕ → ℕ → ℕ
claim b who c = at2 b.claims who c 0

abbrev pub allowance : Book → ℕ → ℕ → ℕ → ℕ
allowance b owner spender c = allowed b.allowances owner spender c
