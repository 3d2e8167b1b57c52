-- A book with one cell written, and what stood there. Assumes nothing.
use Rattle.std.specs.Prelude.{Bool, false, List, [], ℕ, ℤ, pos, None, Option, set, get_or}
use Rattle.book.specs.declared.cell.Cell.{Cell}
use Rattle.book.specs.declared.cell.Cell.TheVariants as cell
use Rattle.book.specs.declared.records.Allowed.{Allowed}
use Rattle.book.specs.declared.records.Book.{Book}
use Rattle.book.specs.declared.records.Mark.{Mark}
use Rattle.book.specs.declared.records.Pool.{Pool}
use Rattle.amounts.specs.Rows.{at2, put2}

abbrev pub none_allowed : Allowed
none_allowed = record { rows = [] }

-- what an owner allows a spender in a currency
abbrev pub allowed : List Allowed → ℕ → ℕ → ℕ → ℕ
allowed owners owner spender c = at2 (get_or owners owner none_allowed).rows spender c 0

abbrev pub allow : List Allowed → ℕ → ℕ → ℕ → ℕ → List Allowed
allow owners owner spender c to = set owners owner (record { rows = put2 (get_or owners owner none_allowed).rows spender c to })

-- a book with one record or cell changed
abbrev pub with_pool : Book → ℕ → Option Pool → Book
with_pool b p to = record b { pools = record { rows = set b.pools.rows p to } }

abbrev pub with_share : Book → ℕ → ℕ → ℕ → Book
with_share b p who to = record b { shares = put2 b.shares p who to }

abbrev pub with_claim : Book → ℕ → ℕ → ℕ → Book
with_claim b who c to = record b { claims = put2 b.claims who c to }

abbrev pub with_allowance : Book → ℕ → ℕ → ℕ → ℕ → Book
with_allowance b owner spender c to = record b { allowances = allow b.allowances owner spender c to }

abbrev pub with_operator : Book → ℕ → ℕ → Bool → Book
with_operator b owner spender to = record b { operators = put2 b.operators owner spender to }

abbrev pub with_delta : Book → ℕ → ℕ → ℤ → Book
with_delta b who c to = record b { deltas = put2 b.deltas who c to }

abbrev pub with_mark : Book → Option Mark → Book
with_mark b to = record b { mark = to }

abbrev pub with_steps : Book → ℕ → Book
with_steps b to = record b { steps = to }

-- the cell's value stands there, and nothing else is changed
abbrev pub written : Book → Cell → Book
written b (cell.Pool p to) = with_pool b p.number to
written b (cell.Share p who to) = with_share b p.number who.number to
written b (cell.Claim who c to) = with_claim b who.number c.number to
written b (cell.Allowance owner spender c to) = with_allowance b owner.number spender.number c.number to
written b (cell.Operator owner spender to) = with_operator b owner.number spender.number to
written b (cell.Delta who c to) = with_delta b who.number c.number to
written b (cell.Mark to) = with_mark b to
written b (cell.Steps to) = with_steps b to

-- the same cell with what stands there
abbrev pub former : Book → Cell → Cell
former b (cell.Pool p to) = cell.Pool p (get_or b.pools.rows p.number None)
former b (cell.Share p who to) = cell.Share p who (at2 b.shares p.number who.number 0)
former b (cell.Claim who c to) = cell.Claim who c (at2 b.claims who.number c.number 0)
former b (cell.Allowance owner spender c to) = cell.Allowance owner spender c (allowed b.allowances owner.number spender.number c.number)
former b (cell.Operator owner spender to) = cell.Operator owner spender (at2 b.operators owner.number spender.number false)
former b (cell.Delta who c to) = cell.Delta who c (at2 b.deltas who.number c.number (pos 0))
former b (cell.Mark to) = cell.Mark b.mark
former b (cell.Steps to) = cell.Steps b.steps
