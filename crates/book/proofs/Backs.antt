-- A cell written twice, the second time with what stood there, leaves the book as it was. Assumes nothing.
use Rattle.std.proofs.Common.{◌≡◌, ℕ, zero, suc, false, None, List, [], ◌∷◌, get_or, set, pos, refl, ap, ◌∙◌}
use Rattle.std.proofs.lemmas.List.{set-set, set-get_or}
use Rattle.book.specs.declared.cell.Cell.{Cell}
use Rattle.book.specs.declared.cell.Cell.TheVariants as cell
use Rattle.book.specs.declared.records.Allowed.{Allowed}
use Rattle.book.specs.declared.records.Book.{Book}
use Rattle.book.specs.Cells.{written, former, allowed, allow}
use Rattle.amounts.specs.Rows.{at2, put2}

back1 : {A : Type 0} (row : List A) (i : ℕ) (v d : A) → set (set row i v) i (get_or row i d) ≡ row
back1 row i v d = set-set row i v (get_or row i d) ∙ set-get_or row i d

back2 : {A : Type 0} (rows : List (List A)) (i j : ℕ) (v d : A) → put2 (put2 rows i j v) i j (at2 rows i j d) ≡ rows
back2 [] i j v d = refl
back2 (r ∷ rows) zero j v d = ap (λ q. q ∷ rows) (back1 r j v d)
back2 (r ∷ rows) (suc i) j v d = ap (λ q. r ∷ q) (back2 rows i j v d)

allow_back : (owners : List Allowed) (i j k v : ℕ) → allow (allow owners i j k v) i j k (allowed owners i j k) ≡ owners
allow_back [] i j k v = refl
allow_back (r ∷ owners) zero j k v = ap (λ q. record { rows = q } ∷ owners) (back2 r.rows j k v 0)
allow_back (r ∷ owners) (suc i) j k v = ap (λ q. r ∷ q) (allow_back owners i j k v)

pub back : (b : Book) (c : Cell) → written (written b c) (former b c) ≡ b
back b (cell.Pool p to) = ap (λ rows. record b { pools = record { rows = rows } }) (back1 b.pools.rows p.number to None)
back b (cell.Share p who to) = ap (λ rows. record b { shares = rows }) (back2 b.shares p.number who.number to 0)
back b (cell.Claim who c to) = ap (λ rows. record b { claims = rows }) (back2 b.claims who.number c.number to 0)
back b (cell.Allowance owner spender c to) = ap (λ rows. record b { allowances = rows }) (allow_back b.allowances owner.number spender.number c.number to)
back b (cell.Operator owner spender to) = ap (λ rows. record b { operators = rows }) (back2 b.operators owner.number spender.number to false)
back b (cell.Delta who c to) = ap (λ rows. record b { deltas = rows }) (back2 b.deltas who.number c.number to (pos 0))
back b (cell.Mark to) = refl
back b (cell.Steps to) = refl
