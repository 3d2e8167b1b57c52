-- What new pools, deposits and withdrawals come to, on what holds. Assumes nothing.
use Rattle.std.specs.Prelude.{ℕ, ◌+◌, ◌-◌, ◌*◌, not, ◌&&◌, Some, None, Option, Ok, Err, Result, ℤ, pos, ◌+ℤ◌, ◌-ℤ◌, get_or, ◌==◌, nat_le, nat_lt}
use Rattle.amounts.specs.Checks.{need as tested, with_ok}
use Rattle.amounts.specs.Rows.{at2}
use Rattle.amounts.specs.Shares.{root, cost, paid}
use Rattle.book.specs.declared.records.Book.{Book}
use Rattle.book.specs.declared.records.Pool.{Pool}
use Rattle.book.specs.declared.records.Terms.{Terms}
use Rattle.book.specs.Cells.{with_pool, with_share, with_delta, with_steps}
use Rattle.book.specs.Pools.{terms, empty_pool, free_pool, has_pool}
use Rattle.book.specs.Reads.{delta}
use Rattle.curves.specs.Meaning.{Curves}
use Rattle.checks.specs.Tests.{is_account, is_currency, is_amount, has_step, has_room, in_range}
use Rattle.faults.specs.declared.cause.Cause.{Cause}
use Rattle.faults.specs.declared.cause.Cause.TheVariants as cause
use Rattle.faults.specs.Reports.{unplaced, placed}
use Rattle.pools.specs.declared.change.Change.{Change}
use Rattle.pools.specs.declared.change.Deltas.{Deltas}
use Rattle.store.specs.Outcome.{Outcome, refused, done, need}
use Rattle.store.specs.World.{World, with_book}

-- how many shares of a pool an account has
abbrev pub share : Book → ℕ → ℕ → ℕ
share b p who = at2 b.shares p who 0

-- what a call on a pool comes to, where the pool is made
abbrev pub known : {A : Type 0} → Option Pool → (Pool → Outcome A) → Outcome A
known None rest = refused (unplaced cause.Pool)
known (Some l) rest = rest l

-- the book with a change
abbrev pub changed : Book → ℕ → ℕ → Change → ℕ → Book
changed b who p c steps =
    let t = c.pool.terms in
    with_steps (with_share (with_delta (with_delta (with_pool b p (Some c.pool)) who t.c0.number c.deltas.in_c0) who t.c1.number c.deltas.in_c1) p who c.share) steps

-- a refusal of this pool, or an answer with what holds then
abbrev pub in_pool : {A : Type 0} → ℕ → Result (A × World) Cause → Outcome A
in_pool p (Err c) = refused (placed c p)
in_pool p (Ok r) = done r.0 r.1

-- what holds after a change, a step later
abbrev pub carried : {A : Type 0} → World → ℕ → ℕ → A × Change → Result (A × World) Cause
carried w who p r = Ok (r.0, with_book w (changed w.book who p r.1 (w.book.steps + 1)))

-- the next pool's number, where there is room for one
abbrev pub numbered : {A : Type 0} → Option ℕ → (ℕ → Outcome A) → Outcome A
numbered None rest = refused (unplaced cause.PoolsFull)
numbered (Some n) rest = rest n

abbrev pub pool : Curves → World → ℕ → ℕ → ℕ → ℕ → Outcome ℕ
pool k w c0 c1 curve hook =
    need (is_currency w.tokens.count c0) cause.Currency
    (need (is_currency w.tokens.count c1) cause.Currency
    (need (nat_lt curve k.count && nat_lt hook w.hooks.count) cause.CurveOrHook
    (need (nat_lt c0 c1) cause.CurrencyOrder
    (need (not (has_pool w.book (terms c0 c1 curve hook))) cause.PoolExists
    (numbered (free_pool w.book) (λ n.
    done n (with_book w (with_pool w.book n (Some (empty_pool (terms c0 c1 curve hook)))))))))))

-- the deltas of an account after a cost in both currencies of a pool, and after a credit in both
abbrev pub both_in_range : ℤ → ℤ → Result Deltas Cause
both_in_range d0 d1 = tested (in_range d0) cause.Full (tested (in_range d1) cause.Full (Ok (record { in_c0 = d0; in_c1 = d1 })))

abbrev pub charged : Book → ℕ → Terms → ℕ → ℕ → Result Deltas Cause
charged b who t a0 a1 = both_in_range (delta b who t.c0.number -ℤ pos a0) (delta b who t.c1.number -ℤ pos a1)

abbrev pub credited : Book → ℕ → Terms → ℕ → ℕ → Result Deltas Cause
credited b who t a0 a1 = both_in_range (delta b who t.c0.number +ℤ pos a0) (delta b who t.c1.number +ℤ pos a1)

-- who has no share yet, since a pool without shares has given none
abbrev pub first_deposit : Book → ℕ → Pool → ℕ → ℕ → Result (ℕ × Change) Cause
first_deposit b who l a c =
    let r = root (a * c) in
    tested (l.total == 0) cause.Shares
    (tested (not (nat_le r 1000)) cause.Nothing
    (with_ok (charged b who l.terms a c) (λ d.
    Ok (r - 1000, record { pool = record l { x = a; y = c; total = r }; deltas = d; share = r - 1000 }))))

abbrev pub deposit : Book → ℕ → ℕ → Pool → ℕ → Result ((ℕ × ℕ) × Change) Cause
deposit b who p l s =
    let a0 = cost s l.x l.total in
    let a1 = cost s l.y l.total in
    tested (not (l.total == 0)) cause.Shares
    (tested (has_room (l.x + a0)) cause.Full
    (tested (has_room (l.y + a1)) cause.Full
    (tested (has_room (l.total + s)) cause.Full
    (tested (has_room (share b p who + s)) cause.Full
    (with_ok (charged b who l.terms a0 a1) (λ d.
    Ok ((a0, a1), record { pool = record l { x = l.x + a0; y = l.y + a1; total = l.total + s }; deltas = d; share = share b p who + s })))))))

abbrev pub withdrawal : Book → ℕ → ℕ → Pool → ℕ → Result ((ℕ × ℕ) × Change) Cause
withdrawal b who p l s =
    let a0 = paid s l.x l.total in
    let a1 = paid s l.y l.total in
    tested (not (l.total == 0)) cause.Shares
    (tested (nat_le s (share b p who)) cause.SharesShort
    (tested (not (a0 == 0 && a1 == 0)) cause.Nothing
    (with_ok (credited b who l.terms a0 a1) (λ d.
    Ok ((a0, a1), record { pool = record l { x = l.x - a0; y = l.y - a1; total = l.total - s }; deltas = d; share = share b p who - s })))))

abbrev pub seed : World → ℕ → ℕ → ℕ → ℕ → Outcome ℕ
seed w who p a b =
    need (is_account who) cause.Account
    (known (get_or w.book.pools.rows p None) (λ l.
    need (is_amount a) cause.Amount
    (need (is_amount b) cause.Amount
    (need (has_step w.book.steps) cause.Steps
    (in_pool p (with_ok (first_deposit w.book who l a b) (carried w who p)))))))

abbrev pub add : World → ℕ → ℕ → ℕ → Outcome (ℕ × ℕ)
add w who p s =
    need (is_account who) cause.Account
    (known (get_or w.book.pools.rows p None) (λ l.
    need (is_amount s) cause.Amount
    (need (has_step w.book.steps) cause.Steps
    (in_pool p (with_ok (deposit w.book who p l s) (carried w who p))))))

abbrev pub remove : World → ℕ → ℕ → ℕ → Outcome (ℕ × ℕ)
remove w who p s =
    need (is_account who) cause.Account
    (known (get_or w.book.pools.rows p None) (λ l.
    need (is_amount s) cause.Amount
    (need (has_step w.book.steps) cause.Steps
    (in_pool p (with_ok (withdrawal w.book who p l s) (carried w who p))))))
