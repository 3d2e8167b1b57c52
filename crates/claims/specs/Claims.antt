-- What the calls on claims come to, on what holds. Assumes nothing.
use Rattle.std.specs.Prelude.{ℕ, ◌+◌, ◌-◌, Bool, false, cond, not, ◌||◌, pos, ◌+ℤ◌, ◌-ℤ◌, ◌==◌, nat_le}
use Rattle.amounts.specs.Rounding.{most}
use Rattle.book.specs.declared.records.Book.{Book}
use Rattle.book.specs.Cells.{with_claim, with_allowance, with_delta, with_steps}
use Rattle.amounts.specs.Rows.{at2}
pub use Rattle.book.specs.Reads.{delta, claim, allowance}
use Rattle.checks.specs.Tests.{is_account, is_currency, is_amount, is_amount_or_none, are_apart, has_step, has_room, in_range}
pub use Rattle.checks.specs.Tests.{steps_after}
use Rattle.faults.specs.declared.cause.Cause.TheVariants as cause
use Rattle.store.specs.Outcome.{Outcome, done, need}
use Rattle.store.specs.World.{World, with_book}

-- the caller is the holder, or its operator
abbrev pub owns : Book → ℕ → ℕ → Bool
owns b caller from = caller == from || at2 b.operators from caller false

abbrev pub has_right : Book → ℕ → ℕ → ℕ → ℕ → Bool
has_right b caller from c a = owns b caller from || nat_le a (allowance b from caller c)

-- what is left of the allowance: it falls only where the right rests on it, and one of M never does
abbrev pub unspent : Book → ℕ → ℕ → ℕ → ℕ → ℕ
unspent b caller from c a = cond (owns b caller from || allowance b from caller c == most) (allowance b from caller c) (allowance b from caller c - a)

abbrev pub mint : World → ℕ → ℕ → ℕ → ℕ → Outcome (Unit {0})
mint w who to c a =
    let b = w.book in
    need (is_account who) cause.Account
    (need (is_account to) cause.Account
    (need (is_currency w.tokens.count c) cause.Currency
    (need (is_amount a) cause.Amount
    (need (has_step b.steps) cause.Steps
    (need (in_range (delta b who c -ℤ pos a)) cause.Full
    (need (has_room (claim b to c + a)) cause.Full
    (done tt (with_book w (with_steps (with_claim (with_delta b who c (delta b who c -ℤ pos a)) to c (claim b to c + a)) (b.steps + 1))))))))))

abbrev pub burn : World → ℕ → ℕ → ℕ → ℕ → Outcome (Unit {0})
burn w who from c a =
    let b = w.book in
    need (is_account who) cause.Account
    (need (is_account from) cause.Account
    (need (is_currency w.tokens.count c) cause.Currency
    (need (is_amount a) cause.Amount
    (need (has_step b.steps) cause.Steps
    (need (has_right b who from c a) cause.NoRight
    (need (nat_le a (claim b from c)) cause.ClaimShort
    (need (in_range (delta b who c +ℤ pos a)) cause.Full
    (done tt (with_book w (with_steps (with_delta (with_claim (with_allowance b from who c (unspent b who from c a)) from c (claim b from c - a)) who c (delta b who c +ℤ pos a)) (b.steps + 1)))))))))))

-- a step is counted and limited in a session only
abbrev pub hand : Bool → World → ℕ → ℕ → ℕ → ℕ → ℕ → Outcome (Unit {0})
hand session w caller from to c a =
    let b = w.book in
    need (is_account caller) cause.Account
    (need (is_account from) cause.Account
    (need (is_account to) cause.Account
    (need (is_currency w.tokens.count c) cause.Currency
    (need (is_amount a) cause.Amount
    (need (are_apart from to) cause.SameAccount
    (need (not session || has_step b.steps) cause.Steps
    (need (has_right b caller from c a) cause.NoRight
    (need (nat_le a (claim b from c)) cause.ClaimShort
    (need (has_room (claim b to c + a)) cause.Full
    (done tt (with_book w (with_steps (with_claim (with_claim (with_allowance b from caller c (unspent b caller from c a)) from c (claim b from c - a)) to c (claim b to c + a)) (steps_after session b.steps)))))))))))))

abbrev pub allow : World → ℕ → ℕ → ℕ → ℕ → Outcome (Unit {0})
allow w owner spender c a =
    need (is_account owner) cause.Account
    (need (is_account spender) cause.Account
    (need (is_currency w.tokens.count c) cause.Currency
    (need (is_amount_or_none a) cause.Amount
    (done tt (with_book w (with_allowance w.book owner spender c a))))))
