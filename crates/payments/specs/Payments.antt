-- What the calls on tokens and debts come to, on what holds. Assumes nothing.
use Rattle.std.specs.Prelude.{ℕ, ◌+◌, ◌-◌, Bool, false, not, ◌&&◌, Some, None, Option, ◌||◌, pos, ◌+ℤ◌, ◌-ℤ◌, ◌==◌, nat_le}
use Rattle.book.specs.declared.records.Mark.{Mark}
use Rattle.book.specs.Cells.{with_delta, with_mark, with_steps}
use Rattle.book.specs.Reads.{delta}
use Rattle.checks.specs.Tests.{is_account, is_account_or_vault, is_currency, is_amount, are_apart, has_step, steps_after, in_range, is_delta}
use Rattle.faults.specs.declared.cause.Cause.TheVariants as cause
use Rattle.store.specs.declared.answer.Answer.{Answer}
use Rattle.store.specs.declared.answer.Answer.TheVariants as answer
use Rattle.store.specs.Outcome.{Outcome, done, need}
use Rattle.store.specs.World.{World, with_book, with_tokens}
use Rattle.tokens.specs.declared.bank.TokenFault.TheVariants as token
use Rattle.tokens.specs.Meaning.{moved}

-- the vault's own balance
abbrev pub vault_balance : World → ℕ → ℕ
vault_balance w c = w.tokens.balance c 0

-- the currency is marked, and the balance has not fallen since
abbrev pub is_marked : Option Mark → ℕ → ℕ → Bool
is_marked None c balance = false
is_marked (Some m) c balance = m.currency == c && nat_le m.balance balance

-- what came in since the mark
abbrev pub gained : Option Mark → ℕ → ℕ
gained None balance = 0
gained (Some m) balance = balance - m.balance

abbrev pub sync : World → ℕ → Outcome Answer
sync w c =
    let b = w.book in
    need (is_currency w.tokens.count c) cause.Currency
    (need (has_step b.steps) cause.Steps
    (done (answer.Amount (vault_balance w c)) (with_book w (with_steps (with_mark b (Some (record { currency = c; balance = vault_balance w c }))) (b.steps + 1)))))

-- what came in since the mark is credited
abbrev pub settle : World → ℕ → ℕ → Outcome Answer
settle w who c =
    let b = w.book in
    let credit = gained b.mark (vault_balance w c) in
    need (is_account who) cause.Account
    (need (is_currency w.tokens.count c) cause.Currency
    (need (has_step b.steps) cause.Steps
    (need (is_marked b.mark c (vault_balance w c)) cause.Mark
    (need (in_range (delta b who c +ℤ pos credit)) cause.Full
    (done (answer.Amount credit) (with_book w (with_steps (with_mark (with_delta b who c (delta b who c +ℤ pos credit)) None) (b.steps + 1))))))))

abbrev pub take : World → ℕ → ℕ → ℕ → ℕ → Outcome Answer
take w who c to a =
    let b = w.book in
    need (is_account who) cause.Account
    (need (is_account to) cause.Account
    (need (is_currency w.tokens.count c) cause.Currency
    (need (is_amount a) cause.Amount
    (need (has_step b.steps) cause.Steps
    (need (nat_le a (vault_balance w c)) (cause.Token token.Short)
    (need (in_range (delta b who c -ℤ pos a)) cause.Full
    (done (answer.Amount (w.tokens.arrives c a)) (with_book (with_tokens w (moved w.tokens c 0 to a)) (with_steps (with_delta b who c (delta b who c -ℤ pos a)) (b.steps + 1))))))))))

-- a step is counted and limited in a session only
abbrev pub pay : Bool → World → ℕ → ℕ → ℕ → ℕ → Outcome Answer
pay session w who c to a =
    let b = w.book in
    need (is_account who) cause.Account
    (need (is_account_or_vault to) cause.Account
    (need (is_currency w.tokens.count c) cause.Currency
    (need (is_amount a) cause.Amount
    (need (are_apart who to) cause.SameAccount
    (need (not session || has_step b.steps) cause.Steps
    (need (nat_le a (w.tokens.balance c who)) (cause.Token token.Short)
    (done (answer.Amount (w.tokens.arrives c a)) (with_book (with_tokens w (moved w.tokens c who to a)) (with_steps b (steps_after session b.steps))))))))))

abbrev pub clear : World → ℕ → ℕ → ℕ → Outcome Answer
clear w who c a =
    let b = w.book in
    need (is_account who) cause.Account
    (need (is_currency w.tokens.count c) cause.Currency
    (need (is_amount a) cause.Amount
    (need (has_step b.steps) cause.Steps
    (need (is_delta (delta b who c) a) cause.OtherDelta
    (done answer.Done (with_book w (with_steps (with_delta b who c (pos 0)) (b.steps + 1))))))))
