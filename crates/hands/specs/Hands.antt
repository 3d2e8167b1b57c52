-- What a right given comes to, on what holds. Assumes nothing.
use Rattle.std.specs.Prelude.{ℕ, ◌==◌}
use Rattle.book.specs.Cells.{with_operator}
use Rattle.checks.specs.Tests.{is_account, is_flag}
use Rattle.faults.specs.declared.cause.Cause.TheVariants as cause
use Rattle.store.specs.declared.answer.Answer.{Answer}
use Rattle.store.specs.declared.answer.Answer.TheVariants as answer
use Rattle.store.specs.Outcome.{Outcome, done, need}
use Rattle.store.specs.World.{World, with_book}

abbrev pub operator : World → ℕ → ℕ → ℕ → Outcome Answer
operator w owner spender flag =
    need (is_account owner) cause.Account
    (need (is_account spender) cause.Account
    (need (is_flag flag) cause.Choice
    (done answer.Done (with_book w (with_operator w.book owner spender (flag == 1))))))
