-- What exchanges with a pool come to, on what holds. Assumes nothing.
use Rattle.std.specs.Prelude.{◌≡◌, ℕ, ◌+◌, ◌-◌, cond, not, Some, None, Ok, Err, Result, pos, ◌+ℤ◌, ◌-ℤ◌, get_or, ◌==◌}
use Rattle.amounts.specs.Checks.{need as tested, raised, with_ok}
use Rattle.book.specs.declared.records.Pool.{Pool}
use Rattle.book.specs.declared.records.Terms.{Terms}
use Rattle.book.specs.Cells.{with_pool, with_claim, with_delta, with_steps}
use Rattle.book.specs.Pools.{exchanged}
use Rattle.book.specs.Reads.{delta, claim}
use Rattle.checks.specs.Tests.{is_account, is_amount, is_flag, has_step, has_room, in_range}
use Rattle.curves.specs.Answers.{answered}
use Rattle.curves.specs.Meaning.{Curves}
use Rattle.faults.specs.declared.cause.Cause.{Cause}
use Rattle.faults.specs.declared.cause.Cause.TheVariants as cause
use Rattle.faults.specs.Reports.{by_curve, by_hook}
use Rattle.hooks.specs.Meaning.{Hooks, ask_answer, told}
use Rattle.pools.specs.Pools.{known, in_pool}
use Rattle.store.specs.declared.state.Store.{Store}
use Rattle.store.specs.Outcome.{Outcome, need, Stepped}
use Rattle.store.specs.Saved.{world, Changed}
use Rattle.store.specs.World.{World, with_book, with_hooks}
use Rattle.tokens.specs.Meaning.{Tokens}
use Rattle.trades.specs.declared.exchange.Judged.{Judged}

-- the answer is the result's, and so is what holds then; a refusal changes nothing
module _ {T H : Type 0} (tokens : T → Tokens) (hooks : H → Hooks) where
  abbrev pub Does : {A : Type 0} → Result (A × World) Cause → Store T H → Store T H → Result A Cause → Type 0
  Does (Err c) before after r = (r ≡ Err c) × Changed tokens hooks before after 0 (world tokens hooks before.held)
  Does (Ok x) before after r = (r ≡ Ok x.0) × Stepped tokens hooks before after x.1

-- the currencies that go in and out
abbrev pub goes_in : ℕ → Terms → ℕ
goes_in direction t = cond (direction == 0) t.c0.number t.c1.number

abbrev pub comes_out : ℕ → Terms → ℕ
comes_out direction t = cond (direction == 0) t.c1.number t.c0.number

-- who pays a and is credited b less the toll, which is the payee's
abbrev pub judged : World → ℕ → Pool → ℕ → ℕ → ℕ → Result Judged Cause
judged w who l direction a b =
    let i = goes_in direction l.terms in
    let o = comes_out direction l.terms in
    let held = claim w.book (w.hooks.payee l.terms.hook) o in
    with_ok (raised by_hook (ask_answer w.hooks l.terms.hook a b)) (λ toll.
    tested (in_range (delta w.book who i -ℤ pos a)) cause.Full
    (tested (in_range (delta w.book who o +ℤ pos (b - toll))) cause.Full
    (tested (has_room (held + toll)) cause.Full
    (Ok (record { toll = toll; paid = delta w.book who i -ℤ pos a; credited = delta w.book who o +ℤ pos (b - toll); claim = held + toll })))))

-- what holds then: the hook is told, and a step is counted
abbrev pub traded : World → ℕ → ℕ → Pool → ℕ → ℕ → ℕ → Judged → World
traded w who p l direction a b j =
    let i = goes_in direction l.terms in
    let o = comes_out direction l.terms in
    with_book (with_hooks w (told w.hooks l.terms.hook a b))
    (with_steps (with_claim (with_delta (with_delta (with_pool w.book p (Some (exchanged l direction a b))) who i j.paid) who o j.credited) (w.hooks.payee l.terms.hook) o j.claim) (w.book.steps + 1))

-- the toll of an exchange of a for b, with what holds then
abbrev pub exchange : World → ℕ → ℕ → Pool → ℕ → ℕ → ℕ → Result (ℕ × World) Cause
exchange w who p l direction a b = with_ok (judged w who l direction a b) (λ j. Ok (j.toll, traded w who p l direction a b j))

-- what comes out for a, and what goes in for b
abbrev pub output_for : Curves → Pool → ℕ → ℕ → Result ℕ Cause
output_for k l direction a =
    tested (not (l.total == 0)) cause.Shares
    (with_ok (raised by_curve (answered (k.buy l.terms.curve direction l.x l.y a))) (λ b.
    tested (not (b == 0)) cause.Nothing (Ok b)))

abbrev pub input_for : Curves → Pool → ℕ → ℕ → Result ℕ Cause
input_for k l direction b =
    tested (not (l.total == 0)) cause.Shares
    (raised by_curve (answered (k.price l.terms.curve direction l.x l.y b)))

-- what is credited, and the toll
abbrev pub sold : Curves → World → ℕ → ℕ → Pool → ℕ → ℕ → Result ((ℕ × ℕ) × World) Cause
sold k w who p l direction a =
    with_ok (output_for k l direction a) (λ b.
    with_ok (exchange w who p l direction a b) (λ r. Ok ((b - r.0, r.0), r.1)))

-- what is paid, and the toll
abbrev pub bought : Curves → World → ℕ → ℕ → Pool → ℕ → ℕ → Result ((ℕ × ℕ) × World) Cause
bought k w who p l direction b =
    with_ok (input_for k l direction b) (λ a.
    with_ok (exchange w who p l direction a b) (λ r. Ok ((a, r.0), r.1)))

abbrev pub swap : Curves → World → ℕ → ℕ → ℕ → ℕ → Outcome (ℕ × ℕ)
swap k w who p direction a =
    need (is_account who) cause.Account
    (known (get_or w.book.pools.rows p None) (λ l.
    need (is_flag direction) cause.Choice
    (need (is_amount a) cause.Amount
    (need (has_step w.book.steps) cause.Steps
    (in_pool p (sold k w who p l direction a))))))

abbrev pub want : Curves → World → ℕ → ℕ → ℕ → ℕ → Outcome (ℕ × ℕ)
want k w who p direction b =
    need (is_account who) cause.Account
    (known (get_or w.book.pools.rows p None) (λ l.
    need (is_flag direction) cause.Choice
    (need (is_amount b) cause.Amount
    (need (has_step w.book.steps) cause.Steps
    (in_pool p (bought k w who p l direction b))))))
