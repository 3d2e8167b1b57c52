-- The step count of what a mark restores is the one told from the journal. Assumes nothing.
use Rattle.std.proofs.Common.{◌≡◌, ℕ, List, [], length, drop, refl, ap, arith, drop_of_length-le}
use Rattle.book.specs.declared.cell.Cell.TheVariants as cell
use Rattle.hooks.specs.Meaning.{Hooks}
use Rattle.journal.proofs.Rewinds.{rewound_part}
use Rattle.journal.specs.Rewound.{rewound}
use Rattle.store.specs.declared.entry.Entry.{Entry}
use Rattle.store.specs.declared.entry.Entry.TheVariants as entry
use Rattle.store.specs.declared.state.Store.{Store}
use Rattle.store.specs.Room.{steps_back, steps_at}
use Rattle.store.specs.Saved.{world, recorded, saved}
use Rattle.store.specs.World.{World, undone}
use Rattle.tokens.specs.Meaning.{Tokens}

one_back : (w : World) (e : Entry) → (undone w e).book.steps ≡ steps_back w.book.steps e
one_back w (entry.Cell (cell.Pool p to)) = refl
one_back w (entry.Cell (cell.Share p who to)) = refl
one_back w (entry.Cell (cell.Claim who c to)) = refl
one_back w (entry.Cell (cell.Allowance owner spender c to)) = refl
one_back w (entry.Cell (cell.Operator owner spender to)) = refl
one_back w (entry.Cell (cell.Delta who c to)) = refl
one_back w (entry.Cell (cell.Mark to)) = refl
one_back w (entry.Cell (cell.Steps to)) = refl
one_back w (entry.Move t) = refl
one_back w (entry.Number h n) = refl

pub saved_steps : {T H : Type 0} (tokens : T → Tokens) (hooks : H → Hooks) (s : Store T H) (n : ℕ) → (saved tokens hooks s n).book.steps ≡ steps_at s n
saved_steps tokens hooks s n = rewound_part undone steps_back (λ w. w.book.steps) one_back (world tokens hooks s.held) (drop n s.log.items)

-- nothing is undone after the last entry
none_after : {E : Type 0} (log : List E) → drop (length log) log ≡ []
none_after log = drop_of_length-le log (omega arith)

pub steps_now : {T H : Type 0} (s : Store T H) → steps_at s (recorded s) ≡ s.held.book.steps
steps_now s = ap (rewound steps_back s.held.book.steps) (none_after s.log.items)
