-- What the vault holds, with what its banks mean, and what undoing an entry gives. Assumes nothing.
use Rattle.std.specs.Prelude.{ℕ, List, None, Ok, Err, fold, Result}
use Rattle.book.specs.declared.cell.Cell.{Cell}
use Rattle.book.specs.declared.records.Book.{Book}
use Rattle.book.specs.Cells.{written, with_mark, with_steps}
use Rattle.hooks.specs.Meaning.{Hooks, after_set}
use Rattle.tokens.specs.Meaning.{Tokens}
use Rattle.tokens.specs.Moves.{after_unmove}
use Rattle.store.specs.declared.entry.Entry.{Entry}
use Rattle.store.specs.declared.entry.Entry.TheVariants as entry

pub record World : Type 0 where
  pub book : Book
  pub tokens : Tokens
  pub hooks : Hooks

abbrev pub undone : World → Entry → World
undone w (entry.Cell c) = record w { book = written w.book c }
undone w (entry.Move t) = record w { tokens = after_unmove w.tokens t.currency t.from t.to t.amount }
undone w (entry.Number h n) = record w { hooks = after_set w.hooks h n }

abbrev pub with_book : World → Book → World
with_book w b = record w { book = b }

abbrev pub with_tokens : World → Tokens → World
with_tokens w t = record w { tokens = t }

abbrev pub with_hooks : World → Hooks → World
with_hooks w h = record w { hooks = h }

-- the cells written one after the other
abbrev pub all_written : Book → List Cell → Book
all_written b cells = fold written b cells

-- after a session: no mark, and no step
abbrev pub finished : World → World
finished w = with_book w (with_steps (with_mark w.book None) 0)

-- what is accepted is one entry
abbrev pub entries : {X E : Type 0} → Result X E → ℕ
entries (Ok n) = 1
entries (Err e) = 0
