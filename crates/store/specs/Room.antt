-- The room that calls take in the journal, and the step count that a mark restores, told from the journal alone. Assumes nothing.
use Rattle.std.specs.Prelude.{ℕ, ◌+◌, ◌≤◌, drop}
use Rattle.journal.specs.Rewound.{rewound}
use Rattle.book.specs.declared.cell.Cell.{Cell}
use Rattle.book.specs.declared.cell.Cell.TheVariants as cell
use Rattle.store.specs.declared.entry.Entry.{Entry}
use Rattle.store.specs.declared.entry.Entry.TheVariants as entry
use Rattle.store.specs.declared.state.Store.{Store}
use Rattle.store.specs.Saved.{recorded}

-- how many entries the journal has before a call and after it: none is taken away, and at most six are written
abbrev pub Grows : ℕ → ℕ → Type 0
Grows before after = (before ≤ after) × (after ≤ before + 6)

-- six places are free, and no call takes more. Each call asks for it, and no type keeps it: between calls a store may be full, and only
-- the vault can tell from its step count that it is not
abbrev pub HasRoom : {T H : Type 0} → Store T H → Type 0
HasRoom s = recorded s ≤ 384

abbrev pub cell_steps : ℕ → Cell → ℕ
cell_steps n (cell.Pool p to) = n
cell_steps n (cell.Share p who to) = n
cell_steps n (cell.Claim who c to) = n
cell_steps n (cell.Allowance owner spender c to) = n
cell_steps n (cell.Operator owner spender to) = n
cell_steps n (cell.Delta who c to) = n
cell_steps n (cell.Mark to) = n
cell_steps n (cell.Steps to) = to

-- the step count once an entry is undone
abbrev pub steps_back : ℕ → Entry → ℕ
steps_back n (entry.Cell c) = cell_steps n c
steps_back n (entry.Move t) = n
steps_back n (entry.Number h m) = n

-- the step count when the journal had n entries
abbrev pub steps_at : {T H : Type 0} → Store T H → ℕ → ℕ
steps_at s n = rewound steps_back s.held.book.steps (drop n s.log.items)
