-- What a store means, and what it restores. Assumes nothing.
use Rattle.std.specs.Prelude.{◌≡◌, ℕ, ◌+◌, ◌≤◌, length, drop}
use Rattle.journal.specs.Rewound.{rewound}
use Rattle.hooks.specs.Meaning.{Hooks}
use Rattle.tokens.specs.Meaning.{Tokens}
use Rattle.store.specs.declared.state.Held.{Held}
use Rattle.store.specs.declared.state.Store.{Store}
use Rattle.store.specs.World.{World, undone}

-- how many entries the journal has
abbrev pub recorded : {T H : Type 0} → Store T H → ℕ
recorded s = length s.log.items

module _ {T H : Type 0} (tokens : T → Tokens) (hooks : H → Hooks) where
  abbrev pub world : Held T H → World
  world s = record { book = s.book; tokens = tokens s.tokens; hooks = hooks s.hooks }

  -- what held when the journal had n entries
  abbrev pub saved : Store T H → ℕ → World
  saved s n = rewound undone (world s.held) (drop n s.log.items)

  -- marks up to n restore what they did
  abbrev pub Kept : Store T H → Store T H → ℕ → Type 0
  Kept before after n = (k : ℕ) → k ≤ n → saved after k ≡ saved before k

  -- the world is now w, by so many entries more, and earlier marks restore what they did
  pub record Changed (before after : Store T H) (more : ℕ) (w : World) : Type 0 where
    pub now : world after.held ≡ w
    pub longer : recorded after ≡ recorded before + more
    pub kept : (n : ℕ) → n ≤ recorded before → saved after n ≡ saved before n
