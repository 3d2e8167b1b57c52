-- Undoing a row of entries from the last to the first. Assumes nothing.
use Rattle.std.specs.Prelude.{List, [], ◌∷◌}

module _ {W E : Type 0} (undone : W → E → W) where
  abbrev pub rewound : W → List E → W
  rewound w [] = w
  rewound w (e ∷ es) = undone (rewound w es) e
