-- The measure of a pool per share. Assumes nothing.
use Rattle.std.specs.Prelude.{◌*◌, ◌^◌, ◌≤◌}
use Rattle.book.specs.declared.records.Pool.{Pool}
use Rattle.curves.specs.Meaning.{Curves}

-- K' × S ^ d ≥ K × S' ^ d, by the pool's own curve
abbrev pub NoPoorer : Curves → Pool → Pool → Type 0
NoPoorer k earlier later =
    let c = earlier.terms.curve in
    later.total ^ k.degree c * k.measure c earlier.x earlier.y ≤ earlier.total ^ k.degree c * k.measure c later.x later.y
