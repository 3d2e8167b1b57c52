-- Rows of cells, and functions: what stands at a place, and another value there. Assumes nothing.
use Rattle.std.specs.Prelude.{List, [], ℕ, cond, ◌==◌, set, get_or}

-- f with another value at one place
abbrev pub at : (ℕ → ℕ) → ℕ → ℕ → ℕ → ℕ
at f i v k = cond (k == i) v (f k)

-- what stands in row i at place j, or d where there is no such place
abbrev pub at2 : {A : Type 0} → List (List A) → ℕ → ℕ → A → A
at2 rows i j d = get_or (get_or rows i []) j d

abbrev pub put2 : {A : Type 0} → List (List A) → ℕ → ℕ → A → List (List A)
put2 rows i j v = set rows i (set (get_or rows i []) j v)
