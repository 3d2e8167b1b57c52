-- What holds of every bank of hooks. Assumes nothing.
use Rattle.std.specs.Prelude.{◌≡◌, ℕ, ◌-◌, ◌<◌, ◌≤◌, true}
use Rattle.amounts.specs.Rounding.{most}
use Rattle.hooks.specs.Meaning.{Hooks, Verdict, denied, toll}

-- a reason is 1 to 255; a toll is below what goes out, and 0 where nothing does
abbrev pub Fit : Verdict → ℕ → Type 0
Fit (denied reason) o = (1 ≤ reason) × (reason ≤ 255)
Fit (toll t) o = t ≤ o - 1

pub record Lawful (m : Hooks) : Type 0 where
  pub few : m.count ≤ 4
  -- legal numbers are amounts, and a hook's own number is legal
  pub bounded : (h n : ℕ) → m.legal h n ≡ true → n ≤ most
  pub present : (h : ℕ) → h < m.count → m.legal h (m.number h) ≡ true
  pub paid : (h : ℕ) → h < m.count → (1 ≤ m.payee h) × (m.payee h ≤ 15)
  pub asked : (h n i o : ℕ) → h < m.count → Fit (m.ask h n i o) o
  -- a step that is not denied goes from a legal number to a legal number
  pub stepped : (h n i o t : ℕ) → h < m.count → m.legal h n ≡ true → m.ask h n i o ≡ toll t → m.legal h (m.step h n i o) ≡ true
