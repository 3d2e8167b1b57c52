-- How many slips a desk holds, and that they are those of the vault's phase. Assumes nothing.
use Rattle.std.specs.Prelude.{ℕ, suc, Bool, true, false, Some, None, Option, ◌==◌}
use Rattle.vault.specs.declared.phase.Phase.{Phase}
use Rattle.vault.specs.declared.phase.Phase.TheVariants as phase
use Rattle.runs.specs.declared.slips.Frames.{Frames}
use Rattle.runs.specs.declared.slips.Frames.TheVariants as frames
use Rattle.runs.specs.declared.slips.Slips.{Slips}

abbrev pub count : Frames → ℕ
count frames.None = 0
count (frames.One a) = 1
count (frames.Two a b) = 2
count (frames.Three a b c) = 3
count (frames.Four a b c d) = 4

-- as many slips as the phase has given out
abbrev pub held : Phase → Option Slips → Bool
held phase.Locked None = true
held phase.Locked (Some s) = false
held phase.Open None = false
held phase.Open (Some s) = count s.frames == 0
held (phase.Framed i) None = false
held (phase.Framed i) (Some s) = count s.frames == suc i
