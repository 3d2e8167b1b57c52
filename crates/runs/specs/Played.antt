-- The lines of a run with their replies. Assumes nothing.
use Rattle.std.specs.Prelude.{List, [], ◌∷◌, map}
use Rattle.vault.specs.declared.call.Call.{Call}
use Rattle.vault.specs.State.{State}
use Rattle.vault.specs.Turns.{turn}
use Rattle.runs.specs.declared.line.Line.{Line}

abbrev pub calls_of : List Line → List Call
calls_of lines = map (λ l. l.call) lines

-- each line with its call, and the answer that the rules give
abbrev pub played : State → List Line → List Line
played s [] = []
played s (l ∷ ls) = record { call = l.call; reply = (turn s l.call).answer } ∷ played (turn s l.call).left ls
