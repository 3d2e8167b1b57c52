-- Lines played one by one. Assumes nothing.
use Rattle.std.proofs.Common.{◌≡◌, ℕ, List, ◌++◌, take, drop}
use Rattle.vault.specs.State.{State}
use Rattle.runs.specs.declared.line.Line.{Line}
use Rattle.runs.specs.History.{after_all}
use Rattle.runs.specs.Played.{calls_of, played}

-- the first i lines are played, and the state is s: what is left gives the whole
abbrev pub Passed : State → List Line → State → List Line → ℕ → Type 0
Passed start given s lines i =
    (drop i lines ≡ drop i given)
    × (take i lines ++ played s (drop i given) ≡ played start given)
    × (after_all s (calls_of (drop i given)) ≡ after_all start (calls_of given))
