-- A history: calls in order, what each one answered, and what held after it. Assumes nothing.
use Rattle.std.specs.Prelude.{List, [], ◌∷◌, Result}
use Rattle.faults.specs.declared.cause.VaultFault.{VaultFault}
use Rattle.store.specs.declared.answer.Answer.{Answer}
use Rattle.store.specs.World.{World}
use Rattle.vault.specs.declared.call.Call.{Call}
use Rattle.vault.specs.declared.call.Call.TheVariants as call
use Rattle.vault.specs.State.{State}
use Rattle.vault.specs.Turns.{Turn, turn}

pub record Event : Type 0 where
  pub call : Call
  pub said : Result Answer VaultFault
  pub after : World

abbrev pub event : Call → Turn → Event
event c t = record { call = c; said = t.answer; after = t.left.now }

-- the calls made one after the other, each answered by the rules
abbrev pub history : State → List Call → List Event
history s [] = []
history s (c ∷ cs) = event c (turn s c) ∷ history (turn s c).left cs

-- what the calls leave
abbrev pub after_all : State → List Call → State
after_all s [] = s
after_all s (c ∷ cs) = after_all (turn s c).left cs

-- every frame dropped, and the session abandoned
abbrev pub winding : List Call
winding = call.Drop ∷ call.Drop ∷ call.Drop ∷ call.Drop ∷ call.Abandon ∷ []

abbrev pub given_up : State → State
given_up s = after_all s winding
