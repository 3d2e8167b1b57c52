-- Tests made one after the other, each with its own refusal. Assumes nothing.
use Rattle.std.specs.Prelude.{Bool, true, false, Ok, Err, Result}

-- the rest, where the test passes
abbrev pub need : {X E : Type 0} → Bool → E → Result X E → Result X E
need true fault rest = rest
need false fault rest = Err fault

-- the rest, where the first is no refusal
abbrev pub then : {X Y E : Type 0} → Result X E → Result Y E → Result Y E
then (Ok answer) rest = rest
then (Err fault) rest = Err fault

-- a result whose fault rises
abbrev pub raised : {X E F : Type 0} → (E → F) → Result X E → Result X F
raised by (Ok answer) = Ok answer
raised by (Err fault) = Err (by fault)

-- the rest with the answer of the first, where that is no refusal
abbrev pub with_ok : {X Y E : Type 0} → Result X E → (X → Result Y E) → Result Y E
with_ok (Ok answer) rest = rest answer
with_ok (Err fault) rest = Err fault
