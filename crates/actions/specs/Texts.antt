-- What actions print: their name, and their numbers in the order of the rulebook. Assumes nothing.
use Rattle.std.specs.Prelude.{ℕ, List, ◌++◌}
use Rattle.std.specs.Fmt.{decimal}
use Rattle.actions.specs.declared.action.Action.{Action}
use Rattle.actions.specs.declared.action.Action.TheVariants as action
use lib.Chars.{codes}

-- one more number
abbrev pub then : ℕ → List ℕ → List ℕ
then n rest = codes " " ++ (decimal n ++ rest)

abbrev pub last : ℕ → List ℕ
last n = codes " " ++ decimal n

abbrev pub action_text : Action → List ℕ
action_text (action.Sync c) = codes "sync" ++ last c
action_text (action.Settle who c) = codes "settle" ++ then who (last c)
action_text (action.Take who c to a) = codes "take" ++ then who (then c (then to (last a)))
action_text (action.Pay who c to a) = codes "pay" ++ then who (then c (then to (last a)))
action_text (action.Clear who c a) = codes "clear" ++ then who (then c (last a))
action_text (action.Mint who to c a) = codes "mint" ++ then who (then to (then c (last a)))
action_text (action.Burn who from c a) = codes "burn" ++ then who (then from (then c (last a)))
action_text (action.Hand caller from to c a) = codes "hand" ++ then caller (then from (then to (then c (last a))))
action_text (action.Allow owner spender c a) = codes "allow" ++ then owner (then spender (then c (last a)))
action_text (action.Operator owner spender flag) = codes "operator" ++ then owner (then spender (last flag))
