-- What calls print. Assumes nothing.
use Rattle.std.specs.Prelude.{ℕ, List}
use Rattle.actions.specs.Texts.{action_text}
use Rattle.vault.specs.declared.call.Call.{Call}
use Rattle.vault.specs.declared.call.Call.TheVariants as call
use lib.Chars.{codes}

abbrev pub call_text : Call → List ℕ
call_text call.Open = codes "open"
call_text call.Close = codes "close"
call_text call.Abandon = codes "abandon"
call_text call.Frame = codes "frame"
call_text call.Keep = codes "keep"
call_text call.Drop = codes "drop"
call_text (call.Act a) = action_text a
