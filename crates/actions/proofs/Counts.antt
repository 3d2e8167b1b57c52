-- An accepted step is counted, and the count does not pass 64. Assumes nothing.
use Rattle.std.proofs.Common.{Bool}
use Rattle.actions.specs.declared.action.Action.{Action}
use Rattle.actions.specs.Acts.{act}
use Rattle.actions.specs.Counted.{is_step, Counted}
use Rattle.actions.proofs.Walks.{walked}
use Rattle.store.specs.World.{World}

pub counted : (session : Bool) (w : World) (a : Action) → Counted (is_step session a) w.book.steps (act session w a)
counted session w a = (walked session w a).0
