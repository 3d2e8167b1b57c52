-- What a hop came to, refused or made. Assumes nothing.
use Rattle.std.proofs.Common.{◌≡◌, Ok, Err, Result, ap, sym, arith}
use Rattle.amounts.specs.Checks.{raised, with_ok}
use Rattle.faults.specs.declared.cause.Cause.{Cause}
use Rattle.hooks.specs.Meaning.{Hooks}
use Rattle.routes.specs.declared.fault.RouteFault.{RouteFault}
use Rattle.routes.specs.declared.hop.Carried.{Carried}
use Rattle.routes.specs.Routes.{Leg, Hopped}
use Rattle.store.specs.declared.state.Store.{Store}
use Rattle.store.specs.Room.{Grows}
use Rattle.store.specs.Saved.{world, recorded, Kept}
use Rattle.store.specs.World.{World}
use Rattle.tokens.specs.Meaning.{Tokens}
use Rattle.trades.specs.Trades.{Does}

-- a hop whose exchange is refused is refused
pub refused_at : {T H A : Type 0} (tokens : T → Tokens) (hooks : H → Hooks) (before after : Store T H) (x : Result (A × World) Cause) (by : Cause → RouteFault) (rest : A × World → Result Leg RouteFault) (c : Cause) → Does tokens hooks x before after (Err c) → Hopped tokens hooks (with_ok (raised by x) rest) before after (Err (by c))
refused_at tokens hooks before after (Err d) by rest c does = (cc, does.1)
refused_at tokens hooks before after (Ok y) by rest c does = cc

module _ {T H : Type 0} (tokens : T → Tokens) (hooks : H → Hooks) (before after : Store T H) where
  -- what a hop that was made came to
  pub made : (x : Result Leg RouteFault) (c : Carried) → Hopped tokens hooks x before after (Ok c) → (x ≡ Ok (record { carried = c; world = world tokens hooks after.held })) × Grows (recorded before) (recorded after) × Kept tokens hooks before after (recorded before)
  made (Ok s) c h = let same : c ≡ s.carried = cc in (ap Ok (λ i. record { carried = sym same i; world = sym h.1.now i }), h.1.longer, h.1.kept)
  made (Err f) c h = cc

  pub not_made : (x : Result Leg RouteFault) (f : RouteFault) → Hopped tokens hooks x before after (Err f) → (x ≡ Err f) × (recorded after ≡ recorded before) × Kept tokens hooks before after (recorded before)
  not_made (Ok s) f h = cc
  not_made (Err g) f h = (cc, omega (arith, h.1.longer), h.1.kept)
