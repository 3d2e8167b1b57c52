-- What is refused within is refused. Assumes nothing.
use Rattle.std.proofs.Common.{ℕ, Ok, Err, Result}
use Rattle.amounts.specs.Checks.{with_ok}
use Rattle.faults.specs.declared.cause.Cause.{Cause}
use Rattle.faults.specs.Reports.{placed}
use Rattle.hooks.specs.Meaning.{Hooks}
use Rattle.pools.specs.Pools.{in_pool}
use Rattle.store.specs.declared.state.Store.{Store}
use Rattle.store.specs.Outcome.{Meets}
use Rattle.store.specs.World.{World}
use Rattle.tokens.specs.Meaning.{Tokens}
use Rattle.trades.specs.Trades.{Does}

pub refused_within : {T H A B : Type 0} (tokens : T → Tokens) (hooks : H → Hooks) (before after : Store T H) (x : Result (A × World) Cause) (rest : A × World → Result (B × World) Cause) (c : Cause) → Does tokens hooks x before after (Err c) → Does tokens hooks (with_ok x rest) before after (Err c)
refused_within tokens hooks before after (Err d) rest c does = (cc, does.1)
refused_within tokens hooks before after (Ok y) rest c does = cc

-- and its pool is told
pub refused_in_pool : {T H A : Type 0} (tokens : T → Tokens) (hooks : H → Hooks) (before after : Store T H) (p : ℕ) (x : Result (A × World) Cause) (c : Cause) → Does tokens hooks x before after (Err c) → Meets tokens hooks (in_pool p x) before after (Err (placed c p))
refused_in_pool tokens hooks before after p (Err d) c does = (cc, does.1)
refused_in_pool tokens hooks before after p (Ok y) c does = cc
