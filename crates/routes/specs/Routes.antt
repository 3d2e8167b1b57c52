-- What a route comes to, on what holds. Assumes nothing.
use Rattle.std.specs.Prelude.{◌≡◌, ℕ, ◌+◌, ◌≤◌, Bool, cond, not, List, [], ◌∷◌, Some, None, Option, Ok, Err, Result, length, get_or, ◌==◌, nat_le, ◌*◌, ◌&&◌, is_none}
use Rattle.std.specs.List.{position}
use Rattle.amounts.specs.Checks.{need, raised, with_ok}
use Rattle.book.specs.declared.records.Book.{Book}
use Rattle.book.specs.declared.records.Pool.{Pool}
use Rattle.book.specs.declared.records.Terms.{Terms}
use Rattle.checks.specs.Tests.{is_account, is_currency, is_amount, is_amount_or_none}
use Rattle.curves.specs.Meaning.{Curves}
use Rattle.faults.specs.declared.cause.Cause.{Cause}
use Rattle.faults.specs.declared.cause.Cause.TheVariants as cause
use Rattle.faults.specs.Reports.{unplaced, placed}
use Rattle.routes.specs.declared.fault.RouteFault.{RouteFault}
use Rattle.routes.specs.declared.fault.RouteFault.TheVariants as route
use Rattle.routes.specs.declared.hop.Carried.{Carried}
use Rattle.routes.specs.Faults.{whole}
use Rattle.hooks.specs.Meaning.{Hooks}
use Rattle.store.specs.declared.state.Store.{Store}
use Rattle.store.specs.Outcome.{Stepped}
use Rattle.store.specs.Saved.{world, recorded, Kept, Changed}
use Rattle.store.specs.World.{World}
use Rattle.tokens.specs.Meaning.{Tokens}
use Rattle.trades.specs.Trades.{sold, comes_out}

-- what a route carries to a hop, and what holds there
pub record Leg : Type 0 where
  pub carried : Carried
  pub world : World

-- the pool of a hop, and the carried currency's direction in it
abbrev pub at_pool : {A : Type 0} → ℕ → Option Pool → (Pool → Result A RouteFault) → Result A RouteFault
at_pool i None rest = Err (route.At i (unplaced cause.Pool))
at_pool i (Some l) rest = rest l

abbrev pub direction_of : ℕ → Terms → Option ℕ
direction_of c t = cond (t.c0.number == c) (Some 0) (cond (t.c1.number == c) (Some 1) None)

abbrev pub directed : {A : Type 0} → ℕ → ℕ → Option ℕ → (ℕ → Result A RouteFault) → Result A RouteFault
directed i p None rest = Err (route.Carried i p)
directed i p (Some d) rest = rest d

-- a hop's fault is told with its place
abbrev pub at_hop : ℕ → ℕ → Cause → RouteFault
at_hop i p c = route.At i (placed c p)

-- the exchange of a hop, in its direction
abbrev pub exchanged : Curves → World → ℕ → ℕ → ℕ → Pool → ℕ → ℕ → Result Leg RouteFault
exchanged k w who i p l d a =
    with_ok (raised (at_hop i p) (sold k w who p l d a)) (λ r.
    Ok (record { carried = record { currency = comes_out d l.terms; amount = r.0.0 }; world = r.1 }))

-- the hop of number i: the exchange of what is carried
abbrev pub hop : Curves → ℕ → ℕ → Leg → ℕ → Result Leg RouteFault
hop k who i s p =
    at_pool i (get_or s.world.book.pools.rows p None) (λ l.
    need (not (l.total == 0)) (at_hop i p cause.Shares)
    (directed i p (direction_of s.carried.currency l.terms) (λ d.
    exchanged k s.world who i p l d s.carried.amount)))

-- the hops from number i on
abbrev pub hops : Curves → ℕ → ℕ → Leg → List ℕ → Result Leg RouteFault
hops k who i s [] = Ok s
hops k who i s (p ∷ ps) = with_ok (hop k who i s p) (λ t. hops k who (i + 1) t ps)

-- the position of the first pool that is not made, counted from 0
abbrev pub unknown : Book → List ℕ → Option ℕ
unknown b pools = position (λ p. is_none (get_or b.pools.rows p None)) pools

abbrev pub all_known : {A : Type 0} → Option ℕ → Result A RouteFault → Result A RouteFault
all_known None rest = rest
all_known (Some i) rest = Err (route.At (i + 1) (unplaced cause.Pool))

-- one hop to four
abbrev pub has_hops : ℕ → Bool
has_hops n = nat_le 1 n && nat_le n 4

-- the final amount, with what holds then
abbrev pub arrived : ℕ → Leg → Result (ℕ × World) RouteFault
arrived least s = need (nat_le least s.carried.amount) route.Least (Ok (s.carried.amount, s.world))

abbrev pub routed : Curves → World → ℕ → ℕ → ℕ → ℕ → List ℕ → Result (ℕ × World) RouteFault
routed k w who c a least pools =
    need (is_account who) (whole cause.Account)
    (need (is_currency w.tokens.count c) (whole cause.Currency)
    (all_known (unknown w.book pools)
    (need (is_amount a) (whole cause.Amount)
    (need (is_amount_or_none least) (whole cause.Amount)
    (need (has_hops (length pools)) (whole cause.Hops)
    (need (nat_le (w.book.steps + length pools) 64) (whole cause.Steps)
    (with_ok (hops k who 1 (record { carried = record { currency = c; amount = a }; world = w }) pools) (arrived least))))))))

module _ {T H : Type 0} (tokens : T → Tokens) (hooks : H → Hooks) where
  -- what is carried on, and what holds then, are those of the leg; a refused hop changes nothing
  abbrev pub Hopped : Result Leg RouteFault → Store T H → Store T H → Result Carried RouteFault → Type 0
  Hopped (Err f) before after r = (r ≡ Err f) × Changed tokens hooks before after 0 (world tokens hooks before.held)
  Hopped (Ok s) before after r = (r ≡ Ok s.carried) × Stepped tokens hooks before after s.world

  -- the answer and what holds then are those of the route of n hops; a refused one leaves what held before it, and its journal
  abbrev pub Routed : ℕ → Result (ℕ × World) RouteFault → Store T H → Store T H → Result ℕ RouteFault → Type 0
  Routed n (Err f) before after r = (r ≡ Err f) × Changed tokens hooks before after 0 (world tokens hooks before.held)
  Routed n (Ok x) before after r = (r ≡ Ok x.0) × (world tokens hooks after.held ≡ x.1) × (recorded before ≤ recorded after) × (recorded after ≤ recorded before + 6 * n) × Kept tokens hooks before after (recorded before)
