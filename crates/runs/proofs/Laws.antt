-- The law holds at every moment of every history of a new vault. Assumes nothing.
use Rattle.std.proofs.Common.{◌≡◌, ◌≤◌, List, [], ◌∷◌, sym, refl, ◌∙◌, subst, arith}
use Rattle.std.specs.List.{AllByRecursion}
use Rattle.std.proofs.lemmas.Int.{ints}
use Rattle.actions.proofs.Balances.{new_shaped}
use Rattle.hooks.specs.Meaning.{Hooks}
use Rattle.store.specs.World.{World}
use Rattle.tokens.specs.Meaning.{Tokens}
use Rattle.totals.proofs.Columns.{new_pools, new_claims, new_deltas, new_delta}
use Rattle.vault.specs.declared.call.Call.{Call}
use Rattle.vault.specs.Turns.{turn, new_state}
use Rattle.runs.specs.History.{event, history}
use Rattle.runs.specs.Law.{Told, told, told_new, NoPoorer, Holds, Law}
use Rattle.runs.proofs.Steps.{state_of, Rested, Good, good_moment, step}

module _ (start : World) where
  -- the pools are as they were at every locked moment
  no_poorer : (w : World) (locked : List World) → w.book.pools ≡ start.book.pools → AllByRecursion (λ v. v.book.pools ≡ start.book.pools) locked → AllByRecursion (NoPoorer w) locked
  no_poorer w [] e all = tt
  no_poorer w (v ∷ vs) e all = (e ∙ sym all.0, no_poorer w vs e all.1)

  holds : (t : Told) → Good start t → Holds start t
  holds t g = record { even = g.sound.even; at_rest = λ none. subst (Rested t.now) none g.rests; no_poorer = λ _. no_poorer t.now t.locked g.sound.same_pools g.locked }

  from_here : start.tokens.count ≤ 8 → (t : Told) → Good start t → (calls : List Call) → Law start t (history (state_of t) calls)
  from_here few t g [] = holds t g
  from_here few t g (c ∷ calls) =
      let s = step start t.now t.stands t.locked few t.begun g c in
      let next = told t (event c (turn (state_of t) c)) in
      (holds t g, s.restores, subst (λ left. Law start next (history left calls)) (sym s.left) (from_here few next s.good calls))

pub law : (tokens : Tokens) (hooks : Hooks) → tokens.count ≤ 8 → (calls : List Call) → Law (new_state tokens hooks).now (told_new (new_state tokens hooks).now) (history (new_state tokens hooks) calls)
law tokens hooks few calls =
    let start = (new_state tokens hooks).now in
    from_here start few (told_new start)
    (good_moment start start [] [] []
    (record { shaped = new_shaped; same_count = refl; same_pools = refl; even = λ c. omega (arith, ints, new_pools c, new_claims c, new_deltas c) })
    tt
    (record { settled = new_delta; unmarked = refl; no_steps = refl })
    tt)
    calls
