-- The balance equation of a currency, and what each action adds to its stray. Assumes nothing.
use Rattle.std.specs.Prelude.{◌≡◌, ℕ, ◌<◌, cond, ◌&&◌, List, [], length, ℤ, pos, ◌+ℤ◌, neg_ℤ, ◌==◌, slice_index_or}
use Rattle.actions.specs.declared.action.Action.{Action}
use Rattle.actions.specs.declared.action.Action.TheVariants as action
use Rattle.book.specs.declared.records.Book.{Book}
use Rattle.store.specs.declared.answer.Answer.{Answer}
use Rattle.store.specs.declared.answer.Answer.TheVariants as answer
use Rattle.store.specs.Outcome.{Outcome, refused, done}
use Rattle.store.specs.World.{World}
use Rattle.totals.specs.Totals.{pools_in, claims_in, deltas_in}

-- the vault's balance is pool holdings, claims, signed deltas and the stray together
abbrev pub Equation : World → ℕ → ℤ → Type 0
Equation w c stray = pos (w.tokens.balance c 0) ≡ (pos (pools_in w.book c) +ℤ pos (claims_in w.book c)) +ℤ (deltas_in w.book c +ℤ stray)

-- the number that was answered
abbrev pub amount_of : Answer → ℕ
amount_of answer.Done = 0
amount_of (answer.Amount n) = n

-- what an accepted action adds to the stray of currency c: up by what a payment to account 0 answered and by what was given up, down
-- by what a settlement answered
abbrev pub stray_of : Action → Answer → ℕ → ℤ
stray_of (action.Sync d) said c = pos 0
stray_of (action.Settle who d) said c = cond (d == c) (neg_ℤ (pos (amount_of said))) (pos 0)
stray_of (action.Take who d to a) said c = pos 0
stray_of (action.Pay who d to a) said c = cond (d == c && to == 0) (pos (amount_of said)) (pos 0)
stray_of (action.Clear who d a) said c = cond (d == c) (pos a) (pos 0)
stray_of (action.Mint who to d a) said c = pos 0
stray_of (action.Burn who from d a) said c = pos 0
stray_of (action.Hand caller from to d a) said c = pos 0
stray_of (action.Allow owner spender d a) said c = pos 0
stray_of (action.Operator owner spender flag) said c = pos 0

-- sixteen rows of eight
pub record Sized {A : Type 0} (rows : List (List A)) : Type 0 where
  pub count : length rows ≡ 16
  pub wide : (i : ℕ) → i < 16 → length (slice_index_or rows i []) ≡ 8

-- the rows of claims and of deltas
pub record Shaped (b : Book) : Type 0 where
  pub claims : Sized b.claims
  pub deltas : Sized b.deltas

-- the equation holds in every currency, and what no action of these changes is as it was at the start
pub record Sound (start w : World) (strays : ℕ → ℤ) : Type 0 where
  pub shaped : Shaped w.book
  pub same_count : w.tokens.count ≡ start.tokens.count
  pub same_pools : w.book.pools ≡ start.book.pools
  pub even : (c : ℕ) → Equation w c (strays c)

-- an outcome leaves a sound world, with the action's own stray
pub data Keeps (start : World) (strays : ℕ → ℤ) (a : Action) : Outcome Answer → Type 0 where
  nothing : (f : _) → Keeps start strays a (refused f)
  sound : (said : Answer) (w : World) → Sound start w (λ c. strays c +ℤ stray_of a said c) → Keeps start strays a (done said w)
