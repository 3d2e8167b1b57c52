-- An exchange does not lower the measure per share. Assumes nothing.
use Rattle.std.proofs.Common.{◌≡◌, ℕ, ◌+◌, ◌-◌, ◌≤◌, Bool, true, false, cond, not, Some, None, Option, Ok, mul-le-mul, arith, eqb}
use Rattle.amounts.specs.Checks.{need, raised, with_ok}
use Rattle.book.specs.declared.records.Pool.{Pool}
use Rattle.book.specs.Pools.{exchanged}
use Rattle.curves.specs.Answers.{answered}
use Rattle.curves.specs.Meaning.{Curves, Lawful}
use Rattle.faults.specs.declared.cause.Cause.TheVariants as cause
use Rattle.faults.specs.Reports.{by_curve}
use Rattle.pools.specs.Measure.{NoPoorer}
use Rattle.pools.proofs.Measures.{passed}
use Rattle.trades.specs.Trades.{output_for, input_for}

bought : (o : Option ℕ) (b : ℕ) → with_ok (raised by_curve (answered o)) (λ n. need (not (eqb n 0)) cause.Nothing (Ok n)) ≡ Ok b → o ≡ Some b
bought None b h = cc
bought (Some n) b h = let same = (passed (not (eqb n 0)) cause.Nothing (Ok n) b h).1 in cc

priced : (o : Option ℕ) (a : ℕ) → raised by_curve (answered o) ≡ Ok a → o ≡ Some a
priced None a h = cc
priced (Some n) a h = cc

module _ (k : Curves) (laws : Lawful k) (l : Pool) (direction a b : ℕ) where
  kept : (zero : Bool) → k.measure l.terms.curve l.x l.y ≤ cond zero (k.measure l.terms.curve (l.x + a) (l.y - b)) (k.measure l.terms.curve (l.x - b) (l.y + a)) → NoPoorer k l (cond zero (record l { x = l.x + a; y = l.y - b }) (record l { x = l.x - b; y = l.y + a }))
  kept true h = mul-le-mul (omega arith) h
  kept false h = mul-le-mul (omega arith) h

  pub sold_no_poorer : output_for k l direction a ≡ Ok b → NoPoorer k l (exchanged l direction a b)
  sold_no_poorer h = kept (eqb direction 0) (laws.bought l.terms.curve direction l.x l.y a b (bought _ b (passed _ cause.Shares _ b h).1)).kept

  pub bought_no_poorer : input_for k l direction b ≡ Ok a → NoPoorer k l (exchanged l direction a b)
  bought_no_poorer h = kept (eqb direction 0) (laws.priced l.terms.curve direction l.x l.y a b (priced _ a (passed _ cause.Shares _ a h).1)).kept
