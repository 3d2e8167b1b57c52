-- What a curve answers leaves room on the in side. Assumes nothing.
use Rattle.std.proofs.Common.{◌≡◌, ℕ, ◌+◌, ◌^◌, ◌<◌, Some, None, Option, Ok, arith}
use Rattle.book.specs.declared.records.Pool.{Pool}
use Rattle.book.specs.Pools.{in_side}
use Rattle.curves.specs.Answers.{answered}
use Rattle.curves.specs.Meaning.{Curves, Lawful}

some : (o : Option ℕ) (n : ℕ) → answered o ≡ Ok n → o ≡ Some n
some None n e = cc
some (Some m) n e = cc

module _ (k : Curves) (laws : Lawful k) (l : Pool) (direction a b : ℕ) where
  pub room_sold : answered (k.buy l.terms.curve direction l.x l.y a) ≡ Ok b → in_side direction l + a < 2 ^ 32
  room_sold e = let room = (laws.bought l.terms.curve direction l.x l.y a b (some _ b e)).room in omega (arith, room)

  pub room_bought : answered (k.price l.terms.curve direction l.x l.y b) ≡ Ok a → in_side direction l + a < 2 ^ 32
  room_bought e = let room = (laws.priced l.terms.curve direction l.x l.y a b (some _ a e)).room in omega (arith, room)
