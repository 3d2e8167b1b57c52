-- Which pools are made. Assumes nothing.
use Rattle.std.specs.Prelude.{ℕ, ◌+◌, ◌-◌, ◌%◌, Bool, cond, false, ◌&&◌, Some, None, Option, is_none, ◌==◌}
use Rattle.std.specs.List.{list_any, position}
use Rattle.std.proofs.Common.{arith}
use Rattle.std.proofs.Math.Nat.{mod-lt}
use Rattle.book.specs.declared.ids.Currency.{Currency}
use Rattle.book.specs.declared.records.Book.{Book}
use Rattle.book.specs.declared.records.Pool.{Pool}
use Rattle.book.specs.declared.records.Terms.{Terms}

-- the currency of a number below 8
unfoldable pub currency : ℕ → Currency
currency n = record { number = n % 8; within = mod-lt n (omega arith) }

abbrev pub terms : ℕ → ℕ → ℕ → ℕ → Terms
terms c0 c1 curve hook = record { c0 = currency c0; c1 = currency c1; curve = curve; hook = hook }

abbrev pub empty_pool : Terms → Pool
empty_pool t = record { terms = t; x = 0; y = 0; total = 0 }

-- the holding on the in side of a direction
abbrev pub in_side : ℕ → Pool → ℕ
in_side direction l = cond (direction == 0) l.x l.y

abbrev pub exchanged : Pool → ℕ → ℕ → ℕ → Pool
exchanged l direction a b = cond (direction == 0) (record l { x = l.x + a; y = l.y - b }) (record l { x = l.x - b; y = l.y + a })

-- pools are numbered as they are made, so the next one has the first number that none has
abbrev pub free_pool : Book → Option ℕ
free_pool b = position is_none b.pools.rows

abbrev pub same_terms : Terms → Terms → Bool
same_terms t u = t.c0.number == u.c0.number && t.c1.number == u.c1.number && t.curve == u.curve && t.hook == u.hook

abbrev pub made_with : Terms → Option Pool → Bool
made_with t None = false
made_with t (Some p) = same_terms p.terms t

abbrev pub has_pool : Book → Terms → Bool
has_pool b t = list_any (made_with t) b.pools.rows
