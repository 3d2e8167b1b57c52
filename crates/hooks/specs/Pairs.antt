-- Two lawful banks of hooks side by side are a lawful bank. Assumes nothing.
use Rattle.std.specs.Prelude.{◌-◌}
use Rattle.std.proofs.Common.{arith}
use Rattle.std.proofs.lemmas.Bool.Decides.{nat_tests}
use Rattle.hooks.specs.Beside.{beside}
use Rattle.hooks.specs.Laws.{Lawful}
use Rattle.hooks.specs.Meaning.{Hooks}

pub beside_lawful : (a b : Hooks) → Lawful a → Lawful b → Lawful (beside a b)
beside_lawful a b p q =
    record {
      few = grind (arith, nat_tests);
      bounded = λ h n l. let f = p.bounded h n in let s = q.bounded (h - a.count) n in grind (arith, nat_tests);
      present = λ h k. let f = p.present h in let s = q.present (h - a.count) in grind (arith, nat_tests);
      paid = λ h k. let f = p.paid h in let s = q.paid (h - a.count) in grind (arith, nat_tests);
      asked = λ h n i o k. let f = p.asked h n i o in let s = q.asked (h - a.count) n i o in grind (arith, nat_tests);
      stepped = λ h n i o t k l v. let f = p.stepped h n i o t in let s = q.stepped (h - a.count) n i o t in grind (arith, nat_tests);
    }
