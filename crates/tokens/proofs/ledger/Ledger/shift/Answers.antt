use Rattle.std.proofs.Common.{rules, arith}
use Rattle.std.proofs.lemmas.List.{get_or-set_other}
use Rattle.tokens.proofs.Writes.{room, still_shaped, still_bounded, written}
use Rattle.tokens.proofs.ledger.Ledger.shift.Goals as goal

pub overflow_add-supply : goal.overflow_add-supply
overflow_add-supply c = let r = room c.args.self.now _ _ _ _ _ _ c.requires in grind (arith, get_or-set_other)

pub overflow_cast-supply : goal.overflow_cast-supply
overflow_cast-supply c = let r = room c.args.self.now _ _ _ _ _ _ c.requires in search rules

pub invariant_of-self-clause-shaped : goal.invariant_of-self-clause-shaped
invariant_of-self-clause-shaped c = still_shaped c.args.self.now _ _ _ _ _ _ c.requires

pub invariant_of-self-clause-bounded : goal.invariant_of-self-clause-bounded
invariant_of-self-clause-bounded c = still_bounded c.args.self.now _ _ _ _ _ _ c.requires

pub returns : goal.returns
returns c = let s = c.args.self.now in written s _ _ _ _ _ _ c.requires s.rate.parts
