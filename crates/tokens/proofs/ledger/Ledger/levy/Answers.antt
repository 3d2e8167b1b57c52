use Rattle.std.proofs.Common.{[], refl, sym, ap, arith, rules}
use Rattle.tokens.specs.Ledgers.{fresh_supply}
use Rattle.tokens.specs.Meaning.{total}
use Rattle.tokens.proofs.Openings.{fit_each, all_new, opens_fresh}
use Rattle.tokens.proofs.ledger.Ledger.levy.Goals as goal

pub invariant_of-result-clause-bounded : goal.invariant_of-result-clause-bounded
invariant_of-result-clause-bounded c =
    let i = c.map.ensures.items in
    let new = all_new c.args.opening c.map.result (search rules) i.long (λ d h. (i.at d [] (fresh_supply []) h).2.met) in
    λ d h. omega (arith, ap (λ t. total t d) (opens_fresh c.args.count c.args.opening c.map.result 0 0 new refl), fit_each c.args.opening c.args.count d (omega arith) (sym c.if-not-rows_fit.ensures) h)

pub returns : goal.returns
returns c =
    let i = c.map.ensures.items in
    let new = all_new c.args.opening c.map.result (search rules) i.long (λ d h. (i.at d [] (fresh_supply []) h).2.met) in
    (search rules, opens_fresh c.args.count c.args.opening c.map.result c.in_ok-rate.rate.parts c.args.rate new (search rules))
