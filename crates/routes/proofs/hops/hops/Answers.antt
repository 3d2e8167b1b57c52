use Rattle.std.proofs.Common.{◌+◌, ◌<◌, length, drop, ap, ◌∙◌, rules, arith}
use Rattle.std.proofs.lemmas.List.{drop_more}
use Rattle.amounts.specs.Checks.{with_ok}
use Rattle.store.specs.Saved.{world}
use Rattle.routes.specs.Routes.{hops}
use Rattle.routes.proofs.Refusals.{made, not_made}
use Rattle.routes.proofs.hops.hops.Goals as goal

pub returns-in_err-carried-clause-does : goal.returns-in_err-carried-clause-does
returns-in_err-carried-clause-does g c =
    let k = g.C.CurveBank.meaning c.args.curves.now in
    let w = world g.T.TokenBank.meaning g.H.HookBank.meaning in
    let l = c.loop-pool in
    let i = l.pool-index in
    let who = c.args.who.number in
    let pools = c.args.pools.now in
    let within : i < length pools = search rules in
    let n = not_made g.T.TokenBank.meaning g.H.HookBank.meaning l.store c.hop.new.store _ c.in_err-carried.field-0.0 c.in_err-carried.ensures.does in
    let e = l.invariant.0
    ∙ ap (hops k who l.number (record { carried = l.carried; world = w l.store.held })) (drop_more pools i 0 within)
    ∙ ap (λ x. with_ok x (λ t. hops k who (l.number + 1) t (drop (i + 1) pools))) n.0 in
    search rules

pub loop-pool-preserved : goal.loop-pool-preserved
loop-pool-preserved g c =
    let k = g.C.CurveBank.meaning c.args.curves.now in
    let w = world g.T.TokenBank.meaning g.H.HookBank.meaning in
    let l = c.loop-pool in
    let i = l.pool-index in
    let v = l.invariant in
    let who = c.args.who.number in
    let pools = c.args.pools.now in
    let within : i < length pools = search rules in
    let m = made g.T.TokenBank.meaning g.H.HookBank.meaning l.store c.hop.new.store _ c.in_ok-carried.carried c.in_ok-carried.ensures.does in
    let grows = m.1 in
    let counted = c.in_ok-carried.ensures.counted in
    let low = v.2 in (
      v.0
          ∙ ap (hops k who l.number (record { carried = l.carried; world = w l.store.held })) (drop_more pools i 0 within)
          ∙ ap (λ x. with_ok x (λ t. hops k who (l.number + 1) t (drop (i + 1) pools))) m.0,
      omega (arith, v.1),
      omega (arith, low, grows),
      omega (arith, v.3, grows),
      omega (arith, v.4, counted),
      λ n below. m.2 n (omega (arith, below, low)) ∙ v.5 n below,
    )
