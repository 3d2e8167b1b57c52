-- Each action test by test: where all pass, the step is counted and the balance equation kept. Assumes nothing.
use Rattle.std.proofs.Common.{◌≡◌, ℕ, ◌+◌, ◌≤◌, Bool, true, not, ◌||◌, eqb, leb, pos, ◌+ℤ◌, ◌-ℤ◌, refl, arith}
use Rattle.std.proofs.lemmas.Int.{ints}
use Rattle.std.proofs.lemmas.Bool.{leb-true}
use Rattle.std.proofs.lemmas.Bool.Decides.{nat_tests}
use Rattle.actions.specs.declared.action.Action.{Action}
use Rattle.actions.specs.declared.action.Action.TheVariants as action
use Rattle.actions.specs.Acts.{act, acknowledged}
use Rattle.actions.specs.Balance.{Keeps}
use Rattle.actions.specs.Balance.Keeps.{nothing}
use Rattle.actions.specs.Counted.{is_step, Counted}
use Rattle.actions.proofs.Changes.{put_sized, none, same, nested, vault_moved, Grounds, fair, claim_rows, delta_rows, untouched, delta_changed, claim_changed, handed}
use Rattle.actions.proofs.Through.{through}
use Rattle.book.specs.Reads.{delta, claim}
use Rattle.checks.specs.Tests.{is_account, is_account_or_vault, is_currency, is_amount, is_amount_or_none, is_flag, are_apart, has_step, steps_after, has_room, in_range, is_delta}
use Rattle.claims.specs.Claims.{has_right}
use Rattle.payments.specs.Payments.{is_marked, gained, vault_balance}
use Rattle.store.specs.declared.answer.Answer.{Answer}
use Rattle.store.specs.Outcome.{Outcome}
use Rattle.store.specs.World.{World}

-- where a step was tested for, the count after it is within its bound
within : (step : Bool) (n : ℕ) → (not step || has_step n) ≡ true → n ≤ 64 → steps_after step n ≤ 64
within step n room low = grind (arith, nat_tests)

abbrev pub Walked : Bool → World → Action → Outcome Answer → Type 0
Walked session w a o = Counted (is_step session a) w.book.steps o × ((g : Grounds w) → Keeps g.start g.strays a o)

pub walked : (session : Bool) (w : World) (a : Action) → Walked session w a (act session w a)
walked session w (action.Sync c) =
    let t = through (Walked session w (action.Sync c)) (λ f. (tt, λ g. nothing f)) in
    t (is_currency w.tokens.count c) _ _ (λ _.
    t (has_step w.book.steps) _ _ (λ room.
    ((refl, within true _ room), λ g. untouched w g _ _ _ refl refl refl (λ _. refl))))
walked session w (action.Settle who c) =
    let t = through (Walked session w (action.Settle who c)) (λ f. (tt, λ g. nothing f)) in
    t (is_account who) _ _ (λ p.
    t (is_currency w.tokens.count c) _ _ (λ q.
    t (has_step w.book.steps) _ _ (λ room.
    t (is_marked w.book.mark c (vault_balance w c)) _ _ (λ _.
    t (in_range (delta w.book who c +ℤ pos (gained w.book.mark (vault_balance w c)))) _ _ (λ _.
    ((refl, within true _ room), λ g. fair w g _ _ _ c _ _ _ _ refl refl (claim_rows w g) (put_sized _ who c _ (delta_rows w g)) (λ e. same c e _) (λ e. same c e _) (delta_changed w g who c _ p q) (λ _. refl) (omega (arith, ints))))))))
walked session w (action.Take who c to a) =
    let t = through (Walked session w (action.Take who c to a)) (λ f. (tt, λ g. nothing f)) in
    t (is_account who) _ _ (λ p.
    t (is_account to) _ _ (λ r.
    t (is_currency w.tokens.count c) _ _ (λ q.
    t (is_amount a) _ _ (λ _.
    t (has_step w.book.steps) _ _ (λ room.
    t (leb a (vault_balance w c)) _ _ (λ holds.
    t (in_range (delta w.book who c -ℤ pos a)) _ _ (λ _.
    ((refl, within true _ room), λ g. fair w g _ _ _ c _ _ _ _ refl refl (claim_rows w g) (put_sized _ who c _ (delta_rows w g)) (vault_moved w.tokens c 0 to a (leb-true a _ holds)) (λ e. same c e _) (delta_changed w g who c _ p q) (none c) (grind (arith, ints, nat_tests))))))))))
walked session w (action.Pay who c to a) =
    let t = through (Walked session w (action.Pay who c to a)) (λ f. (tt, λ g. nothing f)) in
    t (is_account who) _ _ (λ p.
    t (is_account_or_vault to) _ _ (λ _.
    t (is_currency w.tokens.count c) _ _ (λ _.
    t (is_amount a) _ _ (λ _.
    t (are_apart who to) _ _ (λ _.
    t (not session || has_step w.book.steps) _ _ (λ room.
    t (leb a (w.tokens.balance c who)) _ _ (λ holds.
    ((refl, within session _ room), λ g. fair w g _ _ _ c _ _ _ _ refl refl (claim_rows w g) (delta_rows w g) (vault_moved w.tokens c who to a (leb-true a _ holds)) (λ e. same c e _) (λ e. same c e _) (λ e. nested (eqb c e) (eqb to 0) _) (grind (arith, ints, nat_tests))))))))))
walked session w (action.Clear who c a) =
    let t = through (Walked session w (action.Clear who c a)) (λ f. (tt, λ g. nothing f)) in
    t (is_account who) _ _ (λ p.
    t (is_currency w.tokens.count c) _ _ (λ q.
    t (is_amount a) _ _ (λ _.
    t (has_step w.book.steps) _ _ (λ room.
    t (is_delta (delta w.book who c) a) _ _ (λ exact.
    ((refl, within true _ room), λ g. fair w g _ _ _ c _ _ _ _ refl refl (claim_rows w g) (put_sized _ who c _ (delta_rows w g)) (λ e. same c e _) (λ e. same c e _) (delta_changed w g who c _ p q) (λ _. refl) (grind (arith, ints, nat_tests))))))))
walked session w (action.Mint who to c a) =
    let t = through (λ o. Walked session w (action.Mint who to c a) (acknowledged o)) (λ f. (tt, λ g. nothing f)) in
    t (is_account who) _ _ (λ p.
    t (is_account to) _ _ (λ r.
    t (is_currency w.tokens.count c) _ _ (λ q.
    t (is_amount a) _ _ (λ _.
    t (has_step w.book.steps) _ _ (λ room.
    t (in_range (delta w.book who c -ℤ pos a)) _ _ (λ _.
    t (has_room (claim w.book to c + a)) _ _ (λ _.
    ((refl, within true _ room), λ g. fair w g _ _ _ c _ _ _ _ refl refl (put_sized _ to c _ (claim_rows w g)) (put_sized _ who c _ (delta_rows w g)) (λ e. same c e _) (claim_changed w g to c _ r q) (delta_changed w g who c _ p q) (none c) (omega (arith, ints))))))))))
walked session w (action.Burn who from c a) =
    let t = through (λ o. Walked session w (action.Burn who from c a) (acknowledged o)) (λ f. (tt, λ g. nothing f)) in
    t (is_account who) _ _ (λ p.
    t (is_account from) _ _ (λ r.
    t (is_currency w.tokens.count c) _ _ (λ q.
    t (is_amount a) _ _ (λ _.
    t (has_step w.book.steps) _ _ (λ room.
    t (has_right w.book who from c a) _ _ (λ _.
    t (leb a (claim w.book from c)) _ _ (λ holds.
    t (in_range (delta w.book who c +ℤ pos a)) _ _ (λ _.
    ((refl, within true _ room), λ g. fair w g _ _ _ c _ _ _ _ refl refl (put_sized _ from c _ (claim_rows w g)) (put_sized _ who c _ (delta_rows w g)) (λ e. same c e _) (claim_changed w g from c _ r q) (delta_changed w g who c _ p q) (none c) (omega (arith, ints, leb-true a _ holds)))))))))))
walked session w (action.Hand caller from to c a) =
    let t = through (λ o. Walked session w (action.Hand caller from to c a) (acknowledged o)) (λ f. (tt, λ g. nothing f)) in
    t (is_account caller) _ _ (λ _.
    t (is_account from) _ _ (λ p.
    t (is_account to) _ _ (λ r.
    t (is_currency w.tokens.count c) _ _ (λ q.
    t (is_amount a) _ _ (λ _.
    t (are_apart from to) _ _ (λ apart.
    t (not session || has_step w.book.steps) _ _ (λ room.
    t (has_right w.book caller from c a) _ _ (λ _.
    t (leb a (claim w.book from c)) _ _ (λ holds.
    t (has_room (claim w.book to c + a)) _ _ (λ _.
    ((refl, within session _ room), λ g. fair w g _ _ _ c _ _ _ _ refl refl (put_sized _ to c _ (put_sized _ from c _ (claim_rows w g))) (delta_rows w g) (λ e. same c e _) (handed w g from to c a p r q apart holds) (λ e. same c e _) (none c) refl)))))))))))
walked session w (action.Allow owner spender c a) =
    let t = through (λ o. Walked session w (action.Allow owner spender c a) (acknowledged o)) (λ f. (tt, λ g. nothing f)) in
    t (is_account owner) _ _ (λ _.
    t (is_account spender) _ _ (λ _.
    t (is_currency w.tokens.count c) _ _ (λ _.
    t (is_amount_or_none a) _ _ (λ _.
    ((refl, λ low. low), λ g. untouched w g _ _ _ refl refl refl (λ _. refl))))))
walked session w (action.Operator owner spender flag) =
    let t = through (Walked session w (action.Operator owner spender flag)) (λ f. (tt, λ g. nothing f)) in
    t (is_account owner) _ _ (λ _.
    t (is_account spender) _ _ (λ _.
    t (is_flag flag) _ _ (λ _.
    ((refl, λ low. low), λ g. untouched w g _ _ _ refl refl refl (λ _. refl)))))
