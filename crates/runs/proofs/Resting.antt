-- What a locked vault lets through leaves it at rest, and so does the close of a session without open debts. Apart from the walk through
-- all actions, which knows no phase. Assumes nothing.
use Rattle.std.proofs.Common.{◌≡◌, ◌+◌, false, leb, pos, Ok, refl, ap, ◌∙◌, subst}
use Rattle.std.proofs.lemmas.Bool.{true≢false}
use Rattle.actions.specs.declared.action.Action.{Action}
use Rattle.actions.specs.declared.action.Action.TheVariants as action
use Rattle.actions.specs.Acts.{act, acknowledged}
use Rattle.actions.proofs.Through.{through}
use Rattle.book.specs.Reads.{claim}
use Rattle.amounts.specs.Rows.{at2}
use Rattle.checks.specs.Tests.{is_account, is_account_or_vault, is_currency, is_amount, is_amount_or_none, is_flag, are_apart, has_room}
use Rattle.claims.specs.Claims.{has_right}
use Rattle.store.specs.declared.answer.Answer.{Answer}
use Rattle.store.specs.Outcome.{Outcome, refused, done}
use Rattle.store.specs.World.{World, finished}
use Rattle.totals.specs.Totals.{open_deltas}
use Rattle.totals.proofs.Columns.{settled}
use Rattle.vault.specs.Turns.{locked_meets}
use Rattle.runs.specs.Law.{AtRest}

-- what is done is at rest
abbrev Rests : Outcome Answer → Type 0
Rests (refused f) = Unit
Rests (done said w) = AtRest w

-- none of the parts changed
unmoved : {w : World} (v : World) → v.book.deltas ≡ w.book.deltas → v.book.mark ≡ w.book.mark → v.book.steps ≡ w.book.steps → AtRest w → AtRest v
unmoved v deltas mark steps r = record { settled = λ who c. ap (λ rows. at2 rows who c (pos 0)) deltas ∙ r.settled who c; unmarked = mark ∙ r.unmarked; no_steps = steps ∙ r.no_steps }

locked_rests : (w : World) (a : Action) → locked_meets a ≡ Ok tt → AtRest w → Rests (act false w a)
locked_rests w (action.Sync c) e r = absurd (true≢false (cc e))
locked_rests w (action.Settle who c) e r = absurd (true≢false (cc e))
locked_rests w (action.Take who c to a) e r = absurd (true≢false (cc e))
locked_rests w (action.Pay who c to a) e r =
    let t = through Rests (λ f. tt) in
    t (is_account who) _ _ (λ _.
    t (is_account_or_vault to) _ _ (λ _.
    t (is_currency w.tokens.count c) _ _ (λ _.
    t (is_amount a) _ _ (λ _.
    t (are_apart who to) _ _ (λ _.
    t (leb a (w.tokens.balance c who)) _ _ (λ _. unmoved _ refl refl refl r))))))
locked_rests w (action.Clear who c a) e r = absurd (true≢false (cc e))
locked_rests w (action.Mint who to c a) e r = absurd (true≢false (cc e))
locked_rests w (action.Burn who from c a) e r = absurd (true≢false (cc e))
locked_rests w (action.Hand caller from to c a) e r =
    let t = through (λ o. Rests (acknowledged o)) (λ f. tt) in
    t (is_account caller) _ _ (λ _.
    t (is_account from) _ _ (λ _.
    t (is_account to) _ _ (λ _.
    t (is_currency w.tokens.count c) _ _ (λ _.
    t (is_amount a) _ _ (λ _.
    t (are_apart from to) _ _ (λ _.
    t (has_right w.book caller from c a) _ _ (λ _.
    t (leb a (claim w.book from c)) _ _ (λ _.
    t (has_room (claim w.book to c + a)) _ _ (λ _. unmoved _ refl refl refl r)))))))))
locked_rests w (action.Allow owner spender c a) e r =
    let t = through (λ o. Rests (acknowledged o)) (λ f. tt) in
    t (is_account owner) _ _ (λ _.
    t (is_account spender) _ _ (λ _.
    t (is_currency w.tokens.count c) _ _ (λ _.
    t (is_amount_or_none a) _ _ (λ _. unmoved _ refl refl refl r))))
locked_rests w (action.Operator owner spender flag) e r =
    let t = through Rests (λ f. tt) in
    t (is_account owner) _ _ (λ _.
    t (is_account spender) _ _ (λ _.
    t (is_flag flag) _ _ (λ _. unmoved _ refl refl refl r)))

-- the same of what an outcome turns out to be
pub stays : (w : World) (a : Action) → AtRest w → locked_meets a ≡ Ok tt → (said : Answer) (v : World) → act false w a ≡ done said v → AtRest v
stays w a r e said v is = subst Rests is (locked_rests w a e r)

pub closed_rests : (w : World) → open_deltas w.book ≡ 0 → AtRest (finished w)
closed_rests w none = record { settled = settled w.book.deltas none; unmarked = refl; no_steps = refl }
