-- What an action changes in one currency, part by part, and when the balance equation is kept. Assumes nothing.
use Rattle.std.proofs.Common.{◌≡◌, ℕ, zero, suc, ◌+◌, ◌-◌, ◌<◌, ◌≤◌, Bool, true, cond, ◌&&◌, eqb, leb, List, [], ◌∷◌, length, get_or, set, ℤ, pos, ◌+ℤ◌, ◌-ℤ◌, neg_ℤ, sum_by, sym, refl, ap, ◌∙◌, subst, arith}
use Rattle.std.proofs.lemmas.List.{length-set, get_or-set_other}
use Rattle.std.proofs.lemmas.Int.{ints}
use Rattle.std.proofs.lemmas.Bool.Decides.{nat_tests}
use Rattle.actions.specs.declared.action.Action.{Action}
use Rattle.actions.specs.Balance.{stray_of, Sized, Sound, Keeps}
use Rattle.actions.specs.Balance.Keeps.{sound}
use Rattle.book.specs.declared.records.Book.{Book}
use Rattle.book.specs.Reads.{delta, claim}
use Rattle.amounts.specs.Rows.{at2, put2}
use Rattle.checks.specs.Tests.{is_account, is_currency, are_apart}
use Rattle.store.specs.declared.answer.Answer.{Answer}
use Rattle.store.specs.Outcome.{done}
use Rattle.store.specs.World.{World, with_book}
use Rattle.tokens.specs.Meaning.{Tokens, moved}
use Rattle.totals.specs.Totals.{held, claims_in, column, deltas_in}
use Rattle.totals.proofs.Columns.{claims_put, deltas_put}

-- a changed cell leaves every row as long as it was
same_rows : {A : Type 0} (rows : List (List A)) (i j : ℕ) (v : A) (k : ℕ) → length (get_or (put2 rows i j v) k []) ≡ length (get_or rows k [])
same_rows [] i j v k = refl
same_rows (r ∷ rows) zero j v zero = length-set r j v
same_rows (r ∷ rows) zero j v (suc k) = refl
same_rows (r ∷ rows) (suc i) j v zero = refl
same_rows (r ∷ rows) (suc i) j v (suc k) = same_rows rows i j v k

pub put_sized : {A : Type 0} (rows : List (List A)) (i j : ℕ) (v : A) → Sized rows → Sized (put2 rows i j v)
put_sized rows i j v s = record { count = length-set rows i (set (get_or rows i []) j v) ∙ s.count; wide = λ k low. same_rows rows i j v k ∙ s.wide k low }

-- a change of currency d, seen in currency c
abbrev pub only : ℕ → ℤ → ℕ → ℤ
only d z c = cond (eqb d c) z (pos 0)

-- no change
pub none : (d c : ℕ) → pos 0 ≡ only d (pos 0) c
none d c = grind (arith, ints, nat_tests)

pub same : (d c : ℕ) (z : ℤ) → z ≡ z +ℤ only d (pos 0) c
same d c z = omega (arith, ints, none d c)

pub nested : (s t : Bool) (z : ℤ) → cond (s && t) z (pos 0) ≡ cond s (cond t z (pos 0)) (pos 0)
nested s t z = grind (arith, ints, nat_tests)

-- what a move does to the vault's own balances
pub vault_moved : (t : Tokens) (d from to a : ℕ) → a ≤ t.balance d from → (c : ℕ) → pos ((moved t d from to a).balance c 0) ≡ pos (t.balance c 0) +ℤ only d (cond (eqb to 0) (pos (t.arrives d a)) (cond (eqb from 0) (neg_ℤ (pos a)) (pos 0))) c
vault_moved t d from to a holds c = grind (arith, ints, nat_tests)

account : (n : ℕ) → is_account n ≡ true → n < 16
account n e = grind (arith, nat_tests)

-- a start and strays with which the world is sound
pub record Grounds (w : World) : Type 0 where
  pub start : World
  pub few : start.tokens.count ≤ 8
  pub strays : ℕ → ℤ
  pub sound : Sound start w strays

module _ (w : World) (g : Grounds w) where
  -- changes of currency d that even out
  pub fair : (a : Action) (said : Answer) (new : World) (d : ℕ) (b k m z : ℤ) → new.tokens.count ≡ w.tokens.count → new.book.pools ≡ w.book.pools → Sized new.book.claims → Sized new.book.deltas → ((c : ℕ) → pos (new.tokens.balance c 0) ≡ pos (w.tokens.balance c 0) +ℤ only d b c) → ((c : ℕ) → pos (claims_in new.book c) ≡ pos (claims_in w.book c) +ℤ only d k c) → ((c : ℕ) → deltas_in new.book c ≡ deltas_in w.book c +ℤ only d m c) → ((c : ℕ) → stray_of a said c ≡ only d z c) → b ≡ k +ℤ (m +ℤ z) → Keeps g.start g.strays a (done said new)
  fair a said new d b k m z count pools claim_rows delta_rows balance claims deltas stray out =
      let s = g.sound in
      sound said new
      (record {
        shaped = record { claims = claim_rows; deltas = delta_rows };
        same_count = count ∙ s.same_count;
        same_pools = pools ∙ s.same_pools;
        even = λ c.
            let all : only d b c ≡ only d k c +ℤ (only d m c +ℤ only d z c) = grind (arith, ints, nat_tests) in
            omega (arith, ints, all, balance c, claims c, deltas c, stray c, s.even c, ap (λ p. sum_by (λ q. held q c) p.rows) pools);
      })

  currency : (c : ℕ) → is_currency w.tokens.count c ≡ true → c < 8
  currency c e = let few = g.few in let n = g.sound.same_count in grind (arith, nat_tests)

  pub claim_rows : Sized w.book.claims
  claim_rows = g.sound.shaped.claims

  pub delta_rows : Sized w.book.deltas
  delta_rows = g.sound.shaped.deltas

  -- none of the parts changed
  pub untouched : (a : Action) (said : Answer) (b : Book) → b.pools ≡ w.book.pools → b.claims ≡ w.book.claims → b.deltas ≡ w.book.deltas → ((c : ℕ) → stray_of a said c ≡ pos 0) → Keeps g.start g.strays a (done said (with_book w b))
  untouched a said b pools claims deltas stray = fair a said (with_book w b) 0 (pos 0) (pos 0) (pos 0) (pos 0) refl pools (subst Sized (sym claims) claim_rows) (subst Sized (sym deltas) delta_rows) (λ c. same 0 c _) (λ c. ap (λ rows. pos (sum_by (λ r. get_or r c 0) rows)) claims ∙ same 0 c _) (λ c. ap (λ rows. column rows c) deltas ∙ same 0 c _) (λ c. stray c ∙ none 0 c) refl

  -- one delta changed
  pub delta_changed : (who d : ℕ) (v : ℤ) → is_account who ≡ true → is_currency w.tokens.count d ≡ true → (c : ℕ) → column (put2 w.book.deltas who d v) c ≡ column w.book.deltas c +ℤ only d (v -ℤ delta w.book who d) c
  delta_changed who d v i j = let q = delta_rows in let h = account who i in deltas_put w.book.deltas who d v (omega (arith, q.count)) (omega (arith, q.wide who h, currency d j))

  -- one claim changed
  claim_put : (rows : List (List ℕ)) → Sized rows → (who d v : ℕ) → is_account who ≡ true → is_currency w.tokens.count d ≡ true → (c : ℕ) → pos (sum_by (λ r. get_or r c 0) (put2 rows who d v)) ≡ pos (sum_by (λ r. get_or r c 0) rows) +ℤ only d (pos v -ℤ pos (at2 rows who d 0)) c
  claim_put rows q who d v i j = let h = account who i in claims_put rows who d v (omega (arith, q.count)) (omega (arith, q.wide who h, currency d j))

  pub claim_changed : (who d v : ℕ) → is_account who ≡ true → is_currency w.tokens.count d ≡ true → (c : ℕ) → pos (sum_by (λ r. get_or r c 0) (put2 w.book.claims who d v)) ≡ pos (claims_in w.book c) +ℤ only d (pos v -ℤ pos (claim w.book who d)) c
  claim_changed = claim_put w.book.claims claim_rows

  -- a part of one claim handed on
  pub handed : (from to d a : ℕ) → is_account from ≡ true → is_account to ≡ true → is_currency w.tokens.count d ≡ true → are_apart from to ≡ true → leb a (claim w.book from d) ≡ true → (c : ℕ) → pos (sum_by (λ r. get_or r c 0) (put2 (put2 w.book.claims from d (claim w.book from d - a)) to d (claim w.book to d + a))) ≡ pos (claims_in w.book c) +ℤ only d (pos 0) c
  handed from to d a i k j apart holds c =
      let rows : List (List ℕ) = w.book.claims in
      let less : ℕ = claim w.book from d - a in
      let more : ℕ = claim w.book to d + a in
      let once : List (List ℕ) = put2 rows from d less in
      let stays : at2 once to d 0 ≡ claim w.book to d = ap (λ r. get_or r d 0) (get_or-set_other rows from to _ [] (λ e. grind (arith, nat_tests))) in
      let first = claim_changed from d less i j c in
      let second = claim_put once (put_sized rows from d less claim_rows) to d more k j c in
      grind (arith, ints, nat_tests)
