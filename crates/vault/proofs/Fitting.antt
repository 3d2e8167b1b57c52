-- Marks fit and restore the same as long as what they restore is kept. Assumes nothing.
use Rattle.std.proofs.Common.{◌≡◌, ℕ, ◌*◌, ◌≤◌, true, ◌&&◌, leb, List, [], ◌∷◌, map, sym, refl, ap, ◌∙◌, subst, arith}
use Rattle.std.proofs.lemmas.Bool.{and_parts, and_from, leb-true, le-leb}
use Rattle.hooks.specs.Meaning.{Hooks}
use Rattle.store.specs.declared.state.Store.{Store}
use Rattle.store.specs.Room.{steps_at}
use Rattle.store.specs.Saved.{recorded, saved, Kept}
use Rattle.store.proofs.Rooms.{saved_steps}
use Rattle.tokens.specs.Meaning.{Tokens}
use Rattle.vault.specs.Marks.{fits, all_fit}

module _ {T H : Type 0} where
  -- the bound above may be another one
  pub under : (s : Store T H) (low top : ℕ) (ms : List ℕ) → low ≤ top → all_fit s low ms ≡ true → all_fit s top ms ≡ true
  under s low top [] h e = refl
  under s low top (m ∷ ms) h e =
      let parts = and_parts _ _ e in
      and_from _ _ (le-leb m top (let l = leb-true m low parts.0 in omega arith)) parts.1

  -- a mark is below itself
  pub itself : (s : Store T H) (top m : ℕ) (ms : List ℕ) → all_fit s top (m ∷ ms) ≡ true → all_fit s m (m ∷ ms) ≡ true
  itself s top m ms e = and_from _ _ (le-leb m m (omega arith)) (and_parts _ _ e).1

  -- without the innermost
  pub outer : (s : Store T H) (top m : ℕ) (ms : List ℕ) → all_fit s top (m ∷ ms) ≡ true → all_fit s top ms ≡ true
  outer s top m ms e =
      let parts = and_parts _ _ e in
      under s m top ms (leb-true m top parts.0) (and_parts _ _ parts.1).1

  -- without the second
  pub without : (s : Store T H) (top n m : ℕ) (ms : List ℕ) → all_fit s top (n ∷ m ∷ ms) ≡ true → all_fit s top (n ∷ ms) ≡ true
  without s top n m ms e =
      let parts = and_parts (leb n top) _ e in
      let inner = and_parts (fits s n) _ parts.1 in
      and_from _ _ parts.0 (and_from _ _ inner.0 (outer s n m ms inner.1))

  -- the same mark twice
  pub twice : (s : Store T H) (m : ℕ) (ms : List ℕ) → all_fit s m (m ∷ ms) ≡ true → all_fit s m (m ∷ m ∷ ms) ≡ true
  twice s m ms e = and_from _ _ (le-leb m m (omega arith)) (and_from _ _ (and_parts _ _ (and_parts _ _ e).1).0 e)

  module _ (tokens : T → Tokens) (hooks : H → Hooks) (a b : Store T H) where
    same_steps : (n k : ℕ) → Kept tokens hooks a b n → k ≤ n → steps_at b k ≡ steps_at a k
    same_steps n k kept h = sym (saved_steps tokens hooks b k) ∙ ap (λ w. w.book.steps) (kept k h) ∙ saved_steps tokens hooks a k

    pub same_fit : (n top : ℕ) (ms : List ℕ) → Kept tokens hooks a b n → top ≤ n → all_fit a top ms ≡ true → all_fit b top ms ≡ true
    same_fit n top [] kept h e = refl
    same_fit n top (m ∷ ms) kept h e =
        let parts = and_parts _ _ e in
        let low : m ≤ top = leb-true m top parts.0 in
        let inner = and_parts _ _ parts.1 in
        let here : fits b m ≡ true = subst (λ k. (leb m (6 * k) && leb k 64) ≡ true) (sym (same_steps n m kept (omega arith))) inner.0 in
        and_from _ _ parts.0 (and_from _ _ here (same_fit n m ms kept (omega arith) inner.1))

    pub same_worlds : (n top : ℕ) (ms : List ℕ) → Kept tokens hooks a b n → top ≤ n → all_fit a top ms ≡ true → map (saved tokens hooks b) ms ≡ map (saved tokens hooks a) ms
    same_worlds n top [] kept h e = refl
    same_worlds n top (m ∷ ms) kept h e =
        let parts = and_parts _ _ e in
        let low : m ≤ top = leb-true m top parts.0 in
        ap (λ w. w ∷ map (saved tokens hooks b) ms) (kept m (omega arith)) ∙ ap (λ ws. saved tokens hooks a m ∷ ws) (same_worlds n m ms kept (omega arith) (and_parts _ _ parts.1).1)

    -- the journal is back at the innermost mark: those outside it fit, and restore what they did
    module _ (m : ℕ) (marks ms : List ℕ) (innermost : marks ≡ m ∷ ms) (kept : Kept tokens hooks a b m) (fit : all_fit a (recorded a) (recorded a ∷ marks) ≡ true) where
      below : all_fit a m (m ∷ ms) ≡ true
      below = itself a (recorded a) m ms (outer a (recorded a) (recorded a) (m ∷ ms) (subst (λ l. all_fit a (recorded a) (recorded a ∷ l) ≡ true) innermost fit))

      pub back_fit : recorded b ≡ m → all_fit b (recorded b) (recorded b ∷ ms) ≡ true
      back_fit len = subst (λ n. all_fit b n (n ∷ ms) ≡ true) (sym len) (same_fit m m (m ∷ ms) kept (omega arith) below)

      pub back_worlds : map (saved tokens hooks b) ms ≡ map (saved tokens hooks a) ms
      back_worlds = same_worlds m m ms kept (omega arith) (outer a m m ms below)
