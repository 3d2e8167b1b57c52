-- An entry written at the end, and what takes a move or a step back. Assumes nothing.
use Rattle.std.proofs.Common.{◌≡◌, ℕ, ◌<◌, true, false, cond, ◌&&◌, eqb, ltb, [], ◌∷◌, ◌++◌, length, drop, Ok, ap, ◌∙◌, arith, length-append}
use Rattle.std.proofs.lemmas.Bool.Decides.{nat_tests}
use Rattle.hooks.specs.Laws as hooks
use Rattle.hooks.specs.Meaning.{Hooks, known, passes, verdict, numbered, after_set, told}
use Rattle.tokens.specs.Meaning.{Tokens, moved, unmoved}
use Rattle.tokens.specs.Moves.{Lawful, after, transfer_answer, after_transfer, after_unmove}
use Rattle.store.specs.declared.state.Store.{Store}
use Rattle.journal.proofs.Rewinds.{kept}
use Rattle.journal.specs.Rewound.{rewound}
use Rattle.store.specs.declared.entry.Entry.{Entry}
use Rattle.store.specs.Saved.{world, Changed}
use Rattle.store.specs.World.{World, undone}

module _ {T H : Type 0} {tokens : T → Tokens} {means : H → Hooks} {a b : Store T H} {w : World} (e : Entry) where
  -- an entry at the end, whose undo gives back what held, is one change
  pub one_more : b.log.items ≡ a.log.items ++ e ∷ [] → world tokens means b.held ≡ w → undone w e ≡ world tokens means a.held → Changed tokens means a b 1 w
  one_more log now back =
      record {
        now = now;
        longer = ap length log ∙ length-append a.log.items (e ∷ []);
        kept = λ n mark. ap (λ l. rewound undone (world tokens means b.held) (drop n l)) log ∙ ap (λ v. rewound undone v (drop n (a.log.items ++ e ∷ []))) now ∙ kept undone (world tokens means a.held) w a.log.items n e mark back;
      }

-- an unmove right after its move gives back what the bank meant
pub move_back : (t : Tokens) (c from to a n : ℕ) → Lawful t → transfer_answer t c from to a ≡ Ok n → after_unmove (after_transfer t c from to a) c from to a ≡ t
move_back t c from to a n law e =
    ap (λ r. after_unmove (after r (moved t c from to a) t) c from to a) e
    ∙ ap (λ r. after r (unmoved (moved t c from to a) c from to a) (moved t c from to a)) (law.accepted_back c from to a n e)
    ∙ law.restored c from to a n e

-- a hook's number set back to what it was
numbered_back : (m : Hooks) (f : ℕ → ℕ) (h n : ℕ) → ((k : ℕ) → cond (eqb k h) n (f k) ≡ m.number k) → numbered (record m { number = f }) h n ≡ m
numbered_back m f h n e = λ i. record m { number = λ k. e k i }

-- a number set back right after a step gives back what the bank meant
pub tell_back : (m : Hooks) (h i o n : ℕ) → hooks.Lawful m → h < m.count → n ≡ m.number h → after_set (told m h i o) h n ≡ m
tell_back m h i o n law below old =
    let legal = law.present h below in
    let fine : (ltb h m.count && m.legal h n) ≡ true = grind (arith, nat_tests) in
    let s = m.step h (m.number h) i o in
    elim (known m h && passes (verdict m h i o)) as (λ t. after_set (cond t (numbered m h s) m) h n ≡ m) [
      | true ↦ ap (λ t. cond t (numbered (numbered m h s) h n) (numbered m h s)) fine ∙ numbered_back m (numbered m h s).number h n (λ k. grind (arith, nat_tests))
      | false ↦ ap (λ t. cond t (numbered m h n) m) fine ∙ numbered_back m m.number h n (λ k. grind (arith, nat_tests))
    ]
