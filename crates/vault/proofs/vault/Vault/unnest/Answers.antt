use Rattle.std.proofs.Common.{◌≡◌, suc, [], ◌∷◌, ◌++◌, length, map, ap, ◌∙◌, sym, arith, length-append}
use Rattle.std.specs.Option.{option_to_list}
use Rattle.store.specs.Saved.{world, saved}
use Rattle.vault.specs.Marks.{with_frames, phase_of, inwards, ends}
use Rattle.vault.specs.Turns.{shallower, rest, first_of}
use Rattle.vault.proofs.Fitting.{back_fit, back_worlds}
use Rattle.vault.proofs.Nesting.{last_mark, shallow}
use Rattle.vault.proofs.vault.Vault.unnest.Goals as goal

pub invariant_of-self-2-clause-fit : goal.invariant_of-self-2-clause-fit
invariant_of-self-2-clause-fit g c =
    let v = c.args.self.now in
    let back = c.rewind_to.ensures in
    let marks = last_mark v.frames _ _ _ _ c.in-Some.is c.pop.ensures.items c.in-Some-pop.is in
    back_fit g.T.TokenBank.meaning g.H.HookBank.meaning v.store c.rewind_to.new.self _ _ _ marks back.kept v.fit back.shorter

pub returns-in-Some-pop : goal.returns-in-Some-pop
returns-in-Some-pop g c =
    let v = c.args.self.now in
    let s = v.store in
    let b = c.rewind_to.new.self in
    let t = g.T.TokenBank.meaning in
    let h = g.H.HookBank.meaning in
    let was = c.in-Some.is in
    let left = c.pop.new.self.items in
    let marks = last_mark v.frames _ left _ _ was c.pop.ensures.items c.in-Some-pop.is in
    let count : length c.in-Some.marks.items ≡ suc (length left) = ap length (c.pop.ensures.items ∙ ap (λ r. left ++ option_to_list r) c.in-Some-pop.is) ∙ length-append left (c.in-Some-pop.mark ∷ []) ∙ omega arith in
    let phase : with_frames (length left) ≡ shallower (phase_of v.frames) = sym (ap (λ f. shallower (phase_of f)) was ∙ ap (λ n. shallower (with_frames n)) count ∙ shallow (length left)) in
    let now : world t h b.held ≡ first_of (world t h s.held) (map (saved t h s) (ends v.frames)) =
    c.rewind_to.ensures.now ∙ ap (λ ms. first_of (world t h s.held) (map (saved t h s) ms)) (sym marks) in
    let worlds : map (saved t h b) (inwards left) ≡ rest (map (saved t h s) (ends v.frames)) =
    back_worlds t h s b _ _ _ marks c.rewind_to.ensures.kept v.fit ∙ ap (λ ms. rest (map (saved t h s) ms)) (sym marks) in
    λ j. record { phase = phase j; now = now j; saved = worlds j }
