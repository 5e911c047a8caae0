use Rattle.std.proofs.Common.{◌≡◌, ◌∙◌, ◌↔◌, ◌⊎◌, ◌<◌, ◌≤◌, ◌+◌, ℕ, List, length, inl, inr, subst, sym, arith}
use Rattle.jj_globs.specs.GlobMeaning.{lower, upper}
use Rattle.jj_globs.specs.GlobNfa.{HasBit}
use Rattle.jj_globs.proofs.ByteSets.{all_letters, letter_put, letter_kept}
use Rattle.jj_globs.proofs.glob.byte_set.insert_other_case.Goals as goal
use Rattle.jj_globs.proofs.glob.byte_set.insert_other_case.Goals.{then-contains_either_case, else-contains_either_case}

pub loop-byte-preserved : goal.loop-byte-preserved
loop-byte-preserved c =
    let Q : ℕ → Type 0 = λ b. HasBit c.args.found.words (lower b) ⊎ HasBit c.args.found.words (upper b) in
    let room : length c.loop-byte.words ≡ 4 = c.loop-byte.invariant.room in
    let Is : List ℕ → Type 0 = λ ws. (b : ℕ) → HasBit ws b ↔ (HasBit c.args.words.now b ⊎ ((b < c.loop-byte.byte + 1) × Q b)) in
    record {
      live = elim c.if-contains_either_case.branch [
        | then-contains_either_case w ↦ subst Is (sym w.words-is)
            (letter_put c.args.words.now c.loop-byte.words w.insert.new.words Q c.loop-byte.byte (c.contains_either_case.ensures.0 w.if-contains_either_case.true) w.insert.ensures.live
            c.loop-byte.invariant.live)
        | else-contains_either_case w ↦ subst Is (sym w.words-is)
            (letter_kept c.args.words.now c.loop-byte.words Q c.loop-byte.byte
            (λ q. let no = sym w.if-contains_either_case.false ∙ c.contains_either_case.ensures.1 q in cc) c.loop-byte.invariant.live)
      ];
      room = c.if-contains_either_case.auto.words ∙ room;
    }

pub returns-clause-live : goal.returns-clause-live
returns-clause-live c =
    let end : 256 ≤ c.loop-byte.byte = c.loop-byte-test.false in
    let same : c.args.found.words ≡ c.args.words.now = c.requires.same in
    all_letters c.args.words.now c.loop-byte.words
    (λ b.
    let known = c.loop-byte.invariant.live b in
    let moved = λ (x : ℕ). (λ (h : HasBit c.args.found.words x). subst (λ (ws : List ℕ). HasBit ws x) same h) in
    let back = λ (x : ℕ). (λ (h : HasBit c.args.words.now x). subst (λ (ws : List ℕ). HasBit ws x) (sym same) h) in
    let most : c.loop-byte.byte ≤ 256 = c.loop-byte.auto.byte-end in (
      (λ h. elim (known.0 h) [
        | inl s ↦ inl s
        | inr q ↦ (let lt = q.0 in inr ((omega (arith, lt, most)), (elim q.1 [ inl l ↦ inl (moved (lower b) l) | inr u ↦ inr (moved (upper b) u) ])))
      ]),
      (λ h. known.1 (elim h [
        | inl s ↦ inl s
        | inr q ↦ (let lt = q.0 in inr ((omega (arith, lt, end)), (elim q.1 [ inl l ↦ inl (back (lower b) l) | inr u ↦ inr (back (upper b) u) ])))
      ])),
    ))
