use Rattle.std.proofs.Common.{rules, ◌≡◌, ◌∙◌, ◌+◌, ◌-◌, ◌<◌, [], ◌∷◌, refl, ap, sym, arith, get_or, length, take, drop, zero, suc, ℕ, List}
use Rattle.jj_program.specs.Lines.{lines_of}
use Rattle.jj_program.proofs.LineFields.{after_boundary, is_lf, line_boundary, line_cut, line_end, line_last, line_start, position_within}
use Rattle.jj_program.proofs.message.line_at.Goals as goal

-- a line after the first one
later_line : (line : List ℕ) (lines : List (List ℕ)) (k : ℕ) → (k ≡ 0 → ⊥) → get_or (line ∷ lines) k [] ≡ get_or lines (k - 1) []
later_line line lines zero other = absurd (other refl)
later_line line lines (suc n) other = let same : n ≡ suc n - 1 = omega arith in ap (λ m. get_or lines m []) same

no_later_line : (line : List ℕ) (k : ℕ) → (k ≡ 0 → ⊥) → get_or (line ∷ []) k [] ≡ []
no_later_line line zero other = absurd (other refl)
no_later_line line (suc n) other = refl

pub range-line-requires-clause-end_boundary : goal.range-line-requires-clause-end_boundary
range-line-requires-clause-end_boundary c = line_boundary c.loop-fields.rest.now c.in_ok-end.end c.in_ok-end.ensures.length

pub returns-then-skipped-eq0-clause-line : goal.returns-then-skipped-eq0-clause-line
returns-then-skipped-eq0-clause-line c =
    let text = c.loop-fields.rest.now in
    let end = c.in_ok-end.end in
    let (more, first) = line_start text end c.in_ok-end.ensures.length in
    let line : c.range-line.result.now ≡ take end text = c.range-line.ensures.value ∙ line_end text end in
    let at : get_or (lines_of text) c.loop-fields.skipped [] ≡ take end text =
    ap (λ k. get_or (lines_of text) k []) c.if-skipped-eq0.true ∙ ap (λ l. get_or l 0 []) first in
    line ∙ sym at ∙ c.loop-fields.invariant.0

pub returns-then-end-rest-clause-line : goal.returns-then-end-rest-clause-line
returns-then-end-rest-clause-line c =
    let text = c.loop-fields.rest.now in
    let end = c.in_ok-end.end in
    let all : end ≡ length text = search rules in
    let at : get_or (lines_of text) c.loop-fields.skipped [] ≡ [] =
    ap (λ l. get_or l c.loop-fields.skipped []) (line_last text end c.in_ok-end.ensures.length all) ∙ no_later_line text c.loop-fields.skipped c.if-skipped-eq0.false in
    sym at ∙ c.loop-fields.invariant.0

pub range_from-rest-requires : goal.range_from-rest-requires
range_from-rest-requires c = λ some.
    let text = c.loop-fields.rest.now in
    let end = c.in_ok-end.end in
    let inside : end < length text = omega (arith, c.in_ok-end.ensures.length, position_within is_lf text, c.if-end-rest.false) in
    after_boundary text end c.in_ok-end.ensures.length inside c.loop-fields.invariant.1

pub loop-fields-preserved : goal.loop-fields-preserved
loop-fields-preserved c =
    let text = c.loop-fields.rest.now in
    let end = c.in_ok-end.end in
    let skipped = c.loop-fields.skipped in
    let long : length c.range_from-rest.result.now + (end + 1) ≡ length text = c.range_from-rest.ensures.len in
    let cut = line_cut text end c.in_ok-end.ensures.length (omega (arith, long)) in
    let behind : c.range_from-rest.result.now ≡ drop (end + 1) text = c.range_from-rest.ensures.value in (
      ap (λ l. get_or (lines_of l) (skipped - 1) []) behind
          ∙ sym (later_line (take end text) (lines_of (drop (end + 1) text)) skipped c.if-skipped-eq0.false)
          ∙ sym (ap (λ l. get_or l skipped []) cut.first)
          ∙ c.loop-fields.invariant.0,
      search rules,
    )
