use Rattle.std.proofs.Common.{rules, ◌≡◌, ◌∙◌, ◌+◌, ◌<◌, refl, ap, subst, sym, arith, length, take, drop}
use Rattle.std.proofs.lemmas.List.{take_all}
use Rattle.std.proofs.lemmas.Result.{err_from_is_err_and}
use Rattle.jj_program.specs.Lines.{IsFaultOf, after_line, after_lines, lines_of}
use Rattle.jj_program.proofs.LineFields.{after_boundary, is_lf, line_boundary, line_cut, line_end, line_last, line_start, position_within}
use Rattle.jj_program.proofs.Steps.{next_line, line_fault, last_line}
use Rattle.jj_program.proofs.lines.take_lines.Goals as goal

pub loop-fields-init : goal.loop-fields-init
loop-fields-init g c = ((λ start is. (start, refl, is)), omega arith, c.utf8.text)

pub range-requires-clause-end_boundary : goal.range-requires-clause-end_boundary
range-requires-clause-end_boundary g c = line_boundary c.loop-fields.rest.now c.in_ok-end.end c.in_ok-end.ensures.length

pub returns-in_err-take_line : goal.returns-in_err-take_line
returns-in_err-take_line g c = λ start is_start.
    let text = c.loop-fields.rest.now in
    let end = c.in_ok-end.end in
    let (more, first) = line_start text end c.in_ok-end.ensures.length in
    let line : c.range.result.now ≡ take end text = c.range.ensures.value ∙ line_end text end in
    let (state, so_far, is_state) = c.loop-fields.invariant.0 start is_start in
    let found = subst (λ l. IsFaultOf c.in_err-take_line.field-0.0 (after_line g.M.Reading.step c.loop-fields.line_number state l)) line (c.in_err-take_line.ensures state is_state) in
    let p = err_from_is_err_and c.from_residual-in_err-take_line.result c.from_residual-in_err-take_line.ensures.1 in
    rw (p.1, p.2) (line_fault g.M.Reading.step c.in_err-take_line.field-0.0 c.loop-fields.line_number state text (take end text) more _ first so_far found)

pub returns-then-end-rest : goal.returns-then-end-rest
returns-then-end-rest g c = λ start is_start.
    let text = c.loop-fields.rest.now in
    let end = c.in_ok-end.end in
    let all : end ≡ length text = search rules in
    let line : c.range.result.now ≡ text = c.range.ensures.value ∙ line_end text end ∙ take_all end text (omega (arith, all)) in
    let (state, so_far, is_state) = c.loop-fields.invariant.0 start is_start in
    let (next, taken, is_next) = c.in_ok-take_line.ensures state is_state in
    let last = last_line g.M.Reading.step c.loop-fields.line_number state text _ (line_last text end c.in_ok-end.ensures.length all) so_far in
    (next, sym last ∙ ap (after_line g.M.Reading.step c.loop-fields.line_number state) (sym line) ∙ taken, is_next)

pub range_from-rest-requires : goal.range_from-rest-requires
range_from-rest-requires g c = λ some.
    let text = c.loop-fields.rest.now in
    let end = c.in_ok-end.end in
    let inside : end < length text = omega (arith, c.in_ok-end.ensures.length, position_within is_lf text, c.if-end-rest.false) in
    after_boundary text end c.in_ok-end.ensures.length inside c.loop-fields.invariant.2

pub overflow_add-line_number : goal.overflow_add-line_number
overflow_add-line_number g c = search (rules, c.loop-fields.invariant.1)

pub loop-fields-smaller : goal.loop-fields-smaller
loop-fields-smaller g c =
    let long : length c.range_from-rest.result.now + (c.in_ok-end.end + 1) ≡ length c.loop-fields.rest.now = c.range_from-rest.ensures.len in
    omega (arith, long)

pub loop-fields-preserved : goal.loop-fields-preserved
loop-fields-preserved g c =
    let text = c.loop-fields.rest.now in
    let end = c.in_ok-end.end in
    let long : length c.range_from-rest.result.now + (end + 1) ≡ length text = c.range_from-rest.ensures.len in
    let cut = line_cut text end c.in_ok-end.ensures.length (omega (arith, long)) in
    let line : c.range.result.now ≡ take end text = c.range.ensures.value ∙ line_end text end in
    let behind : c.range_from-rest.result.now ≡ drop (end + 1) text = c.range_from-rest.ensures.value in (
      (λ start is_start.
          let (state, so_far, is_state) = c.loop-fields.invariant.0 start is_start in
          let (next, leads, is_next) = c.in_ok-take_line.ensures state is_state in
          let taken = ap (after_line g.M.Reading.step c.loop-fields.line_number state) (sym line) ∙ leads in
          let further = next_line g.M.Reading.step c.loop-fields.line_number state next text (take end text) (drop (end + 1) text) _ cut so_far taken in
          (next, ap (λ l. after_lines g.M.Reading.step (c.loop-fields.line_number + 1) next (lines_of l)) behind ∙ further, is_next)),
      omega (arith, long, c.loop-fields.invariant.1),
      search rules,
    )
