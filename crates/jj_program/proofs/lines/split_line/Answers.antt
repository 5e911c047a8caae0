use Rattle.std.proofs.Common.{rules, ◌≡◌, ◌∙◌, ◌+◌, ◌<◌, ◌≤◌, true, false, [], ◌∷◌, ◌++◌, length, get_or, drop, ap, subst, arith}
use Rattle.std.specs.List.{position_or_len, slice_range}
use Rattle.std.proofs.lemmas.List.{map-append}
use Rattle.std.proofs.lemmas.Str.{IsCharBoundary-start}
use Rattle.jj_program.specs.Lines.{Text, texts_of}
use Rattle.jj_program.proofs.LineFields.{end_boundary, end_within, first_fields_of, is_end, is_lf, last_fields, last_place, next_boundary, next_fields, next_place, not_lf, rest_of}
use Rattle.jj_program.proofs.lines.split_line.Goals as goal
use Rattle.jj_program.proofs.lines.split_line.Goals.{then-end-bytes-via-then-end-bytes, then-end-bytes-via-else-end-bytes+then-bytes-end-eq10}

pub loop-start-init : goal.loop-start-init
loop-start-init c = record {
  within = omega arith;
  boundary = IsCharBoundary-start c.args.text.now c.utf8.text;
  fields = ap (λ l. texts_of l ++ first_fields_of c.args.text.now) c.clear.ensures.items;
  place = omega arith;
}

pub overflow_add-end : goal.overflow_add-end
overflow_add-end c =
    let text = c.args.text.now in
    let start = c.loop-start.start in
    let is : c.field_len.result ≡ position_or_len is_end (drop start text) = c.field_len.ensures ∙ ap (position_or_len is_end) (rest_of c.as_bytes-bytes.result.now text start c.as_bytes-bytes.ensures.value) in
    let within : start + c.field_len.result ≤ length text = end_within text start c.field_len.result c.loop-start.invariant.within is in
    search (rules, within)

pub range-requires-clause-end_boundary : goal.range-requires-clause-end_boundary
range-requires-clause-end_boundary c =
    let text = c.args.text.now in
    let start = c.loop-start.start in
    let is : c.field_len.result ≡ position_or_len is_end (drop start text) = c.field_len.ensures ∙ ap (position_or_len is_end) (rest_of c.as_bytes-bytes.result.now text start c.as_bytes-bytes.ensures.value) in
    end_boundary text start c.field_len.result c.loop-start.invariant.within is

pub bounds-bytes-end : goal.bounds-bytes-end
bounds-bytes-end c =
    let text = c.args.text.now in
    let start = c.loop-start.start in
    let is : c.field_len.result ≡ position_or_len is_end (drop start text) = c.field_len.ensures ∙ ap (position_or_len is_end) (rest_of c.as_bytes-bytes.result.now text start c.as_bytes-bytes.ensures.value) in
    let within : start + c.field_len.result ≤ length text = end_within text start c.field_len.result c.loop-start.invariant.within is in
    search (rules, within)

pub returns-then-end-bytes-clause-fields : goal.returns-then-end-bytes-clause-fields
returns-then-end-bytes-clause-fields c =
    let text = c.args.text.now in
    let start = c.loop-start.start in
    let n = c.field_len.result in
    let inv = c.loop-start.invariant in
    let is : n ≡ position_or_len is_end (drop start text) = c.field_len.ensures ∙ ap (position_or_len is_end) (rest_of c.as_bytes-bytes.result.now text start c.as_bytes-bytes.ensures.value) in
    let ends : start + n < length text → is_lf (get_or text (start + n) 0) ≡ true = elim c.then-end-bytes.branch [
      | then-end-bytes-via-then-end-bytes w ↦ λ h. absurd (omega (arith, h, w.if-end-bytes.true, ap length c.as_bytes-bytes.ensures.value))
      | then-end-bytes-via-else-end-bytes+then-bytes-end-eq10 w ↦ λ h. ap is_lf (subst (λ bs. get_or bs (start + n) 0 ≡ 10) c.as_bytes-bytes.ensures.value w.if-bytes-end-eq10.true)
    ] in
    let pushed : texts_of c.push.new.self.items ≡ texts_of c.loop-start.fields.items ++ slice_range text start (start + n) ∷ [] =
    ap texts_of c.in_ok-push.ensures.items ∙ map-append (λ (field : Text). field.now) c.loop-start.fields.items (c.range.result ∷ []) ∙ ap (λ l. texts_of c.loop-start.fields.items ++ l ∷ []) c.range.ensures.value in
    pushed ∙ last_fields text start n inv.within is (texts_of c.loop-start.fields.items) inv.fields inv.place ends

pub returns-then-end-bytes-clause-length : goal.returns-then-end-bytes-clause-length
returns-then-end-bytes-clause-length c =
    let text = c.args.text.now in
    let start = c.loop-start.start in
    let n = c.field_len.result in
    let inv = c.loop-start.invariant in
    let is : n ≡ position_or_len is_end (drop start text) = c.field_len.ensures ∙ ap (position_or_len is_end) (rest_of c.as_bytes-bytes.result.now text start c.as_bytes-bytes.ensures.value) in
    let ends : start + n < length text → is_lf (get_or text (start + n) 0) ≡ true = elim c.then-end-bytes.branch [
      | then-end-bytes-via-then-end-bytes w ↦ λ h. absurd (omega (arith, h, w.if-end-bytes.true, ap length c.as_bytes-bytes.ensures.value))
      | then-end-bytes-via-else-end-bytes+then-bytes-end-eq10 w ↦ λ h. ap is_lf (subst (λ bs. get_or bs (start + n) 0 ≡ 10) c.as_bytes-bytes.ensures.value w.if-bytes-end-eq10.true)
    ] in
    last_place text start n inv.within is (texts_of c.loop-start.fields.items) inv.fields inv.place ends

pub overflow_add-start : goal.overflow_add-start
overflow_add-start c =
    let text = c.args.text.now in
    let start = c.loop-start.start in
    let n = c.field_len.result in
    let inv = c.loop-start.invariant in
    let is : n ≡ position_or_len is_end (drop start text) = c.field_len.ensures ∙ ap (position_or_len is_end) (rest_of c.as_bytes-bytes.result.now text start c.as_bytes-bytes.ensures.value) in
    let within : start + n ≤ length text = end_within text start n inv.within is in
    search (rules, within)

pub loop-start-smaller : goal.loop-start-smaller
loop-start-smaller c =
    let text = c.args.text.now in
    let start = c.loop-start.start in
    let n = c.field_len.result in
    let inv = c.loop-start.invariant in
    let is : n ≡ position_or_len is_end (drop start text) = c.field_len.ensures ∙ ap (position_or_len is_end) (rest_of c.as_bytes-bytes.result.now text start c.as_bytes-bytes.ensures.value) in
    let within : start + n ≤ length text = end_within text start n inv.within is in
    let more : start + n < length text = omega (arith, within, c.if-end-bytes.false, ap length c.as_bytes-bytes.ensures.value) in
    omega (arith, more)

pub loop-start-preserved : goal.loop-start-preserved
loop-start-preserved c =
    let text = c.args.text.now in
    let start = c.loop-start.start in
    let n = c.field_len.result in
    let inv = c.loop-start.invariant in
    let is : n ≡ position_or_len is_end (drop start text) = c.field_len.ensures ∙ ap (position_or_len is_end) (rest_of c.as_bytes-bytes.result.now text start c.as_bytes-bytes.ensures.value) in
    let within : start + n ≤ length text = end_within text start n inv.within is in
    let more : start + n < length text = omega (arith, within, c.if-end-bytes.false, ap length c.as_bytes-bytes.ensures.value) in
    let no : is_lf (get_or text (start + n) 0) ≡ false = not_lf (get_or text (start + n) 0) (subst (λ bs. get_or bs (start + n) 0 ≡ 10 → ⊥) c.as_bytes-bytes.ensures.value c.if-bytes-end-eq10.false) in
    let parts = texts_of c.loop-start.fields.items in
    let pushed : texts_of c.push.new.self.items ≡ texts_of c.loop-start.fields.items ++ slice_range text start (start + n) ∷ [] =
    ap texts_of c.in_ok-push.ensures.items ∙ map-append (λ (field : Text). field.now) c.loop-start.fields.items (c.range.result ∷ []) ∙ ap (λ l. texts_of c.loop-start.fields.items ++ l ∷ []) c.range.ensures.value in
    record {
      within = omega (arith, more);
      boundary = next_boundary text start n inv.within is parts inv.fields inv.place more no c.utf8.text;
      fields = ap (λ l. l ++ first_fields_of (drop (start + n + 1) text)) pushed ∙ next_fields text start n inv.within is parts inv.fields inv.place more no;
      place = next_place text start n inv.within is parts inv.fields inv.place more no;
    }
