use Rattle.std.proofs.Common.{rules, ◌≡◌, ◌≤◌, true, false, length, get_or, arith, subst, ⊎_elim}
use Rattle.std.proofs.lemmas.Bool.{cases_lt}
use Rattle.jj_program.proofs.LineFields.{ends_at, is_end, lf_ends, not_end, tab_ends}
use Rattle.jj_program.proofs.lines.field_len.Goals as goal
use Rattle.jj_program.proofs.lines.field_len.Goals.{then-bytes-index-eq9-via-then-bytes-index-eq9, then-bytes-index-eq9-via-else-bytes-index-eq9+then-bytes-index-eq10}

pub loop-index-init : goal.loop-index-init
loop-index-init c = λ k less. absurd (omega (arith, less))

pub returns-then-bytes-index-eq9 : goal.returns-then-bytes-index-eq9
returns-then-bytes-index-eq9 c =
    let x = get_or c.args.bytes.now c.loop-index.index 0 in
    let ends : is_end x ≡ true = elim c.then-bytes-index-eq9.branch [
      | then-bytes-index-eq9-via-then-bytes-index-eq9 w ↦ tab_ends x w.if-bytes-index-eq9.true
      | then-bytes-index-eq9-via-else-bytes-index-eq9+then-bytes-index-eq10 w ↦ lf_ends x w.if-bytes-index-eq10.true
    ] in
    let within : c.loop-index.index ≤ length c.args.bytes.now = search rules in
    ends_at c.args.bytes.now c.loop-index.index within c.loop-index.invariant (λ h. ends)

pub loop-index-preserved : goal.loop-index-preserved
loop-index-preserved c = λ k less.
    let i = c.loop-index.index in
    let here = not_end (get_or c.args.bytes.now i 0) c.if-bytes-index-eq9.false c.if-bytes-index-eq10.false in
    ⊎_elim (c.loop-index.invariant k)
    (λ least. let same : i ≡ k = omega (arith, least, less) in subst (λ j. is_end (get_or c.args.bytes.now j 0) ≡ false) same here)
    (cases_lt k i)

pub field_len_from-requires-clause-none : goal.field_len_from-requires-clause-none
field_len_from-requires-clause-none c = λ k less. absurd (omega (arith, less))

pub field_len_from-requires-2-clause-none : goal.field_len_from-requires-2-clause-none
field_len_from-requires-2-clause-none c = λ k less.
    let all : 16 ≤ c.loop-index.index = search rules in
    c.loop-index.invariant k (omega (arith, less, all))
