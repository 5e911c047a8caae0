use Rattle.std.proofs.Common.{◌≡◌, refl, lit<, MatchOption, string_bytes}
use Rattle.jj_log.specs.InputLines.{EndsInReturn, IsCutAt, Lacks}
use Rattle.jj_log.proofs.ReadLines.{bad_line, cut_at, uncut, commit_line}
use Rattle.jj_log.specs.declared.fault.LineFault.TheVariants.{MissingParents, BadName}
use Rattle.jj_log.proofs.input.parse_line.Goals as goal
use Rattle.jj_log.proofs.input.parse_line.Goals.{in-Some-split_once+in_ok-from_str-in-Some-split_once, in-None}

pub returns-in_default-clause-error : goal.returns-in_default-clause-error
returns-in_default-clause-error c = bad_line c.args.number c.args.line.now MissingParents (uncut 9 c.args.line.now c.split_once.result (lit< tt) c.split_once.ensures.cases c.in_default.is) c.fault_at-in_default.result c.fault_at-in_default.ensures

pub returns-then-not-is_name-clause-error : goal.returns-then-not-is_name-clause-error
returns-then-not-is_name-clause-error c =
    let cut = cut_at 9 c.args.line.now c.split_once.result (c.in-Some.name, c.in-Some.fields) (lit< tt) c.split_once.ensures.cases c.in-Some.is in
    bad_line c.args.number c.args.line.now BadName (c.in-Some.name.now, c.in-Some.fields.now, cut, λ name. let good = c.is_name.ensures.1 name in let bad = c.if-not-is_name.true in absurd cc) c.fault_at-then-not-is_name.result c.fault_at-then-not-is_name.ensures

pub returns-clause-commit : goal.returns-clause-commit
returns-clause-commit c =
    let fields = c.in-Some.fields.now in
    let label = c.match-split_once-2.label in
    let cut = cut_at 9 c.args.line.now c.split_once.result (c.in-Some.name, c.in-Some.fields) (lit< tt) c.split_once.ensures.cases c.in-Some.is in
    let good = c.is_name.ensures.0 c.if-not-is_name.false in
    let labelled : MatchOption label.1 ((label.0.now ≡ fields) × Lacks 9 fields) (λ l. IsCutAt 9 fields label.0.now (string_bytes l)) =
    elim c.match-split_once-2.branch [
      | in-Some-split_once+in_ok-from_str-in-Some-split_once w ↦
          rw (w.label-is, w.in_ok-from_str-in-Some-split_once.ensures.ok)
          (cut_at 9 fields c.split_once-2.result (w.in-Some-split_once.field, w.in-Some-split_once.label) (lit< tt) c.split_once-2.ensures.cases w.in-Some-split_once.is)
      | in-None w ↦ rw w.label-is (refl, uncut 9 fields c.split_once-2.result (lit< tt) c.split_once-2.ensures.cases w.in-None.is)
    ] in
    let unended : EndsInReturn c.args.line.now → ⊥ = λ ended. let yes = c.ends_in_return.ensures.1 ended in let no = c.if-ends_in_return.false in absurd cc in
    commit_line c.args.line.now c.in-Some.name.now fields label.0.now c.in_ok-from_str.field-0 c.in_ok-parse_parents.field-0 label.1 unended cut good c.in_ok-from_str.ensures.ok c.in_ok-parse_parents.ensures labelled
