use Rattle.std.proofs.Common.{◌≡◌, ◌++◌, ℕ, List, Some, None, subst, sym}
use Rattle.std.specs.Prelude.{OnOk}
use Rattle.std.proofs.lemmas.Result.{IfOk-weaker}
use Rattle.jj_program.specs.Lines.{texts_of}
use Rattle.jj_program.specs.MergeCommand.{IsMergeLine, outcome_line}
use Rattle.jj_program.specs.MergeViews.{IsTextOutcome}
use Rattle.jj_program.proofs.TextMerges.{line_of_outcome}
use Rattle.jj_program.proofs.merge_command.push_result.Goals as goal

pub returns-in-Simplify : goal.returns-in-Simplify
returns-in-Simplify c =
    let old = c.args.output.now.items in
    let result = c.push_simplified.result in
    let new = c.push_simplified.new.output.items in
    subst (λ form. OnOk result ((answer : List ℕ) × IsMergeLine (form, texts_of c.args.terms.now) answer × (new ≡ old ++ answer)))
    (sym c.in-Simplify.is) c.push_simplified.ensures

pub returns-in-Some : goal.returns-in-Some
returns-in-Some c =
    let old = c.args.output.now.items in
    let line = outcome_line (Some c.in-Some.term.now) in
    let answered = line_of_outcome c.args.form c.in-Resolve.same_change c.args.terms.now
    (Some c.in-Some.term) c.in-Resolve.is
    (subst (IsTextOutcome c.in-Resolve.same_change c.args.terms.now) c.in-Some.is c.in_ok-found-in-Resolve.ensures) in
    IfOk-weaker c.push_line.result (λ _. c.push_line.new.output.items ≡ old ++ line)
    (λ _. (answer : List ℕ) × IsMergeLine (c.args.form, texts_of c.args.terms.now) answer × (c.push_line.new.output.items ≡ old ++ answer))
    (λ done written. (line, answered, written)) c.push_line.ensures

pub returns-in-None : goal.returns-in-None
returns-in-None c =
    let old = c.args.output.now.items in
    let line = outcome_line None in
    let answered = line_of_outcome c.args.form c.in-Resolve.same_change c.args.terms.now None
    c.in-Resolve.is
    (subst (IsTextOutcome c.in-Resolve.same_change c.args.terms.now) c.in-None.is c.in_ok-found-in-Resolve.ensures) in
    IfOk-weaker c.push_line-in-None.result (λ _. c.push_line-in-None.new.output.items ≡ old ++ line)
    (λ _. (answer : List ℕ) × IsMergeLine (c.args.form, texts_of c.args.terms.now) answer × (c.push_line-in-None.new.output.items ≡ old ++ answer))
    (λ done written. (line, answered, written)) c.push_line-in-None.ensures
