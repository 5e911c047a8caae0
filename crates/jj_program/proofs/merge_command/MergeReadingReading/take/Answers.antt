use Rattle.std.proofs.Common.{◌∙◌, ◌%◌, ap, sym}
use Rattle.std.proofs.lemmas.List.{length-map}
use Rattle.jj_program.specs.Lines.{Text, texts_of}
use Rattle.jj_program.proofs.FormRows.{odd_terms}
use Rattle.jj_program.proofs.MergeRequests.{one_more}
use Rattle.jj_program.proofs.merge_command.MergeReadingReading.take.Goals as goal

pub returns : goal.returns
returns c = λ requests each.
    let (line, is, written) = c.in_ok-push_result.ensures in
    one_more requests (texts_of c.args.fields.now) c.in_ok-form.form c.in_ok-form._shape (texts_of c.in_ok-form.terms.now) c.args.self.now.output.items _ line
    each c.in_ok-form.ensures.parsed is written

pub push_result-requires : goal.push_result-requires
push_result-requires c =
    let terms = c.in_ok-form.terms.now in
    ap (λ n. n % 2) (sym (length-map terms (λ (text : Text). text.now)))
    ∙ odd_terms (texts_of c.args.fields.now) c.in_ok-form.form c.in_ok-form._shape (texts_of terms) c.in_ok-form.ensures.parsed
