use Rattle.std.proofs.lemmas.Result.{err_from_is_err_and}
use Rattle.std.proofs.Common.{rules, ◌≡◌, ◌∙◌, ◌+◌, ◌++◌, ◌∷◌, [], take, ap, sym, subst}
use Rattle.std.proofs.lemmas.List.{take_more}
use Rattle.jj_files.specs.Streams.{AppendsPrefixOf}
use Rattle.jj_log.specs.Drawing.{styled_line_of_row}
use Rattle.jj_log.specs.Labels.{label_of}
use Rattle.jj_log.specs.BufferedOutput.{AppendsBuffered}
use Rattle.jj_log.proofs.BufferedOutput.{AppendsBuffered-later, buffered_failed}
use Rattle.jj_log.proofs.WrittenRows.{next_drawn, row_failed}
use Rattle.jj_log.proofs.writing.write_all_rows.Goals as goal

pub returns-in_err-write_row-clause-output : goal.returns-in_err-write_row-clause-output
returns-in_err-write_row-clause-output g c =
    let contents = g.W.Sink.contents in
    let rows = c.args.rows.now in
    let i = c.loop-row.row-index in
    let row = c.row-item.result in
    let label = label_of c.args.commits.now in
    let style = c.args.style in
    let old = contents c.args.writer.now in
    let middle = contents c.loop-row.writer in
    let new = contents c.write_row.new.writer in
    let before = c.args.buffer.now.pending.items in
    let left = c.loop-row.buffer.pending.items in
    let so = c.loop-row.invariant.passed in
    let next = c.in_err-write_row.ensures.output in
    let more : take (i + 1) rows ≡ take i rows ++ row ∷ [] = take_more rows i row c.loop-row-test.true ∙ ap (λ r. take i rows ++ r ∷ []) (sym c.row-item.is) in
    let prefix : AppendsPrefixOf middle new (left ++ (styled_line_of_row style row (label row.node) ++ next.0)) =
    subst (λ l. AppendsPrefixOf middle new (left ++ (styled_line_of_row style row l ++ next.0))) c.label_at.ensures next.1 in
    let failed = row_failed style label rows i row more old middle new before left so.0 next.0 so.2 so.1 prefix in
    let p = err_from_is_err_and c.from_residual.result c.from_residual.ensures.1 in
    (failed.0, failed.1.0, buffered_failed c.from_residual.result p.0 old new before c.write_row.new.buffer.pending.items failed.0 p.1 failed.1.1)

pub loop-row-preserved : goal.loop-row-preserved
loop-row-preserved g c =
    let contents = g.W.Sink.contents in
    let rows = c.args.rows.now in
    let i = c.loop-row.row-index in
    let row = c.row-item.result in
    let label = label_of c.args.commits.now in
    let style = c.args.style in
    let old = contents c.args.writer.now in
    let middle = contents c.loop-row.writer in
    let new = contents c.write_row.new.writer in
    let before = c.args.buffer.now.pending.items in
    let left = c.loop-row.buffer.pending.items in
    let after = c.write_row.new.buffer.pending.items in
    let so = c.loop-row.invariant.passed in
    let next = c.in_ok-write_row.ensures.output in
    let line = styled_line_of_row style row (label row.node) in
    let more : take (i + 1) rows ≡ take i rows ++ row ∷ [] = take_more rows i row c.loop-row-test.true ∙ ap (λ r. take i rows ++ r ∷ []) (sym c.row-item.is) in
    let passed : AppendsBuffered middle new left after (line ++ next.0) =
    subst (λ l. AppendsBuffered middle new left after (styled_line_of_row style row l ++ next.0)) c.label_at.ensures next.1 in
    record {
      passed = (
        so.0 ++ (line ++ next.0),
        next_drawn style label rows i row more old middle new before left so.0 next.0 so.2 so.1,
        AppendsBuffered-later old middle new before left so.0 (line ++ next.0) so.2 after passed,
      );
      works = search rules;
    }
