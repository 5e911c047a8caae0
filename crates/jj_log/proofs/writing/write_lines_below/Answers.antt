use Rattle.std.proofs.lemmas.Result.{err_from_is_err_and}
use Rattle.std.proofs.Common.{rules, ◌++◌}
use Rattle.jj_log.proofs.BufferedOutput.{AppendsBuffered-later, buffered_failed, prefix_later}
use Rattle.jj_log.proofs.writing.write_lines_below.Goals as goal

pub returns-in_err-write_line_below-clause-output : goal.returns-in_err-write_line_below-clause-output
returns-in_err-write_line_below-clause-output g c =
    let contents = g.W.Sink.contents in
    let old = c.args.buffer.now.pending.items in
    let so = c.loop-index.invariant.passed in
    let next = c.in_err-write_line_below.ensures.output in
    let p = err_from_is_err_and c.from_residual.result c.from_residual.ensures.1 in (
      so.0 ++ next.0,
      buffered_failed c.from_residual.result p.0 (contents c.args.writer.now) (contents c.write_line_below.new.writer) old c.write_line_below.new.buffer.pending.items (so.0 ++ next.0) p.1
          (prefix_later (contents c.args.writer.now) (contents c.loop-index.writer) (contents c.write_line_below.new.writer) old c.loop-index.buffer.pending.items so.0 next.0 so.1 next.1),
    )

pub loop-index-preserved : goal.loop-index-preserved
loop-index-preserved g c =
    let contents = g.W.Sink.contents in
    let so = c.loop-index.invariant.passed in
    let next = c.in_ok-write_line_below.ensures.output in
    record {
      passed = (
        so.0 ++ next.0,
        AppendsBuffered-later (contents c.args.writer.now) (contents c.loop-index.writer) (contents c.write_line_below.new.writer) c.args.buffer.now.pending.items c.loop-index.buffer.pending.items so.0 next.0 so.1 c.write_line_below.new.buffer.pending.items next.1,
      );
      works = search rules;
    }
