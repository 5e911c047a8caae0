use Rattle.std.proofs.Common.{rules, ◌≡◌, ◌++◌, [], subst}
use Rattle.std.proofs.lemmas.Result.{err_from_is_err_and}
use Rattle.jj_files.specs.Streams.{AppendsPrefixOf}
use Rattle.jj_log.specs.BufferedOutput.{WritesBuffered}
use Rattle.jj_log.proofs.BufferedOutput.{WritesBuffered-later, buffered_failed, buffered_piece, prefix_more}
use Rattle.jj_log.proofs.output.OutputBuffer.append.Goals as goal

pub returns-in_err-flush-clause-output : goal.returns-in_err-flush-clause-output
returns-in_err-flush-clause-output g c =
    let old = g.W.Sink.contents c.args.writer.now in
    let new = g.W.Sink.contents c.flush.new.writer in
    let kept : c.extend_from_slice.new.self.items ≡ c.args.self.now.pending.items = search rules in
    let p = err_from_is_err_and c.from_residual.result c.from_residual.ensures.1 in
    buffered_failed c.from_residual.result p.0 old new c.args.self.now.pending.items c.flush.new.self.pending.items c.args.piece.now p.1
    (subst (λ l. AppendsPrefixOf old new (l ++ c.args.piece.now)) kept (prefix_more old new c.extend_from_slice.new.self.items [] c.args.piece.now c.in_err-flush.ensures.output))

pub returns-then-is_err-clause-output : goal.returns-then-is_err-clause-output
returns-then-is_err-clause-output g c =
    let old = g.W.Sink.contents c.args.writer.now in
    let middle = g.W.Sink.contents c.flush.new.writer in
    let new = g.W.Sink.contents c.write_all.new.writer in
    let left = c.flush.new.self.pending.items in
    let piece = c.args.piece.now in
    let kept : c.extend_from_slice.new.self.items ≡ c.args.self.now.pending.items = search rules in
    subst (λ l. WritesBuffered c.write_all.result old new l left piece) kept
    (WritesBuffered-later old middle new c.extend_from_slice.new.self.items left [] piece c.in_ok-flush.ensures.output c.write_all.result left
    (buffered_piece c.write_all.result middle new left piece c.in_ok-flush.ensures.none_left c.write_all.ensures.ok c.write_all.ensures.prefix))
