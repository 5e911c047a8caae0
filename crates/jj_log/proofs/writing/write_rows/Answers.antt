use Rattle.std.proofs.Common.{[], append-nil, subst}
use Rattle.jj_log.specs.BufferedOutput.{WritesBuffered, AppendsBuffered}
use Rattle.jj_log.proofs.BufferedOutput.{WritesBuffered-later, buffered_all}
use Rattle.jj_log.proofs.writing.write_rows.Goals as goal

pub returns-clause-drawing : goal.returns-clause-drawing
returns-clause-drawing g c =
    let contents = g.W.Sink.contents in
    let old = contents c.args.writer.now in
    let middle = contents c.write_all_rows.new.writer in
    let new = contents c.flush.new.writer in
    let left = c.write_all_rows.new.buffer.pending.items in
    let so = c.in_ok-write_all_rows.ensures.output in
    let passed : AppendsBuffered old middle [] left so.0 = subst (λ l. AppendsBuffered old middle l left so.0) c.new-buffer.ensures so.2 in
    let whole : WritesBuffered c.flush.result old new [] [] so.0 =
    subst (λ l. WritesBuffered c.flush.result old new [] l so.0) c.flush.ensures.none_left
    (subst (WritesBuffered c.flush.result old new [] c.flush.new.self.pending.items) (append-nil so.0) (WritesBuffered-later old middle new [] left so.0 [] passed c.flush.result c.flush.new.self.pending.items c.flush.ensures.output)) in
    let all = buffered_all c.flush.result old new so.0 whole in
    (so.0, so.1, all.0, all.1)
