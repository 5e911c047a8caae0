use Rattle.std.proofs.Common.{◌++◌}
use Rattle.jj_filter.proofs.ReportedLines.{four_parts, message_line, reported}
use Rattle.jj_filter.proofs.report.write_message.Goals as goal

pub returns-then-not-are_empty : goal.returns-then-not-are_empty
returns-then-not-are_empty g c =
    let (first, second, third, fourth) = c.args.parts in
    reported c.args.program.now (first.now ++ second.now ++ third.now ++ fourth.now) _ _ _ _
    (four_parts first.now second.now third.now fourth.now c.are_empty.result c.are_empty.ensures.1 c.if-not-are_empty.true) (message_line c.args.program.now first.now second.now third.now fourth.now) c.write_parts.ensures
