use Rattle.jj_strings.proofs.LineSplitting.{feed_off, feed_kept}
use Rattle.jj_strings.proofs.str_util.match_lines.strip_line_feed.Goals as goal

pub returns-then-last-eq10 : goal.returns-then-last-eq10
returns-then-last-eq10 c =
    feed_off c.args.line.now c.in-Some.prefix.now c.in-Some.last.now c.in-Some.ensures.cases.0 c.if-last-eq10.true

pub returns-else-last-eq10 : goal.returns-else-last-eq10
returns-else-last-eq10 c =
    feed_kept c.args.line.now c.in-Some.prefix.now c.in-Some.last.now c.in-Some.ensures.cases.0 c.if-last-eq10.false
