use Rattle.std.proofs.Common.{◌∙◌, sym}
use Rattle.jj_sqlite.proofs.Crashes.{kept_counting}
use Rattle.jj_sqlite.proofs.counts.check_count.Goals as goal

pub returns-then-shows_count-clause-kept : goal.returns-then-shows_count-clause-kept
returns-then-shows_count-clause-kept g c = λ entries had.
    kept_counting g.S.Store g.met.S.Store.settled c.args.conn.now c.select_counts.new.conn c.in_ok-rows.rows.items entries (sym c.is_counted.ensures ∙ c.if-not-is_counted.false)
    c.in_ok-rows.ensures.rows c.select_counts.ensures.survives had
