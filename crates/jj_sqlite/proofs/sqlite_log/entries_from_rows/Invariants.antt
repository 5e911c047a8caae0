use Rattle.std.proofs.Common.{take}
use Rattle.std.specs.List.{AllZip}
use Rattle.jj_sqlite.specs.Rows.{AreNumbered, IsGoodRow}
use Rattle.jj_sqlite.proofs.sqlite_log.entries_from_rows.Given as goal

abbrev pub invariant-loop-row : goal.invariant-loop-row
invariant-loop-row l = AllZip IsGoodRow (take l.row-index l.rows) l.entries.items × AreNumbered (take l.row-index l.rows)
