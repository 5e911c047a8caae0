use Rattle.std.proofs.Common.{◌∙◌, length, refl}
use Rattle.std.proofs.lemmas.Option.{slice_get_read}
use Rattle.jj_sqlite.proofs.RowErrors.{more_numbers, more_rows, next_number, read_error}
use Rattle.jj_sqlite.proofs.sqlite_log.entries_from_rows.Goals as goal

pub loop-row-preserved : goal.loop-row-preserved
loop-row-preserved c = (
  rw c.in_ok-push-in-Ok.ensures.items (more_rows c.args.rows.now c.loop-row.entries.items c.loop-row.row-index c.row-item.result c.in-Ok.entry
      c.loop-row-test.true c.row-item.is c.loop-row.invariant.0 c.in-Ok.ensures.ok),
  more_numbers c.args.rows.now c.loop-row.row-index c.row-item.result c.loop-row-test.true c.row-item.is c.loop-row.invariant.1
      (next_number c.args.rows.now c.loop-row.row-index c.len.result c.row-item.result c.loop-row.entries.items c.loop-row-test.true c.loop-row.invariant.0
      (c.len.ensures ∙ c.loop-row.entries.ok.0) c.in-Ok.ensures.number),
)

pub returns-in-Err-clause-wrong : goal.returns-in-Err-clause-wrong
returns-in-Err-clause-wrong c =
    let at = slice_get_read c.args.rows.now (length c.args.rows.now) c.loop-row.row-index c.row-item.result refl c.loop-row-test.true c.row-item.is in
    read_error c.args.rows.now c.loop-row.row-index c.len.result c.row-item.result c.loop-row.entries.items c.in-Err.error c.loop-row-test.true at
    c.loop-row.invariant.0 c.loop-row.invariant.1 (c.len.ensures ∙ c.loop-row.entries.ok.0) c.in-Err.ensures.wrong
