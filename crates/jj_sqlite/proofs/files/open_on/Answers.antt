use Rattle.jj_sqlite.proofs.files.open_on.Goals as goal

pub returns-in-Ok-clause-ok : goal.returns-in-Ok-clause-ok
returns-in-Ok-clause-ok g c = λ opened. (
  c.args.conn,
  opened,
  record {
    opened = c.in-Ok.ensures.ok;
    entries = c.in-Ok.ensures.entries;
    damaged = c.in-Ok.ensures.damaged;
    counted = c.in-Ok.ensures.counted;
    kept = c.in-Ok.ensures.kept;
    own = c.in-Ok.ensures.own;
  },
)

pub returns-in-Err-clause-error : goal.returns-in-Err-clause-error
returns-in-Err-clause-error g c = λ opened. (c.args.conn, c.in-Err.error.1, opened, c.in-Err.ensures.error)
