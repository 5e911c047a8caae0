use Rattle.jj_sqlite.proofs.sqlite_log.insert_entry.Goals as goal

pub returns-clause-runs : goal.returns-clause-runs
returns-clause-runs g c = rw (c.params-to_sql.ensures, c.params-to_sql-2.ensures, c.params-to_sql-3.ensures, c.name.ensures) at c.run.ensures.runs

pub returns-clause-survives : goal.returns-clause-survives
returns-clause-survives g c = rw (c.params-to_sql.ensures, c.params-to_sql-2.ensures, c.params-to_sql-3.ensures, c.name.ensures) at c.run.ensures.survives
