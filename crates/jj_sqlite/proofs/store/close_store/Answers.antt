use Rattle.jj_sqlite.proofs.store.close_store.Goals as goal

pub returns-clause-entries : goal.returns-clause-entries
returns-clause-entries g c = rw (c.into_connection.ensures, c.into_parts-log.ensures) at c.close_database.ensures.entries

pub returns-clause-crash : goal.returns-clause-crash
returns-clause-crash g c = rw (c.into_connection.ensures, c.into_parts-log.ensures) at c.close_database.ensures.crash

pub returns-clause-backup : goal.returns-clause-backup
returns-clause-backup g c = rw (c.into_connection.ensures, c.into_parts-log.ensures) at c.close_database.ensures.backup
