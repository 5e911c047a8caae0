use Rattle.sqlite.specs.Files.{file_state}
use Rattle.std.proofs.Math.Logic.{∥∥₁_map}
use Rattle.sqlite.proofs.Callers.{finds_again}
use Rattle.jj_sqlite.proofs.LogTable.{logged}
use Rattle.jj_sqlite.proofs.Reopened.{entries_again}
use Rattle.jj_sqlite.proofs.store.close_database.Goals as goal

pub returns-in-Ok-clause-entries : goal.returns-in-Ok-clause-entries
returns-in-Ok-clause-entries g c = λ entries has conn clean found opened again is_open.
    let copied = c.in-Ok.ensures.copied found.honest in
    entries_again (file_state c.args.conn) (file_state conn) entries c.schema-schema.ensures.live copied.was_open
    (has copied.was_clean copied.was_open) opened.0 opened.1 (finds_again c.args.conn conn c.in-Ok.files c.in-Ok.ensures.copied found)

pub returns-in-Ok-clause-crash : goal.returns-in-Ok-clause-crash
returns-in-Ok-clause-crash g c = λ entries has clean image left.
    let copied = c.in-Ok.ensures.copied clean in
    let log = logged (file_state c.args.conn) entries (has copied.was_clean copied.was_open) (c.schema-schema.ensures.live copied.was_open).0 in
    ∥∥₁_map (copied.left image left).both (λ holds. ((file_state c.args.conn).committed.trees, holds, log))

pub returns-in-Ok-clause-backup : goal.returns-in-Ok-clause-backup
returns-in-Ok-clause-backup g c = λ entries has.
    record {
      now = λ clean.
          let copied = c.in-Ok.ensures.copied clean in
          let log = logged (file_state c.args.conn) entries (has copied.was_clean copied.was_open) (c.schema-schema.ensures.live copied.was_open).0 in
          ∥∥₁_map copied.seen.alone (λ holds. ((file_state c.args.conn).committed.trees, holds, log));
      crash = λ clean image left.
          let copied = c.in-Ok.ensures.copied clean in
          let log = logged (file_state c.args.conn) entries (has copied.was_clean copied.was_open) (c.schema-schema.ensures.live copied.was_open).0 in
          ∥∥₁_map (copied.left image left).alone (λ holds. ((file_state c.args.conn).committed.trees, holds, log));
    }
