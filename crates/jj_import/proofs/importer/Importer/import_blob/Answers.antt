use Rattle.std.proofs.Common.{◌∙◌, Some, ap, refl}
use Rattle.jj_import.specs.AppliedChanges.{table_of}
use Rattle.jj_import.specs.ImportStates.{ImportState, state_of, with_blob}
use Rattle.jj_import.proofs.States.{same_state}
use Rattle.jj_import.proofs.importer.Importer.import_blob.Goals as goal

pub returns-clause-imported : goal.returns-clause-imported
returns-clause-imported g c = λ objects extended.
    let old = state_of c.args.self.now in
    let new : ImportState = record { marks = table_of c.set.new.self; stream_refs = old.stream_refs; names = old.names } in (
      c.in_ok-check_new.ensures,
      (
        c.in_ok-id.id,
        extended.files c.in_ok-id.id c.deref.result.now c.in_ok-id.ensures.file ∙ ap Some c.deref.ensures.value,
        same_state (with_blob old c.args.blob.now.mark c.in_ok-id.id) new (record { marks = c.in_ok-set.ensures.set; stream_refs = λ name. refl; refs = λ name. refl; git_ids = λ name. refl }),
      ),
    )
