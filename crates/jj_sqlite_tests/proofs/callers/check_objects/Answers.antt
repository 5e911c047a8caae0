use Rattle.std.proofs.Common.{refl, sym, subst}
use Rattle.std.proofs.lemmas.List.Elements.{All-weaker}
use Rattle.jj_backend.specs.Objects.{Object, file_object, symlink_object, copy_object, tree_object, commit_object, Objects}
use Rattle.jj_mirror.specs.Entries.{LogEntryValue, entry_of}
use Rattle.jj_mirror.specs.Replays.{IsStored}
use Rattle.jj_trees.specs.MemoryObjects.{objects_of}
use Rattle.jj_sqlite.specs.Rows.{HasDigest}
use Rattle.jj_sqlite.proofs.Faults.{has_fault, has_reason}
use Rattle.jj_sqlite_tests.proofs.callers.check_objects.Goals as goal

entry_has_digest : (object : Object) → HasDigest (entry_of object)
entry_has_digest (file_object contents) = refl
entry_has_digest (symlink_object target) = refl
entry_has_digest (copy_object history) = refl
entry_has_digest (tree_object entries) = refl
entry_has_digest (commit_object commit) = refl

stored_has_digest : (objects : Objects) (entry : LogEntryValue) → IsStored objects entry → HasDigest entry
stored_has_digest objects entry stored = subst HasDigest (sym stored.3) (entry_has_digest stored.0)

pub returns-in-Ok-clause-ok : goal.returns-in-Ok-clause-ok
returns-in-Ok-clause-ok g c = rw (c.into_connection.ensures, c.into_parts-log.ensures) (λ clean entries was_new.
    let objects = objects_of c.in-Ok.store.backend in
    All-weaker (IsStored objects) HasDigest (stored_has_digest objects) entries (c.in-Ok.ensures.entries clean entries was_new).stored)

pub returns-in-Err-clause-error : goal.returns-in-Err-clause-error
returns-in-Err-clause-error g c = λ before after entries was_new.
    has_fault g.S.Store c.args.conn c.in-Err.conn entries c.in-Err.error before was_new (c.in-Err.ensures.error after)

pub returns-in-Err-clause-reason : goal.returns-in-Err-clause-reason
returns-in-Err-clause-reason g c = λ before after entries was_new.
    has_reason g.S.Store _ _ _ c.args.conn c.in-Err.conn entries c.in-Err.error before was_new (c.in-Err.ensures.cause after)
