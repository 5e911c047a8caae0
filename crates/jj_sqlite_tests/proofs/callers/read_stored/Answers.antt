use Rattle.std.proofs.Common.{◌≡◌, Some, subst}
use Rattle.jj_trees.specs.MemoryObjects.{MemoryBackendValue, objects_of}
use Rattle.jj_mirror_tests.proofs.ReadBack.{read_back}
use Rattle.jj_sqlite_tests.proofs.callers.read_stored.Goals as goal

pub returns-in-Ok-read_commit-clause-value : goal.returns-in-Ok-read_commit-clause-value
returns-in-Ok-read_commit-clause-value g c =
    let found = subst (λ (parts : MemoryBackendValue × _). (objects_of parts.0).commits c.args.id.now ≡ Some c.in-Ok-read_commit.commit) c.into_parts-backend.ensures c.in-Ok-read_commit.ensures.read in
    rw (c.into_connection.ensures, c.into_parts-backend.ensures) (λ clean entries was_new.
    read_back entries c.in-Ok.store.backend c.args.id.now c.in-Ok-read_commit.commit (c.in-Ok.ensures.entries clean entries was_new) found)

pub returns-in-Ok-read_commit-clause-found : goal.returns-in-Ok-read_commit-clause-found
returns-in-Ok-read_commit-clause-found g c =
    let found = subst (λ (parts : MemoryBackendValue × _). (objects_of parts.0).commits c.args.id.now ≡ Some c.in-Ok-read_commit.commit) c.into_parts-backend.ensures c.in-Ok-read_commit.ensures.read in
    rw (c.into_connection.ensures, c.into_parts-backend.ensures) (λ clean. (c.in-Ok.store.backend, c.in-Ok.ensures.ok clean, found))

pub returns-in-Ok-read_commit-clause-clean : goal.returns-in-Ok-read_commit-clause-clean
returns-in-Ok-read_commit-clause-clean g c = rw (c.into_connection.ensures, c.into_parts-backend.ensures) c.in-Ok.ensures.clean
