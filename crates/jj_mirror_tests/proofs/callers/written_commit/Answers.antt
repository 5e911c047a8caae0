use Rattle.std.proofs.Common.{◌≡◌, ◌⊎◌, ◌++◌, [], ◌∷◌, inl, inr, refl, subst}
use Rattle.jj_backend.specs.Objects.{commit_object}
use Rattle.jj_backend.specs.Records.{CommitValue}
use Rattle.jj_trees.specs.MemoryObjects.{objects_of}
use Rattle.jj_mirror.specs.Entries.{entry_of}
use Rattle.jj_mirror.specs.Objects.{HasObject}
use Rattle.jj_mirror_tests.proofs.LoggedFiles.{on_ok}
use Rattle.jj_mirror_tests.proofs.callers.written_commit.Goals as goal

pub returns-clause-logged : goal.returns-clause-logged
returns-clause-logged c =
    let old = c.args.store.now in
    let new = c.write_commit.new.self in
    on_ok c.read_commit.result
    (subst (λ (commit : CommitValue). (HasObject (objects_of old.backend) (commit_object commit) × (new.log ≡ old.log))
    ⊎ (¬ (HasObject (objects_of old.backend) (commit_object commit)) × (new.log ≡ old.log ++ entry_of (commit_object commit) ∷ []))) c.in_ok-stored.ensures.signed
    (elim c.in_ok-stored.ensures.logged.0 [
      | inl same ↦ inl same
      | inr lacks ↦ inr (lacks.0, lacks.1 old.log refl)
    ]))
