use Rattle.std.proofs.Common.{◌∙◌, inr, sym, ap, subst}
use Rattle.std.proofs.lemmas.Result.{IfErr-weaker, IfOk-weaker}
use Rattle.jj_backend.specs.Contents.{commit_content}
use Rattle.jj_backend.specs.Objects.{commit_object}
use Rattle.jj_backend.specs.Records.{CommitValue}
use Rattle.jj_trees.specs.MemoryObjects.{MemoryBackendValue, object_id, objects_of}
use Rattle.jj_mirror.specs.Objects.{IsDigestTaken}
use Rattle.jj_mirror.proofs.FreeDigests.{IfOk-with, commit_failed}
use Rattle.jj_mirror.proofs.WholeDigests.{whole_digest}
use Rattle.jj_mirror.proofs.mirrored.Mirrored.write_stored.Goals as goal

pub returns-clause-id : goal.returns-clause-id
returns-clause-id g c =
    let backend = c.log_commit.new.self.backend in
    let whole = ap (λ (b : MemoryBackendValue). b.id_length) c.in_ok-log_commit.ensures.backend ∙ c.args.self.now.whole in
    IfOk-with c.write_commit.result _ _ _ (λ stored is signed.
    is ∙ ap (λ (v : CommitValue). object_id backend.id_length (commit_content v)) signed ∙ whole_digest (commit_content c.args.commit) backend.id_length whole) c.write_commit.ensures.id c.write_commit.ensures.signed

pub returns-clause-logged : goal.returns-clause-logged
returns-clause-logged g c =
    IfOk-weaker c.write_commit.result _ _ (λ stored signed. rw signed c.in_ok-log_commit.ensures.ok) c.write_commit.ensures.signed

pub returns-clause-error : goal.returns-clause-error
returns-clause-error g c =
    let backend = c.log_commit.new.self.backend in
    let same = c.in_ok-log_commit.ensures.backend in
    let whole = ap (λ (b : MemoryBackendValue). b.id_length) same ∙ c.args.self.now.whole in
    let free = subst (λ (b : MemoryBackendValue). ¬ (IsDigestTaken (objects_of b) (commit_object c.args.commit))) (sym same) c.in_ok-log_commit.ensures.ok.1.2 in
    IfErr-weaker c.write_commit.result _ _ (λ e failed. inr (c.in_ok-log_commit.ensures.ok, commit_failed backend c.args.commit e whole c.requires free failed)) c.write_commit.ensures.error
