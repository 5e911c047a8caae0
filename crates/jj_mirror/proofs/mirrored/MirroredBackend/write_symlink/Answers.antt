use Rattle.std.proofs.Common.{◌∙◌, inr, sym, ap, subst}
use Rattle.std.proofs.lemmas.Result.{IfErr-weaker, IfOk-weaker}
use Rattle.jj_content.specs.Content.{string_content}
use Rattle.jj_backend.specs.Objects.{symlink_object}
use Rattle.jj_trees.specs.MemoryObjects.{MemoryBackendValue, objects_of}
use Rattle.jj_mirror.specs.Objects.{IsDigestTaken}
use Rattle.jj_mirror.proofs.FreeDigests.{symlink_memory}
use Rattle.jj_mirror.proofs.WholeDigests.{whole_digest}
use Rattle.jj_mirror.proofs.mirrored.MirroredBackend.write_symlink.Goals as goal

pub returns-clause-id : goal.returns-clause-id
returns-clause-id g c =
    let backend = c.log_symlink.new.self.backend in
    let whole = ap (λ (b : MemoryBackendValue). b.id_length) c.in_ok-log_symlink.ensures.backend ∙ c.args.self.now.whole in
    IfOk-weaker c.write_symlink.result _ _ (λ id is. is ∙ whole_digest (string_content c.args.target.now) backend.id_length whole) c.write_symlink.ensures.id

pub returns-clause-error : goal.returns-clause-error
returns-clause-error g c =
    let backend = c.log_symlink.new.self.backend in
    let same = c.in_ok-log_symlink.ensures.backend in
    let whole = ap (λ (b : MemoryBackendValue). b.id_length) same ∙ c.args.self.now.whole in
    let free = subst (λ (b : MemoryBackendValue). ¬ (IsDigestTaken (objects_of b) (symlink_object c.args.target.now))) (sym same) c.in_ok-log_symlink.ensures.ok.1.2 in
    IfErr-weaker c.write_symlink.result _ _ (λ e failed. inr (c.in_ok-log_symlink.ensures.ok, symlink_memory backend c.args.target.now e whole free failed)) c.write_symlink.ensures.error
