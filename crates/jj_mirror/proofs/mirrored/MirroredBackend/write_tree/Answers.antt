use Rattle.std.proofs.Common.{◌∙◌, inr, sym, ap, subst}
use Rattle.std.proofs.lemmas.Result.{IfErr-weaker, IfOk-weaker}
use Rattle.jj_backend.specs.TreeLaws.{tree_content}
use Rattle.jj_backend.specs.Objects.{tree_object}
use Rattle.jj_trees.specs.MemoryObjects.{MemoryBackendValue, objects_of}
use Rattle.jj_mirror.specs.Objects.{IsDigestTaken}
use Rattle.jj_mirror.proofs.FreeDigests.{tree_memory}
use Rattle.jj_mirror.proofs.WholeDigests.{whole_digest}
use Rattle.jj_mirror.proofs.mirrored.MirroredBackend.write_tree.Goals as goal

pub returns-clause-id : goal.returns-clause-id
returns-clause-id g c =
    let backend = c.log_tree.new.self.backend in
    let whole = ap (λ (b : MemoryBackendValue). b.id_length) c.in_ok-log_tree.ensures.backend ∙ c.args.self.now.whole in
    IfOk-weaker c.write_tree.result _ _ (λ id is. is ∙ whole_digest (tree_content c.args.contents.now) backend.id_length whole) c.write_tree.ensures.id

pub returns-clause-error : goal.returns-clause-error
returns-clause-error g c =
    let backend = c.log_tree.new.self.backend in
    let same = c.in_ok-log_tree.ensures.backend in
    let whole = ap (λ (b : MemoryBackendValue). b.id_length) same ∙ c.args.self.now.whole in
    let free = subst (λ (b : MemoryBackendValue). ¬ (IsDigestTaken (objects_of b) (tree_object c.args.contents.now))) (sym same) c.in_ok-log_tree.ensures.ok.1.2 in
    IfErr-weaker c.write_tree.result _ _ (λ e failed. inr (c.in_ok-log_tree.ensures.ok, tree_memory backend c.args.contents.now e whole free failed)) c.write_tree.ensures.error
