use Rattle.std.proofs.Common.{◌∙◌, ap, sym}
use Rattle.jj_paths.specs.Names.{path_of}
use Rattle.jj_tree_builder.specs.Changes.{changed, files_at, put}
use Rattle.jj_tree_builder.specs.PendingChanges.{pending_files}
use Rattle.jj_tree_builder.proofs.ChangedFiles.{changed-append, put-cong}
use Rattle.jj_tree_builder.proofs.tree_builder.collect.Goals as goal

pub loop-path-preserved : goal.loop-path-preserved
loop-path-preserved c = record {
  files = λ trees place.
      c.in_ok-push.ensures.files trees place
      ∙ put-cong trees (path_of c.as_path.result) c.in-Some.value (pending_files trees c.loop-path.pending) (changed trees c.loop-path.yielded (files_at trees c.args.base)) (c.loop-path.invariant.files trees) place
      ∙ ap (λ p. put trees p c.in-Some.value (changed trees c.loop-path.yielded (files_at trees c.args.base)) place) c.as_path.ensures
      ∙ sym (changed-append trees c.loop-path.yielded (c.in-Some.path, c.in-Some.value) (files_at trees c.args.base) place);
  open_below = c.in_ok-push.ensures.open;
}
