use Rattle.std.proofs.Common.{sym, ap, refl}
use Rattle.jj_paths.specs.Tree.{put_below}
use Rattle.jj_paths.proofs.ChildUpdates.{step-value, step-lifted}
use Rattle.jj_paths.proofs.repo_path_tree.RepoPathNode.step_mut.Goals as goal

pub returns : goal.returns
returns g c = (
  (refl, λ w. ap (λ p. put_below c.args.self.now p w) (sym c.in-Some.ensures)),
  record {
    writes_back = tt;
    value = (step-value c.args.self.now c.child_mut.result.now _ _ _ c.in-Some.ensures c.child_mut.ensures.value, λ w. step-lifted c.args.self.now c.child_mut.result.now _ _ _ w c.in-Some.ensures c.child_mut.ensures.value);
  },
)
