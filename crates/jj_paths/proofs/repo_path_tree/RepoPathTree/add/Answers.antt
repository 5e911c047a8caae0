use Rattle.std.proofs.Common.{refl}
use Rattle.jj_paths.specs.Names.{path_of}
use Rattle.jj_paths.proofs.ValueUpdates.{edited}
use Rattle.jj_paths.proofs.repo_path_tree.RepoPathTree.add.Goals as goal

pub returns : goal.returns
returns g c = (
  (refl, λ w ok. edited g.V.Default.is_default c.args.self.now c.extend.new.self (path_of c.args.path) c.node_mut.result.now w c.in_ok-extend.ensures.extended c.node_mut.ensures.value, tt),
  record {
    loan = tt;
    node = (c.extend.new.self, c.in_ok-extend.ensures.extended, c.node_mut.ensures.value);
  },
)
