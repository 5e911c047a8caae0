use Rattle.jj_paths.specs.Names.{path_of}
use Rattle.jj_paths.proofs.NodesOnPath.{nodes_on-parts}
use Rattle.jj_paths.proofs.repo_path_tree.RepoPathNode.walk_to.Goals as goal

pub returns-clause-parts : goal.returns-clause-parts
returns-clause-parts g c = λ k d lt. nodes_on-parts c.args.self.now (path_of c.args.path) k d lt
