use Rattle.jj_paths.specs.Names.{path_of}
use Rattle.jj_paths.proofs.ValueUpdates.{edited-as_map_on_ok}
use Rattle.jj_paths.proofs.repo_path_tree.RepoPathNode.set.Goals as goal

pub returns-clause-as_map : goal.returns-clause-as_map
returns-clause-as_map g c = edited-as_map_on_ok g.V.Default.is_default c.args.self.now _ (path_of c.args.path) c.args.value c.swap_value.result c.swap_value.ensures.edited
