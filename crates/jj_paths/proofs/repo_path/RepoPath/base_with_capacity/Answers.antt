use Rattle.std.proofs.Common.{◌∙◌, ap}
use Rattle.std.specs.Path.{path_join}
use Rattle.jj_files.proofs.PathJoiningLemmas.{path_join-empty}
use Rattle.jj_paths.proofs.repo_path.RepoPath.base_with_capacity.Goals as goal

pub returns : goal.returns
returns c =
    c.in_ok-push.ensures.ok ∙ ap (λ start. path_join start c.args.base.now) c.in_ok-path.ensures.path ∙ path_join-empty c.args.base.now
