use Rattle.std.proofs.Common.{List, ap, ◌∙◌}
use Rattle.jj_paths.specs.declared.repo_path.RepoPathComponent.{RepoPathComponent}
use Rattle.jj_matchers.specs.SortedVisits.{is_named}
use Rattle.jj_matchers.proofs.SortedNames.{named-insert}
use Rattle.jj_tree_files.proofs.changes.insert_name.Goals as goal

pub returns : goal.returns
returns c = λ other.
    ap (λ (l : List RepoPathComponent). is_named l other) c.in_ok-insert.ensures.keys ∙ named-insert c.args.names.now.keys c.args.name other
