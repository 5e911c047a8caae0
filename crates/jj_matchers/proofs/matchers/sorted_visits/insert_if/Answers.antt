use Rattle.std.proofs.Common.{List, ap, ◌∙◌}
use Rattle.std.specs.Str.{bytes_eq}
use Rattle.jj_paths.specs.Names.{name_of}
use Rattle.jj_paths.specs.declared.repo_path.RepoPathComponent.{RepoPathComponent}
use Rattle.jj_matchers.specs.SortedVisits.{is_named}
use Rattle.jj_matchers.proofs.SortedNames.{named-insert, or_if}
use Rattle.jj_matchers.proofs.matchers.sorted_visits.insert_if.Goals as goal

pub returns-in_ok-insert : goal.returns-in_ok-insert
returns-in_ok-insert c = λ other.
    let keys = c.args.names.now.keys in
    ap (λ (l : List RepoPathComponent). is_named l other) c.in_ok-insert.ensures.keys
    ∙ named-insert keys c.args.name other
    ∙ or_if (bytes_eq other (name_of c.args.name)) (is_named keys other) c.args.condition c.if-condition.true
