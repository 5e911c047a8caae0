use Rattle.std.proofs.Common.{◌≡◌, ◌++◌, ap, sym, subst, ◌∙◌}
use Rattle.std.proofs.lemmas.List.{append_cancel_right}
use Rattle.jj_paths.specs.Paths.{Path, IsBelow, common_prefix, after_common}
use Rattle.jj_paths.specs.Names.{path_of}
use Rattle.jj_paths.proofs.CommonPrefix.{common_prefix-whole, common_prefix-other, common_prefix-longest}
use Rattle.jj_paths.proofs.repo_path.RepoPath.split_common_prefix.Goals as goal

pub without_suffix-requires : goal.without_suffix-requires
without_suffix-requires c =
    let ours = path_of c.args.self in
    let theirs = path_of c.args.other in
    (common_prefix ours theirs, common_prefix-whole ours theirs ∙ ap (λ p. common_prefix ours theirs ++ p) (sym c.after_common-rest.ensures))

front_is : (ours theirs prefix rest : Path) → rest ≡ after_common ours theirs → ours ≡ prefix ++ rest → common_prefix ours theirs ≡ prefix
front_is ours theirs prefix rest after is =
    append_cancel_right (common_prefix ours theirs) prefix rest (ap (λ p. common_prefix ours theirs ++ p) after ∙ sym (common_prefix-whole ours theirs) ∙ is)

pub returns-clause-common : goal.returns-clause-common
returns-clause-common c =
    subst (IsBelow (path_of c.args.other)) (front_is (path_of c.args.self) (path_of c.args.other) (path_of c.without_suffix.result) _ c.after_common-rest.ensures c.without_suffix.ensures)
    (common_prefix-other (path_of c.args.self) (path_of c.args.other))

pub returns-clause-longest : goal.returns-clause-longest
returns-clause-longest c = λ prefix a b.
    subst (λ p. IsBelow p prefix) (front_is (path_of c.args.self) (path_of c.args.other) (path_of c.without_suffix.result) _ c.after_common-rest.ensures c.without_suffix.ensures)
    (common_prefix-longest prefix (path_of c.args.self) (path_of c.args.other) a b)
