use Rattle.std.proofs.Common.{◌∙◌, sym, ap, subst}
use Rattle.std.specs.List.{find}
use Rattle.jj_paths.specs.RelativePaths.{is_disallowed, IsParseError}
use Rattle.jj_paths.proofs.FsComponents.{relative-names, relative-root, relative-dot, relative-dot-name}
use Rattle.jj_paths.proofs.repo_path.RepoPathBuf.from_relative_path.Goals as goal

pub returns-then-is_absolute-clause-error : goal.returns-then-is_absolute-clause-error
returns-then-is_absolute-clause-error c =
    let found = relative-root c.args.path.now (sym c.if-is_absolute.ensures) in
    subst (λ r. IsParseError c.args.path.now r c.for_component.result) (sym found) c.for_component.ensures

pub returns-then-not-starts_at_dot-clause-ok : goal.returns-then-not-starts_at_dot-clause-ok
returns-then-not-starts_at_dot-clause-ok c =
    let same = relative-names c.args.path.now (sym c.if-is_absolute.ensures) (sym c.if-not-starts_at_dot.ensures) in
    rw same c.join_components.ensures.ok

pub returns-then-not-starts_at_dot-clause-error : goal.returns-then-not-starts_at_dot-clause-error
returns-then-not-starts_at_dot-clause-error c =
    let same = relative-names c.args.path.now (sym c.if-is_absolute.ensures) (sym c.if-not-starts_at_dot.ensures) in
    rw same c.join_components.ensures.error

pub returns-in-None-clause-ok : goal.returns-in-None-clause-ok
returns-in-None-clause-ok c =
    let none = relative-dot c.args.path.now (sym c.if-is_absolute.ensures) (sym c.if-not-starts_at_dot.ensures) c.in-None.ensures.steps.0 in
    (c.root.ensures ∙ sym none, ap (find is_disallowed) none)

pub returns-in-Some-clause-error : goal.returns-in-Some-clause-error
returns-in-Some-clause-error c =
    let found = relative-dot-name c.args.path.now _ _ (sym c.if-is_absolute.ensures) (sym c.if-not-starts_at_dot.ensures) c.in-Some.ensures.steps in
    subst (λ r. IsParseError c.args.path.now r c.for_component-in-Some.result) (sym found) c.for_component-in-Some.ensures
