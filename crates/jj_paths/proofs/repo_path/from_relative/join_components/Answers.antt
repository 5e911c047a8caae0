use Rattle.std.proofs.Common.{◌≡◌, [], ◌∷◌, ◌∙◌, sym, ap, subst, refl, true, false, not, Some, string_bytes}
use Rattle.std.specs.List.{find}
use Rattle.std.specs.Str.{bytes_eq, is_utf8}
use Rattle.std.specs.Path.{path_names}
use Rattle.std.proofs.lemmas.Bool.{false_from_ne_true}
use Rattle.std.proofs.lemmas.Str.{IsUtf8-from_is_utf8, is_utf8-from_IsUtf8}
use Rattle.jj_paths.specs.FsComponents.{remaining_names}
use Rattle.jj_paths.specs.RelativePaths.{is_disallowed, IsParseError}
use Rattle.jj_paths.specs.AppendedNames.{append_name, append_names}
use Rattle.jj_paths.proofs.FsComponents.{disallowed-not_utf8, names-valid}
use Rattle.jj_paths.proofs.AppendedNames.{extended_text}
use Rattle.jj_paths.proofs.repo_path.from_relative.join_components.Goals as goal

pub returns-in_default-clause-error : goal.returns-in_default-clause-error
returns-in_default-clause-error c =
    let name = c.in-Some.name.now in
    let utf8 : is_utf8 name ≡ false = false_from_ne_true (is_utf8 name) (λ h. c.in_default.ensures.cases.0 (IsUtf8-from_is_utf8 name h)) in
    let is = disallowed-not_utf8 c.loop-name.name-iterator.rest.now name _ c.in-Some.ensures.steps (c.if-eq.ensures ∙ ap (bytes_eq name) c.as_slice.ensures) in
    let disallowed : is_disallowed name ≡ true = is ∙ ap not utf8 in
    let first : find is_disallowed (name ∷ remaining_names c.next.new.self) ≡ Some name = rw disallowed refl in
    let found : find is_disallowed (path_names c.args.path.now) ≡ Some name = sym c.loop-name.invariant.1 ∙ ap (find is_disallowed) c.in-Some.ensures.steps ∙ first in
    subst (λ r. IsParseError c.args.path.now r c.not_utf8.result) (sym found) (c.not_utf8.ensures name utf8)

pub loop-name-preserved : goal.loop-name-preserved
loop-name-preserved c =
    let name = c.in-Some.name.now in
    let left = remaining_names c.next.new.self in
    let utf8 : is_utf8 name ≡ true = is_utf8-from_IsUtf8 name c.in-Ok.ensures.cases.1 in
    let is = disallowed-not_utf8 c.loop-name.name-iterator.rest.now name _ c.in-Some.ensures.steps (c.if-eq.ensures ∙ ap (bytes_eq name) c.as_slice.ensures) in
    let kept : is_disallowed name ≡ false = is ∙ ap not utf8 in
    let first : find is_disallowed (name ∷ left) ≡ find is_disallowed left = rw kept refl in
    let pushed = c.in_ok-push_component.ensures ∙ ap (append_name (string_bytes c.loop-name.value)) c.in-Ok.ensures.cases.0 in (
      ap (λ text. append_names text left) pushed ∙ ap (append_names (string_bytes c.loop-name.value)) (sym c.in-Some.ensures.steps) ∙ c.loop-name.invariant.0,
      sym first ∙ ap (find is_disallowed) (sym c.in-Some.ensures.steps) ∙ c.loop-name.invariant.1,
    )

pub invariant_of-result : goal.invariant_of-result
invariant_of-result c =
    let whole = ap (append_names (string_bytes c.loop-name.value)) (sym c.in-None.ensures.steps.0) ∙ c.loop-name.invariant.0 in
    rw whole (extended_text [] (path_names c.args.path.now) refl (names-valid c.args.path.now)).valid

pub returns-clause-ok : goal.returns-clause-ok
returns-clause-ok c =
    let whole = ap (append_names (string_bytes c.loop-name.value)) (sym c.in-None.ensures.steps.0) ∙ c.loop-name.invariant.0 in (
      rw whole (extended_text [] (path_names c.args.path.now) refl (names-valid c.args.path.now)).is,
      sym c.loop-name.invariant.1 ∙ ap (find is_disallowed) c.in-None.ensures.steps.0,
    )
