use Rattle.std.proofs.Common.{◌≡◌, ◌∙◌, [], ◌∷◌, ◌++◌, sym, ap, append_assoc}
use Rattle.std.specs.Cmp.Lexicographic.{same_text}
use Rattle.std.specs.Path.{components_remaining, component_bytes}
use Rattle.jj_files.proofs.CommonPrefixes.{one_more, apart_differing, differing, has_common_prefix}
use Rattle.jj_files.proofs.file_util.path_components.strip_common_prefix.Goals as goal

pub loop-ours-preserved : goal.loop-ours-preserved
loop-ours-preserved c =
    let (prefix, from_is, to_is, left) = c.loop-ours.invariant in
    let ours = component_bytes c.in-Some-Some.ours in
    let theirs_is : ours ≡ component_bytes c.in-Some-Some.theirs = same_text _ _ (sym c.if-is_same.true ∙ c.is_same.ensures) in
    let (first, rest, grown) = one_more prefix ours in (
      prefix ++ ours ∷ [],
      from_is ∙ ap (λ l. prefix ++ l) c.in-Some-Some.ensures.steps.0 ∙ sym (append_assoc prefix (ours ∷ []) (components_remaining c.next.new.self)),
      to_is ∙ ap (λ l. prefix ++ l) (c.in-Some-Some.ensures'.steps.0 ∙ ap (λ x. x ∷ components_remaining c.next-in-loop-ours.new.self) (sym theirs_is))
          ∙ sym (append_assoc prefix (ours ∷ []) (components_remaining c.next-in-loop-ours.new.self)),
      (first, rest, grown, c.as_path.ensures, c.as_path-in-Some-Some.ensures),
    )

pub returns-in_default : goal.returns-in_default
returns-in_default c =
    let (prefix, from_is, to_is, left) = c.loop-ours.invariant in
    let differ : component_bytes c.in-Some-Some.ours ≡ component_bytes c.in-Some-Some.theirs → ⊥ = λ e. differing _ _ (sym c.is_same.ensures ∙ c.if-is_same.false) e in
    has_common_prefix c.args.from.now c.args.to.now c.loop-ours.left prefix _ _ from_is to_is left
    (apart_differing _ _ _ _ _ _ c.in-Some-Some.ensures.steps.0 c.in-Some-Some.ensures'.steps.0 differ)
