use Rattle.std.proofs.Common.{◌≡◌, ◌≢◌, ◌∙◌, [], ◌∷◌, ◌++◌, map, false, sym, ap, subst, append-nil}
use Rattle.std.specs.Path.{path_components, components_remaining, component_bytes, cur_dir, parent_dir}
use Rattle.std.proofs.lemmas.List.{map-append}
use Rattle.std.proofs.lemmas.Result.{IfOk-weaker}
use Rattle.jj_files.specs.PathJoining.{fs_text}
use Rattle.jj_files.specs.PathComponents.{ReducesTo, ends_in_name}
use Rattle.jj_files.specs.PathComponents.ReducesTo.{none}
use Rattle.jj_files.proofs.NormalForms.{IsIrreducible, irreducible-none, irreducible-pushed, irreducible-popped, dot_reduces, name_reduces, component_stays, popped_name, other_component, dots_differ}
use Rattle.jj_files.proofs.file_util.path_components.normalize_path.Goals as goal
use Rattle.jj_files.proofs.file_util.path_components.normalize_path.Goals.{in_default-via-in-ParentDir+else-ends_in_name, in_default-via-in_default}

pub loop-component-init : goal.loop-component-init
loop-component-init c =
    let all = path_components c.args.path.now in
    let none_kept = ap (map (λ text. text.now)) c.new-stack.ensures.items in
    let left = ap components_remaining c.into_iter-component-iterator.ensures.into_iter_gives ∙ c.components-component-items.ensures ∙ ap path_components c.new.ensures in
    let start = ap (λ stack. stack ++ components_remaining c.into_iter-component-iterator.result) none_kept ∙ left in
    record { steps = subst (ReducesTo all) (sym start) none; irreducible = subst IsIrreducible (sym none_kept) irreducible-none }

pub loop-component-preserved-in-CurDir-1 : goal.loop-component-preserved-in-CurDir-1
loop-component-preserved-in-CurDir-1 c =
    let all = path_components c.args.path.now in
    let stack = map (λ text. text.now) c.loop-component.stack.items in
    let rest = components_remaining c.next.new.self in
    let left : components_remaining c.loop-component.component-iterator ≡ cur_dir ∷ rest = c.in-Some.ensures.steps.0 ∙ ap (λ x. component_bytes x ∷ rest) c.in-CurDir.is in
    record {
      steps = dot_reduces all stack rest (subst (λ l. ReducesTo all (stack ++ l)) left c.loop-component.invariant.steps);
      irreducible = c.loop-component.invariant.irreducible;
    }

pub loop-component-preserved-then-ends_in_name : goal.loop-component-preserved-then-ends_in_name
loop-component-preserved-then-ends_in_name c =
    let all = path_components c.args.path.now in
    let stack = map (λ text. text.now) c.loop-component.stack.items in
    let fewer = map (λ text. text.now) c.pop.new.self.items in
    let rest = components_remaining c.next.new.self in
    let left : components_remaining c.loop-component.component-iterator ≡ parent_dir ∷ rest = c.in-Some.ensures.steps.0 ∙ ap (λ x. component_bytes x ∷ rest) c.in-ParentDir.is in
    let named = c.if-ends_in_name.ensures ∙ ap (λ texts. ends_in_name (map (λ text. text.now) texts)) c.deref.ensures.value in
    let (name, split, names) = popped_name c.loop-component.stack.items c.pop.new.self.items c.pop.result _ _ c.loop-component.stack.ok.0 c.pop.ensures.items c.pop.ensures.cases named in
    record {
      steps = name_reduces all fewer rest name names
          (subst (λ l. ReducesTo all (l ++ parent_dir ∷ rest)) split (subst (λ l. ReducesTo all (stack ++ l)) left c.loop-component.invariant.steps));
      irreducible = irreducible-popped fewer name (subst IsIrreducible split c.loop-component.invariant.irreducible);
    }

pub loop-component-preserved : goal.loop-component-preserved
loop-component-preserved c =
    let all = path_components c.args.path.now in
    let stack = map (λ text. text.now) c.loop-component.stack.items in
    let rest = components_remaining c.next.new.self in
    let component = component_bytes c.in-Some.component in
    let more = ap (map (λ text. text.now)) c.in_ok-push-in_default.ensures.items
    ∙ map-append (λ text. text.now) c.loop-component.stack.items (c.as_os_str.result ∷ []) ∙ ap (λ text. stack ++ text ∷ []) c.as_os_str.ensures in
    let which : (component ≢ cur_dir) × (component ≡ parent_dir → ends_in_name stack ≡ false) =
    elim c.in_default.branch [
      | in_default-via-in-ParentDir+else-ends_in_name w ↦ (
        (λ e. dots_differ (sym (ap component_bytes w.in-ParentDir.is) ∙ e)),
        (λ _. sym (w.if-ends_in_name.ensures ∙ ap (λ texts. ends_in_name (map (λ text. text.now) texts)) w.deref.ensures.value)),
      )
      | in_default-via-in_default w ↦
          let other = other_component c.in-Some.component c.in-Some.ensures.steps.1 w.in_default.not-CurDir w.in_default.not-ParentDir in
          (other.0, λ e. absurd (other.1 e))
    ] in
    record {
      steps = subst (λ l. ReducesTo all (l ++ rest)) (sym more)
          (component_stays all stack rest component (subst (λ l. ReducesTo all (stack ++ l)) c.in-Some.ensures.steps.0 c.loop-component.invariant.steps));
      irreducible = subst IsIrreducible (sym more) (irreducible-pushed stack component c.loop-component.invariant.irreducible which.0 which.1);
    }

pub returns : goal.returns
returns c =
    let stack = map (λ text. text.now) c.loop-component.stack.items in
    let over = ap (λ l. stack ++ l) c.in-None.ensures.steps.0 ∙ append-nil stack in
    IfOk-weaker c.join_components.result _ _
    (λ text is. (stack, record { steps = subst (ReducesTo (path_components c.args.path.now)) over c.loop-component.invariant.steps; ended = c.loop-component.invariant.irreducible }, is ∙ ap (λ texts. fs_text [] (map (λ text. text.now) texts)) c.deref-2.ensures.value))
    c.join_components.ensures
