use Rattle.std.proofs.Common.{◌≡◌, ◌<◌, ◌+◌, ◌++◌, ◌∷◌, [], ◌∙◌, false, map, take, length, ap, sym, subst, arith}
use Rattle.std.proofs.lemmas.List.{map_more, take_all}
use Rattle.jj_paths.specs.Names.{path_of}
use Rattle.jj_matchers.specs.Marks.{IsMarkedTree}
use Rattle.jj_matchers.proofs.MarkedTrees.{marked_members, marked_start, marked_step}
use Rattle.jj_matchers.proofs.matchers.marks.marked_tree.Goals as goal

pub loop-mark-init : goal.loop-mark-init
loop-mark-init c = marked_start c.default-tree.result c.default-tree.ensures.value c.default-tree.ensures.alone

pub loop-mark-preserved : goal.loop-mark-preserved
loop-mark-preserved c =
    let i = c.loop-mark.mark-index in
    let items = c.deref-mark-items.result.now in
    let mark = c.mark-item.result in
    let within : i < length items = omega arith in
    let next : map path_of (take i items) ++ path_of mark ∷ [] ≡ map path_of (take (i + 1) items) = ap (λ m. map path_of (take i items) ++ path_of m ∷ []) c.mark-item.is ∙ sym (map_more path_of items i mark within) in
    subst (λ l. IsMarkedTree l c.set.new.self) next
    (marked_step (λ v. v ≡ false) (λ v e. e) (map path_of (take i items)) (path_of mark) c.loop-mark.tree c.set.new.self c.loop-mark.invariant c.in_ok-set.ensures.as_map)

pub returns : goal.returns
returns c =
    let items = c.deref-mark-items.result.now in
    let sorted = c.in_ok-sorted.sorted.items in
    let whole : map path_of (take c.loop-mark.mark-index items) ≡ map path_of sorted = ap (map path_of) (take_all c.loop-mark.mark-index items (omega arith) ∙ c.deref-mark-items.ensures.value) in
    marked_members (map path_of sorted) (map path_of c.args.marks.now) c.loop-mark.tree c.in_ok-sorted.ensures.same (subst (λ l. IsMarkedTree l c.loop-mark.tree) whole c.loop-mark.invariant)
