use Rattle.std.proofs.Common.{◌≡◌, ◌+◌, ◌++◌, ◌∷◌, [], true, take, sym, ap, subst, ◌∙◌, arith}
use Rattle.std.proofs.lemmas.List.{take_more, take_all}
use Rattle.std.specs.FinMap.{is_sorted}
use Rattle.jj_paths.specs.Paths.{name_cmp}
use Rattle.jj_paths.specs.Tree.{tree_of, branches_of, AreClones, IsTreeClone}
use Rattle.jj_paths.proofs.TreeClones.{clones-snoc, is_sorted-clones, same_tree}
use Rattle.jj_paths.proofs.repo_path_tree.+copies.Goals as goal

pub RepoPathNode::clone-loop-name-preserved : goal.RepoPathNode::clone-loop-name-preserved
RepoPathNode::clone-loop-name-preserved g t c =
    let is_clone = g.V.Clone.is_clone in
    let items = c.deref-name-items.result.now in
    let i = c.loop-name.name-index in
    let child = c.loop-name-item.result in
    let grown : take (i + 1) items ≡ take i items ++ child ∷ [] = take_more items i child c.loop-name-test.true ∙ ap (λ x. take i items ++ x ∷ []) (sym c.loop-name-item.is) in
    let more = clones-snoc is_clone (take i items) c.loop-name.entries.items child (c.in_ok-clone.field-0, c.in_ok-clone-2.field-0) c.loop-name.invariant (sym c.in_ok-clone.ensures.cases) c.in_ok-clone-2.ensures.clones in
    subst (λ l. AreClones is_clone (branches_of (take (i + 1) items)) (branches_of l)) (sym c.in_ok-push.ensures.items)
    (subst (λ l. AreClones is_clone (branches_of l) (branches_of (c.loop-name.entries.items ++ (c.in_ok-clone.field-0, c.in_ok-clone-2.field-0) ∷ []))) (sym grown) more)

pub RepoPathNode::clone-invariant_of-result : goal.RepoPathNode::clone-invariant_of-result
RepoPathNode::clone-invariant_of-result g t c =
    let items = c.deref-name-items.result.now in
    let whole : take c.loop-name.name-index items ≡ items = take_all c.loop-name.name-index items (omega (arith, c.loop-name-test.false)) in
    let same : is_sorted name_cmp items ≡ is_sorted name_cmp c.loop-name.entries.items =
    is_sorted-clones g.V.Clone.is_clone items c.loop-name.entries.items (subst (λ l. AreClones g.V.Clone.is_clone (branches_of l) (branches_of c.loop-name.entries.items)) whole c.loop-name.invariant) in
    let names : is_sorted name_cmp items ≡ true = ap (is_sorted name_cmp) c.deref-name-items.ensures.value ∙ c.self.invariant in
    sym same ∙ names

pub RepoPathNode::clone-returns-clause-equal : goal.RepoPathNode::clone-returns-clause-equal
RepoPathNode::clone-returns-clause-equal g t c = λ exact.
    let items = c.deref-name-items.result.now in
    let is_clone = g.V.Clone.is_clone in
    let whole : take c.loop-name.name-index items ≡ items = take_all c.loop-name.name-index items (omega (arith, c.loop-name-test.false)) in
    let below : AreClones is_clone (branches_of c.self.inside.entries.items) (branches_of c.loop-name.entries.items) =
    subst (λ l. AreClones is_clone (branches_of l) (branches_of c.loop-name.entries.items)) (whole ∙ c.deref-name-items.ensures.value) c.loop-name.invariant in
    same_tree is_clone exact c.args.self.now (tree_of c.in_ok-value.value (branches_of c.loop-name.entries.items))
    (subst (λ t. IsTreeClone is_clone t (tree_of c.in_ok-value.value (branches_of c.loop-name.entries.items))) c.self.view_is (c.in_ok-value.ensures.cases, below))
