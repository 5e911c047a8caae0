use Rattle.std.proofs.Common.{IsSome, Some, [], sym, ap, ◌∙◌, subst, refl}
use mathlib.Core.Bool.{false≢true}
use Rattle.jj_paths.specs.Names.{name_of}
use Rattle.jj_paths.specs.Tree.{Tree, tree_of, child, update_child, IsIndexOf, IsInsertionPoint}
use Rattle.jj_paths.proofs.ChildLookup.{child-at, child-gap}
use Rattle.jj_paths.proofs.ChildUpdates.{is_sorted-set, update_child-at}
use Rattle.jj_paths.proofs.repo_path_tree.RepoPathNode.child_mut.Goals as goal

pub unreachable-requires : goal.unreachable-requires
unreachable-requires g c =
    let gap = subst (λ l. IsInsertionPoint l (name_of c.args.name) c.in-Err.field-0) c.deref.ensures.value c.in-Err.ensures.absent in
    false≢true (subst IsSome (ap (λ t. child t.branches (name_of c.args.name)) (sym c.self.view_is) ∙ child-gap c.self.inside.entries.items _ _ ([], c.args.self.now) gap) c.requires)

pub invariant_of-self-lent : goal.invariant_of-self-lent
invariant_of-self-lent g c w =
    is_sorted-set c.self.inside.entries.items c.in-Ok.at (c.index_mut.result.now.0, w) c.index_mut.result.now (ap (λ (x : _ × Tree g.row.V.Denot). x.0) c.index_mut.ensures.value) ∙ c.self.invariant

pub returns : goal.returns
returns g c =
    let items = c.self.inside.entries.items in
    let name = name_of c.args.name in
    let at = subst (λ l. IsIndexOf l name c.in-Ok.at) c.deref.ensures.value c.in-Ok.ensures.found in (
      (
        refl,
        λ w. ap (tree_of c.self.inside.value) (update_child-at items name c.in-Ok.at c.index_mut.result.now c.index_mut.result.now (λ sub. w) c.self.invariant at (sym c.index_mut.ensures.value))
            ∙ ap (λ t. tree_of t.value (update_child t.branches name (λ sub. w))) c.self.view_is,
      ),
      record {
        writes_back = tt;
        value = ap (λ t. child t.branches name) (sym c.self.view_is) ∙ child-at items name c.in-Ok.at c.index_mut.result.now c.self.invariant at ∙ ap (λ x. Some x.1) (sym c.index_mut.ensures.value) ∙ ap Some (sym c.second_mut.ensures.value);
      },
    )
