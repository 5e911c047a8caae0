use Rattle.std.proofs.Common.{sym, ap, ◌∙◌, subst, refl}
use Rattle.std.specs.List.{insert}
use Rattle.std.specs.FinMap.{is_sorted}
use Rattle.jj_paths.specs.Paths.{name_cmp}
use Rattle.jj_paths.specs.Names.{name_of}
use Rattle.jj_paths.specs.Tree.{Tree, tree_of, branches_of, IsIndexOf, IsInsertionPoint, AddsDefaultChild}
use Rattle.jj_paths.proofs.Insertion.{grown-insert, grown-at, is_sorted-insert, is_at-insert}
use Rattle.jj_paths.proofs.ChildUpdates.{is_sorted-set, child-lent, child-edited}
use Rattle.jj_paths.proofs.repo_path_tree.RepoPathNode.child_or_default.Goals as goal

pub invariant_of-self-lent : goal.invariant_of-self-lent
invariant_of-self-lent g c w =
    is_sorted-set c.self.inside.entries.items c.in-Ok.at (c.index_mut.result.now.0, w) c.index_mut.result.now (ap (λ (x : _ × Tree g.row.V.Denot). x.0) c.index_mut.ensures.value) ∙ c.self.invariant

pub returns-in-Ok : goal.returns-in-Ok
returns-in-Ok g c =
    let items = c.self.inside.entries.items in
    let at = subst (λ l. IsIndexOf l (name_of c.args.name) c.in-Ok.at) c.deref.ensures.value c.in-Ok.ensures.found in
    let grown = subst (AddsDefaultChild g.V.Default.is_default c.args.self.now (name_of c.args.name)) (sym c.self.view_is) (grown-at g.V.Default.is_default c.args.self.now c.self.inside.value items c.in-Ok.at (name_of c.args.name) c.self.view_is c.self.invariant at) in (
      (refl, λ w _. child-edited c.self.invariant at c.index_mut.ensures.value c.second_mut.ensures.value grown w, tt),
      record { loan = tt; child = (tree_of c.self.inside.value (branches_of items), grown, child-lent c.self.invariant at c.index_mut.ensures.value c.second_mut.ensures.value) },
    )

pub invariant_of-self-lent-in-Err : goal.invariant_of-self-lent-in-Err
invariant_of-self-lent-in-Err g c w =
    let items = c.self.inside.entries.items in
    let gap = subst (λ l. IsInsertionPoint l (name_of c.args.name) c.in-Err.at) c.deref.ensures.value c.in-Err.ensures.absent in
    let made = c.in_ok-insert-in-Err.ensures.items ∙ ap (λ n. insert items c.in-Err.at (n, c.new-tree.result)) c.in_ok-owned-in-Err.ensures in
    is_sorted-set c.insert.new.self.items c.in-Err.at (c.index_mut-in-Err.result.now.0, w) c.index_mut-in-Err.result.now (ap (λ (x : _ × Tree g.row.V.Denot). x.0) c.index_mut-in-Err.ensures.value)
    ∙ ap (λ l. is_sorted name_cmp l) made ∙ is_sorted-insert items c.in-Err.at (name_of c.args.name) c.new-tree.result c.self.invariant gap

pub returns-in_ok-insert-in-Err : goal.returns-in_ok-insert-in-Err
returns-in_ok-insert-in-Err g c =
    let items = c.self.inside.entries.items in
    let gap = subst (λ l. IsInsertionPoint l (name_of c.args.name) c.in-Err.at) c.deref.ensures.value c.in-Err.ensures.absent in
    let made = c.in_ok-insert-in-Err.ensures.items ∙ ap (λ n. insert items c.in-Err.at (n, c.new-tree.result)) c.in_ok-owned-in-Err.ensures in
    let grown = grown-insert g.V.Default.is_default c.args.self.now c.self.inside.value items c.insert.new.self.items c.in-Err.at (name_of c.args.name) c.new-tree.result c.self.view_is gap made
    (subst (λ t. g.V.Default.is_default t.value) (sym c.new-tree.ensures) c.default.ensures) (ap (λ t. t.branches) c.new-tree.ensures) in
    let sorted = ap (λ l. is_sorted name_cmp l) made ∙ is_sorted-insert items c.in-Err.at (name_of c.args.name) c.new-tree.result c.self.invariant gap in
    let at = subst (λ l. IsIndexOf l (name_of c.args.name) c.in-Err.at) (sym made) (is_at-insert items c.in-Err.at (name_of c.args.name) c.new-tree.result gap.in_range) in (
      (refl, λ w _. child-edited sorted at c.index_mut-in-Err.ensures.value c.second_mut-in-Err.ensures.value grown w, tt),
      record { loan = tt; child = (tree_of c.self.inside.value (branches_of c.insert.new.self.items), grown, child-lent sorted at c.index_mut-in-Err.ensures.value c.second_mut-in-Err.ensures.value) },
    )
