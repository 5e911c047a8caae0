-- `entered_by` contains exactly the directories above marks that the walk enters, in path order.
use Rattle.std.proofs.Common.{◌≡◌, ◌≢◌, ◌⊎◌, inl, inr, Bool, true, false, ◌&&◌, List, [], ◌∷◌, ◌++◌, Contains, IsSome, Option, Some, None, refl, ap, subst, sym, ◌∙◌, append_assoc}
use mathlib.Core.Bool.{false≢true}
use Rattle.std.specs.Option.{option_and_then}
use Rattle.std.proofs.lemmas.Bool.{and_parts}
use Rattle.std.proofs.lemmas.Slice.Eq.{bytes_eq-Decides}
use Rattle.jj_paths.specs.Paths.{Name, Path}
use Rattle.jj_paths.specs.Tree.{Tree, tree_of, Branches, none, branch, child, get, has_branches}
use Rattle.jj_paths.specs.Nodes.{NodeAt, node_at, all_nodes}
use Rattle.jj_paths.proofs.ListedNodes.{lists_nodes}
use Rattle.jj_paths.proofs.ListedOrder.{lists_in_order}
use Rattle.jj_matchers.specs.Marks.{IsMarkedTree}
use Rattle.jj_matchers.specs.Laws.{WalksAsMarks}
use Rattle.jj_matchers.specs.MarkWalk.{IsAboveMark}
use Rattle.jj_matchers.specs.VisitSpecs.{VisitSpec}
use Rattle.jj_matchers.specs.Walk.{AreInOrder, entered_by, is_entered_directory, walk_enters}
use Rattle.jj_matchers.proofs.FoundMarks.{finds_marks, finds_in_order, passing_at, into_at, sorted_passing}
use Rattle.jj_matchers.proofs.Marks.{get-append}

not_root : (dir : Path) (name : Name) → dir ++ name ∷ [] ≡ [] → ⊥
not_root [] name e = cc
not_root (first ∷ dir) name e = cc

module _ (marks : List Path) (tree : Tree Bool) (is : IsMarkedTree marks tree) (visit : Path → VisitSpec) where
  abbrev test : NodeAt Bool → Bool
  test = is_entered_directory visit

  -- a node with children is above a mark
  above_mark : (dir : Path) (node : Tree Bool) → get tree dir ≡ Some node → has_branches node.branches ≡ true → IsAboveMark marks dir
  above_mark dir node there has = by_branches node.branches refl has
    where
      by_branches : (b : Branches Bool) → node.branches ≡ b → has_branches b ≡ true → IsAboveMark marks dir
      by_branches none e h = absurd (false≢true h)
      by_branches (branch name value below after) e h =
          let first : child node.branches name ≡ Some (tree_of value below) = ap (λ c. child c name) e ∙ rw ((bytes_eq-Decides name name).1 refl) refl in
          let at : get tree (dir ++ name ∷ []) ≡ Some (tree_of value below) =
          get-append tree dir (name ∷ []) ∙ ap (λ o. option_and_then (λ n. get n (name ∷ [])) o) there ∙ ap (λ o. option_and_then (λ sub. get sub []) o) first in
          by_part name ((is.nodes (dir ++ name ∷ [])).0 (subst IsSome (sym at) refl))
        where
          by_part : (name : Name) → (dir ++ name ∷ [] ≡ []) ⊎ ((rest : Path) × Contains marks ((dir ++ name ∷ []) ++ rest)) → IsAboveMark marks dir
          by_part name (inl root) = absurd (not_root dir name root)
          by_part name (inr (rest, marked)) = (name, rest, subst (Contains marks) (append_assoc dir (name ∷ []) rest) marked)

  -- a directory above a mark has children
  with_children : (dir : Path) → IsAboveMark marks dir → (node : Tree Bool) × (get tree dir ≡ Some node) × (has_branches node.branches ≡ true)
  with_children dir (name, rest, marked) = by_node (get tree dir) refl
    where
      there : IsSome (get tree (dir ++ name ∷ []))
      there = (is.nodes (dir ++ name ∷ [])).1 (inr (rest, subst (Contains marks) (sym (append_assoc dir (name ∷ []) rest)) marked))

      has : (b : Branches Bool) → IsSome (option_and_then (λ sub. get sub []) (child b name)) → has_branches b ≡ true
      has none h = absurd (false≢true h)
      has (branch n value below after) h = refl

      by_node : (o : Option (Tree Bool)) → get tree dir ≡ o → (node : Tree Bool) × (get tree dir ≡ Some node) × (has_branches node.branches ≡ true)
      by_node None e =
          absurd (false≢true (subst IsSome (get-append tree dir (name ∷ []) ∙ ap (λ o. option_and_then (λ n. get n (name ∷ [])) o) e) there))
      by_node (Some node) e =
          (node, e, has node.branches (subst IsSome (get-append tree dir (name ∷ []) ∙ ap (λ o. option_and_then (λ n. get n (name ∷ [])) o) e) there))

  pub enters : (dir : Path) → Contains (entered_by visit tree) dir → (walk_enters visit [] dir ≡ true) × IsAboveMark marks dir
  enters dir h =
      let p = passing_at test (all_nodes tree) dir h.0 h.1 h.2 in
      let node = p.0 in
      let parts = and_parts (has_branches node.node.branches) (walk_enters visit [] node.path) p.3 in
      let there : get tree node.path ≡ Some node.node = (lists_nodes tree node.path node.node is.ordered).0 p.1 in
      subst (λ d. (walk_enters visit [] d ≡ true) × IsAboveMark marks d) p.2 (parts.1, above_mark node.path node.node there parts.0)

  pub is_entered_above : (dir : Path) → walk_enters visit [] dir ≡ true → IsAboveMark marks dir → Contains (entered_by visit tree) dir
  is_entered_above dir on above =
      let (node, there, has) = with_children dir above in
      let listed = (lists_nodes tree dir node is.ordered).1 there in
      into_at test (all_nodes tree) (node_at dir node) listed.0 listed.1 listed.2 (ap (λ b. b && walk_enters visit [] dir) has ∙ on)

  pub entered_in_order : AreInOrder (entered_by visit tree)
  entered_in_order = sorted_passing test (all_nodes tree) (lists_in_order tree is.ordered)

-- a walk of the tree of the marks finds what one of the marks does
pub walks_as_marks : WalksAsMarks
walks_as_marks marks tree is accepts visit = record {
  found = finds_marks marks tree is accepts;
  opened = λ dir. ((λ h. let parts = enters marks tree is visit dir h in (parts.1, parts.0)), (λ h. is_entered_above marks tree is visit dir h.1 h.0));
  files_ordered = finds_in_order marks tree is accepts;
  entered_ordered = entered_in_order marks tree is visit;
}
