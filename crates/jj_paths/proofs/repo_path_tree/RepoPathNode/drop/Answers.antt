use Rattle.std.proofs.Common.{◌≡◌, ℕ, ◌<◌, ◌+◌, ◌*◌, List, [], ◌∷◌, ◌++◌, sym, ap, ◌∙◌, arith}
use Rattle.std.specs.FinMap.{is_sorted}
use Rattle.jj_paths.specs.Paths.{Name, name_cmp}
use Rattle.jj_paths.specs.Tree.{Tree, tree_of, branches_of, branch_count}
use Rattle.jj_paths.proofs.DropMeasure.{way_count, way_count-last, branch_count-last, is_sorted-prefix, is_sorted-last}
use Rattle.jj_paths.proofs.repo_path_tree.RepoPathNode.drop.Goals as goal

module _ {V : Type 0} where
  -- the termination measure: it decreases on the way down and on the way up
  abbrev left : List (Name × Tree V) → List (Name × Tree V) → ℕ
  left current above = 2 * branch_count (branches_of current) + way_count (branches_of above)

  down : (current above rest next below : List (Name × Tree V)) (name : Name) (tree way_up : Tree V) (v w : V) → current ≡ rest ++ (name, tree) ∷ [] → next ≡ rest ++ (name, way_up) ∷ [] → tree ≡ tree_of v (branches_of below) → way_up ≡ tree_of w (branches_of above) → left below next < left current above
  down current above rest next below name tree way_up v w e f g h =
      omega (arith, ap (λ l. branch_count (branches_of l)) e ∙ branch_count-last rest (name, tree), ap (λ t. branch_count t.branches) g, ap (λ l. way_count (branches_of l)) f ∙ way_count-last rest (name, way_up), ap (λ t. way_count t.branches) h)

  up : (current above rest next : List (Name × Tree V)) (name : Name) (way_up : Tree V) (v : V) → above ≡ rest ++ (name, way_up) ∷ [] → way_up ≡ tree_of v (branches_of next) → left rest next < left current above
  up current above rest next name way_up v e f =
      omega (arith, ap (λ l. way_count (branches_of l)) e ∙ way_count-last rest (name, way_up), ap (λ t. way_count t.branches) f)

pub loop-name-smaller-in-Some : goal.loop-name-smaller-in-Some
loop-name-smaller-in-Some g c =
    down c.loop-name.current.items c.loop-name.above.items c.pop.new.self.items c.push.new.self.items c.into_parts-value.result.1.items c.in-Some.name c.in-Some.tree c.from_parts-way_up.result c.into_parts-value.result.0 c.into_parts-value.result.0
    c.in-Some.ensures.items c.in_default.ensures.items c.into_parts-value.ensures.parts c.from_parts-way_up.ensures

pub loop-name-preserved-in-Some : goal.loop-name-preserved-in-Some
loop-name-preserved-in-Some g c = record {
  current = c.into_parts-value.ensures.by_name;
  above = ap (is_sorted name_cmp) c.in_default.ensures.items ∙ is_sorted-last c.pop.new.self.items c.in-Some.name c.from_parts-way_up.result c.in-Some.tree ∙ sym (ap (is_sorted name_cmp) c.in-Some.ensures.items) ∙ c.loop-name.invariant.current;
}

pub loop-name-smaller : goal.loop-name-smaller
loop-name-smaller g c =
    up c.loop-name.current.items c.loop-name.above.items c.pop-in-None.new.self.items c.into_parts-value-in-Some-pop.result.1.items c.in-Some-pop._name c.in-Some-pop.way_up c.into_parts-value-in-Some-pop.result.0
    c.in-Some-pop.ensures.items c.into_parts-value-in-Some-pop.ensures.parts

pub loop-name-preserved : goal.loop-name-preserved
loop-name-preserved g c = record {
  current = is_sorted-prefix c.pop-in-None.new.self.items (c.in-Some-pop._name, c.in-Some-pop.way_up) (sym (ap (is_sorted name_cmp) c.in-Some-pop.ensures.items) ∙ c.loop-name.invariant.above);
  above = c.into_parts-value-in-Some-pop.ensures.by_name;
}
