-- Termination measure of the traversal that drops a tree: unvisited children, and the reversed pointers up.
use Rattle.std.proofs.Common.{◌≡◌, ℕ, ◌+◌, ◌*◌, true, ◌&&◌, if◌then◌else◌, List, [], ◌∷◌, ◌++◌, refl, ap, ◌∙◌, arith}
use Rattle.std.specs.Ordering.{is_lt}
use Rattle.std.specs.FinMap.{is_sorted}
use Rattle.std.specs.FinMap.Entries.{below_all}
use Rattle.std.proofs.lemmas.Bool.{and_parts, and_from}
use Rattle.jj_paths.specs.Paths.{Name, name_cmp}
use Rattle.jj_paths.specs.Tree.{Tree, Branches, none, branch, branches_of, branch_count, has_branches}

module _ {V : Type 0} where
  -- the measure of a list with reversed pointers: its last branch leads up, and nodes under the others count twice
  abbrev pub way_count : Branches V → ℕ
  way_count none = 0
  way_count (branch name value below after) = if has_branches after then 2 * (1 + branch_count below) + way_count after else 1 + way_count below

  has_branches-last : (items : List (Name × Tree V)) (x : Name × Tree V) → has_branches (branches_of (items ++ x ∷ [])) ≡ true
  has_branches-last [] x = refl
  has_branches-last (y ∷ items) x = refl

  pub way_count-last : (items : List (Name × Tree V)) (x : Name × Tree V) → way_count (branches_of (items ++ x ∷ [])) ≡ 2 * branch_count (branches_of items) + 1 + way_count x.1.branches
  way_count-last [] x = omega arith
  way_count-last (y ∷ items) x = rw (has_branches-last items x) (omega (arith, way_count-last items x))

  pub branch_count-last : (items : List (Name × Tree V)) (x : Name × Tree V) → branch_count (branches_of (items ++ x ∷ [])) ≡ branch_count (branches_of items) + 1 + branch_count x.1.branches
  branch_count-last [] x = omega arith
  branch_count-last (y ∷ items) x = omega (arith, branch_count-last items x)

  below_all-prefix : (k : Name) (items : List (Name × Tree V)) (x : Name × Tree V) → below_all name_cmp k (items ++ x ∷ []) ≡ true → below_all name_cmp k items ≡ true
  below_all-prefix k [] x all = refl
  below_all-prefix k (y ∷ items) x all = let h = and_parts _ _ all in and_from _ _ h.0 (below_all-prefix k items x h.1)

  pub is_sorted-prefix : (items : List (Name × Tree V)) (x : Name × Tree V) → is_sorted name_cmp (items ++ x ∷ []) ≡ true → is_sorted name_cmp items ≡ true
  is_sorted-prefix [] x sorted = refl
  is_sorted-prefix (y ∷ items) x sorted = let h = and_parts _ _ sorted in and_from _ _ (below_all-prefix y.0 items x h.0) (is_sorted-prefix items x h.1)

  below_all-last : (k : Name) (items : List (Name × Tree V)) (name : Name) (a b : Tree V) → below_all name_cmp k (items ++ (name, a) ∷ []) ≡ below_all name_cmp k (items ++ (name, b) ∷ [])
  below_all-last k [] name a b = refl
  below_all-last k (y ∷ items) name a b = ap (λ t. is_lt (name_cmp k y.0) && t) (below_all-last k items name a b)

  -- replacing the last child keeps the names sorted
  pub is_sorted-last : (items : List (Name × Tree V)) (name : Name) (a b : Tree V) → is_sorted name_cmp (items ++ (name, a) ∷ []) ≡ is_sorted name_cmp (items ++ (name, b) ∷ [])
  is_sorted-last [] name a b = refl
  is_sorted-last (y ∷ items) name a b =
      ap (λ t. t && is_sorted name_cmp (items ++ (name, a) ∷ [])) (below_all-last y.0 items name a b)
      ∙ ap (λ t. below_all name_cmp y.0 (items ++ (name, b) ∷ []) && t) (is_sorted-last items name a b)
