-- The loop over the rows of a directory: one step, and its end.
use Rattle.std.proofs.Common.{◌≡◌, ◌+◌, ◌%◌, ℕ, Bool, true, ◌⊎◌, inl, inr, List, [], ◌∷◌, ◌++◌, length, map, Option, None, sym, ap, subst, ◌∙◌}
use Rattle.std.specs.Prelude.{All, Any, Contains}
use Rattle.std.specs.Map.{lookup}
use Rattle.std.specs.Str.{bytes_eq}
use Rattle.std.specs.declared.cmp.Ordering.TheVariants.{Less}
use Rattle.std.proofs.lemmas.List.{map-append, append_assoc, append-nil, length-map, nil_from_length}
use Rattle.std.specs.Vec.Iter.{into_iter_items, into_iter_steps}
use Rattle.std.specs.declared.vec.IntoIter.{IntoIter}
use Rattle.std.proofs.lemmas.List.Elements.{All-map}
use Rattle.jj_paths.specs.Paths.{Name, Path, name_cmp}
use Rattle.jj_merges.specs.declared.merge.SameChange.{SameChange}
use Rattle.jj_merges.specs.Resolution.{ResolvesTo}
use Rattle.jj_backend.specs.Objects.{ById}
use Rattle.jj_trees.specs.Rows.{AreRows}
use Rattle.jj_backend.specs.declared.backend.tree_value.TreeValue.{TreeValue}
use Rattle.jj_backend.specs.declared.backend.errors.BackendError.{BackendError}
use Rattle.jj_backend.specs.MergedTreeValues.{Values}
use Rattle.jj_trees.specs.TreeMerges.{child}
use Rattle.jj_trees.specs.DirectoryMerges.{MustRecurse, Conflict, AppendsOutcome, entries_of, IsAppended, IsWithin, IsDirectoryError}
use Rattle.jj_trees.proofs.Joining.{image_of, into_image}
use Rattle.jj_trees.proofs.Merging.{Passed, step_here, step_entered, merged, all_within, error_below}
use Rattle.jj_trees.proofs.Passing.{row_values, row_above, absent_below, absent_decided}

pub rows_passed : {Y : Type 0} (f : Y → Name × Values) (es : List (List (Name × TreeValue))) (ys : List Y) (y : Y) (zs : List Y)
    → AreRows es (map f (ys ++ y ∷ zs)) → AreRows es (map f ((ys ++ y ∷ []) ++ zs))
rows_passed f es ys y zs rows = subst (λ l. AreRows es (map f l)) (sym (append_assoc ys (y ∷ []) zs)) rows

-- the loop ends when no row remains
pub rows_ended : {Y : Type 0} (f : Y → Name × Values) (es : List (List (Name × TreeValue))) (ys left : List Y)
    → left ≡ [] → AreRows es (map f (ys ++ left)) → AreRows es (map f ys)
rows_ended f es ys left none rows = subst (λ l. AreRows es (map f l)) (ap (λ l. ys ++ l) none ∙ append-nil ys) rows

pub no_row : {X Z : Type 0} (s : IntoIter X Z) (r : Option X) (t : IntoIter X Z) → r ≡ None → into_iter_steps s r t → into_iter_items s ≡ []
no_row s r t e h = nil_from_length (into_iter_items s) (sym s.rest.ok.0 ∙ (subst (λ o. into_iter_steps s o t) e h).0)

module _ (eq : Option TreeValue → Option TreeValue → Bool) (same : (v w : Option TreeValue) → eq v w ≡ true → v ≡ w)
    (trees : ById (List (Name × TreeValue))) (same_change : SameChange) (labels : List (List ℕ))
    (is_read : Path → Option TreeValue → Type 0) (fails : Path → BackendError → Option TreeValue → Type 0) (levels : ℕ) (values : Values) (dir : Path)
    {Y : Type 0} (f : Y → Name × Values) where
  abbrev pub RowsPassed : List Y → (old_r new_r : List (Path × TreeValue)) (old_c new_c : List (Path × Conflict)) → Type 0
  RowsPassed ys = Passed eq same trees same_change labels is_read fails levels values dir (map (λ y. (f y).0) ys)

  module _ (ys : List Y) (y : Y) (zs : List Y) (rows : AreRows (map (entries_of trees) values) (map f (ys ++ y ∷ zs)))
      (old_r new_r last_r : List (Path × TreeValue)) (old_c new_c last_c : List (Path × Conflict)) (passed : RowsPassed ys old_r new_r old_c new_c)
      (path : Path) (at : path ≡ dir ++ (f y).0 ∷ []) where
    here : (f y).1 ≡ map (child trees (f y).0) values
    here = row_values trees f values ys y zs rows

    above : All (λ m. name_cmp m (f y).0 ≡ Less) (map (λ y. (f y).0) ys)
    above = All-map (λ m. name_cmp m (f y).0 ≡ Less) (λ x. (f x).0) ys (row_above trees f values ys y zs rows)

    more : Passed eq same trees same_change labels is_read fails levels values dir (map (λ y. (f y).0) ys ++ (f y).0 ∷ []) old_r last_r old_c last_c
        → RowsPassed (ys ++ y ∷ []) old_r last_r old_c last_c
    more = subst (λ names. Passed eq same trees same_change labels is_read fails levels values dir names old_r last_r old_c last_c) (sym (map-append (λ x. (f x).0) ys (y ∷ [])))

    pub row_here : AppendsOutcome eq same_change (f y).1 labels path new_r last_r new_c last_c → RowsPassed (ys ++ y ∷ []) old_r last_r old_c last_c
    row_here h =
        more (step_here eq same trees same_change labels is_read fails levels values dir (map (λ y. (f y).0) ys) (f y).0 old_r new_r last_r old_c new_c last_c above passed
        (subst (λ p. AppendsOutcome eq same_change (map (child trees (f y).0) values) labels p new_r last_r new_c last_c) at
        (subst (λ vs. AppendsOutcome eq same_change vs labels path new_r last_r new_c last_c) here h)))

    pub row_entered : (below : Values) → below ≡ (f y).1 → MustRecurse eq same_change (f y).1
        → (mid_r : List (Path × TreeValue)) (mid_c : List (Path × Conflict)) → mid_r ≡ new_r → mid_c ≡ new_c
        → IsAppended trees eq same_change below labels path mid_r last_r mid_c last_c → IsWithin trees eq same_change is_read fails path below levels
        → RowsPassed (ys ++ y ∷ []) old_r last_r old_c last_c
    row_entered below is entered mid_r mid_c same_r same_c appended within =
        more (step_entered eq same trees same_change labels is_read fails levels values dir (map (λ y. (f y).0) ys) (f y).0 old_r new_r last_r old_c new_c last_c above passed
        (subst (MustRecurse eq same_change) here entered)
        (subst (λ p. IsAppended trees eq same_change (map (child trees (f y).0) values) labels p new_r last_r new_c last_c) at
        (subst (λ vs. IsAppended trees eq same_change vs labels path new_r last_r new_c last_c) (is ∙ here)
        (subst (λ r. IsAppended trees eq same_change below labels path r last_r new_c last_c) same_r
        (subst (λ c. IsAppended trees eq same_change below labels path mid_r last_r c last_c) same_c appended))))
        (subst (λ p. IsWithin trees eq same_change is_read fails p (map (child trees (f y).0) values) levels) at
        (subst (λ vs. IsWithin trees eq same_change is_read fails path vs levels) (is ∙ here) within)))

  -- an error of merging the directory of a row is an error of merging this directory
  pub row_error : (ys : List Y) (y : Y) (zs : List Y) (rows : AreRows (map (entries_of trees) values) (map f (ys ++ y ∷ zs)))
      (upto : ℕ) (e : BackendError) (below : Values) (path : Path) → upto ≡ levels + 1 → below ≡ (f y).1 → path ≡ dir ++ (f y).0 ∷ []
      → MustRecurse eq same_change (f y).1
      → IsDirectoryError trees eq same_change is_read fails path below levels e → IsDirectoryError trees eq same_change is_read fails dir values upto e
  row_error ys y zs rows upto e below path is same_values at entered error =
      let here = row_values trees f values ys y zs rows in
      error_below eq same trees same_change labels is_read fails levels values dir (f y).0 upto e is (subst (MustRecurse eq same_change) here entered)
      (subst (λ p. IsDirectoryError trees eq same_change is_read fails p (map (child trees (f y).0) values) levels e) at
      (subst (λ vs. IsDirectoryError trees eq same_change is_read fails path vs levels e) (same_values ∙ here) error))

  -- the end of the loop
  module _ (reflexive : eq None None ≡ true) (odd : length values % 2 ≡ 1) (ys : List Y) (rows : AreRows (map (entries_of trees) values) (map f ys))
      (old_r new_r : List (Path × TreeValue)) (old_c new_c : List (Path × Conflict)) (passed : RowsPassed ys old_r new_r old_c new_c) where
    every : (name : Name) → Contains (map (λ y. (f y).0) ys) name ⊎ ResolvesTo eq same_change (map (child trees name) values) None
    every name = by (rows.every name)
      where
        by : (All (λ entries. lookup (bytes_eq name) entries ≡ None) (map (entries_of trees) values)) ⊎ Any (λ row. row.0 ≡ name) (map f ys)
            → Contains (map (λ y. (f y).0) ys) name ⊎ ResolvesTo eq same_change (map (child trees name) values) None
        by (inl absent) = inr (absent_decided eq same reflexive (map (child trees name) values) (absent_below trees name values absent)
            (subst (λ n. n % 2 ≡ 1) (sym (length-map values (child trees name))) odd) same_change)
        by (inr a) =
            let there = image_of f ys a.1 (a.0, a.2, a.3) in
            inl (subst (Contains (map (λ y. (f y).0) ys)) (ap (λ r. r.0) there.2 ∙ a.4) (into_image (λ y. (f y).0) ys there.0 there.1))

    -- the directory is merged, within one level more than its subdirectories
    pub all_rows : IsAppended trees eq same_change values labels dir old_r new_r old_c new_c
        × (All (is_read dir) values → (upto : ℕ) → upto ≡ levels + 1 → IsWithin trees eq same_change is_read fails dir values upto)
    all_rows = (
      merged eq same trees same_change labels is_read fails levels values dir (map (λ y. (f y).0) ys) old_r new_r old_c new_c passed every,
      all_within eq same trees same_change labels is_read fails levels values dir (map (λ y. (f y).0) ys) old_r new_r old_c new_c passed every,
    )
