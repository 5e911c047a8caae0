-- The loop over the rows of a directory: facts about the current row.
use Rattle.std.proofs.Common.{◌≡◌, ℕ, suc, ◌+◌, ◌⊎◌, inl, inr, List, [], ◌∷◌, ◌++◌, length, map, Option, None, Some, refl, sym, ap, subst, ◌∙◌, arith}
use Rattle.std.specs.Prelude.{All, AllPairs}
use Rattle.std.proofs.lemmas.List.Elements.{All-nil, All-cons, All-head, All-tail}
use Rattle.std.specs.declared.cmp.Ordering.TheVariants.{Less}
use Rattle.jj_paths.specs.Paths.{Name, name_cmp}
use Rattle.std.specs.Vec.Iter.{into_iter_items, into_iter_steps}
use Rattle.std.specs.declared.vec.IntoIter.{IntoIter}
use Rattle.std.proofs.lemmas.List.Sums.{sum_by-cons}
use Rattle.std.proofs.lemmas.List.{length-map}
use Rattle.std.proofs.Common.{◌%◌, cond, Bool}
use Rattle.std.specs.Prelude.{count_by}
use Rattle.std.specs.Map.{lookup}
use Rattle.std.specs.Str.{bytes_eq}
use Rattle.jj_merges.specs.Merge.{adds, removes}
use Rattle.std.proofs.Common.{true, false}
use Rattle.std.proofs.lemmas.Int.{ints}
use Rattle.jj_merges.specs.Resolution.{ResolvesTo}
use Rattle.jj_merges.specs.declared.merge.SameChange.{SameChange}
use Rattle.jj_merges.specs.declared.merge.SameChange.TheVariants.{Keep, Accept}
use Rattle.jj_backend.specs.Objects.{ById}
use Rattle.jj_trees.specs.TreeMerges.{child}
use Rattle.jj_trees.specs.DirectoryMerges.{entries_of}
use Rattle.jj_trees.proofs.Children.{child-entries, children-entries}
use Rattle.jj_trees.specs.Rows.{at_name, AreRows}
use Rattle.jj_backend.specs.declared.backend.tree_value.TreeValue.{TreeValue}

module _ {X Y : Type 0} (f : Y → X) where
  pub at_middle : (P : X → Type 0) (ys : List Y) (y : Y) (zs : List Y) → All P (map f (ys ++ y ∷ zs)) → P (f y)
  at_middle P [] y zs h = All-head P (f y) (map f zs) h
  at_middle P (x ∷ ys) y zs h = at_middle P ys y zs (All-tail P (f x) (map f (ys ++ y ∷ zs)) h)

  pub before_middle : (R : X → X → Type 0) (ys : List Y) (y : Y) (zs : List Y) → AllPairs R (map f (ys ++ y ∷ zs)) → All (λ x. R (f x) (f y)) ys
  before_middle R [] y zs h = All-nil (λ x. R (f x) (f y))
  before_middle R (x ∷ ys) y zs h =
      All-cons (λ z. R (f z) (f y)) x ys
      (at_middle (R (f x)) ys y zs (λ k d lt. h 0 (suc k) d (omega arith) (omega arith)))
      (before_middle R ys y zs (λ i j d lt within. h (suc i) (suc j) d (omega arith) (omega arith)))

pub rows_start : {Y : Type 0} (f : Y → Name × List (Option TreeValue)) (ts es : List (List (Name × TreeValue))) (rows items : List Y)
    → ts ≡ es → items ≡ rows → AreRows ts (map f rows) → AreRows es (map f items)
rows_start f ts es rows items h k r = subst (λ l. AreRows es (map f l)) (sym k) (subst (λ t. AreRows t (map f rows)) h r)

module _ (trees : ById (List (Name × TreeValue))) {Y : Type 0} (f : Y → Name × List (Option TreeValue)) (values : List (Option TreeValue)) (ys : List Y) (y : Y) (zs : List Y)
    (rows : AreRows (map (entries_of trees) values) (map f (ys ++ y ∷ zs))) where
  -- the values of a row are the children of the directory's values at its name
  pub row_values : (f y).1 ≡ map (child trees (f y).0) values
  row_values = at_middle f (λ row. row.1 ≡ at_name (map (entries_of trees) values) row.0) ys y zs rows.values ∙ children-entries trees (f y).0 values

  pub row_above : All (λ x. name_cmp (f x).0 (f y).0 ≡ Less) ys
  row_above = before_middle f (λ a b. name_cmp a.0 b.0 ≡ Less) ys y zs rows.ascending

  pub row_length : length (f y).1 ≡ length values
  row_length = ap length row_values ∙ length-map values (child trees (f y).0)

-- values that are all absent resolve to absent
module _ (p : Option TreeValue → Bool) where
  abbrev pub weight : Option TreeValue → ℕ
  weight v = cond (p v) 1 0

  pub count_absent : (vs : List (Option TreeValue)) → All (λ v. v ≡ None) vs → length vs % 2 ≡ 1 → count_by p (adds vs) ≡ count_by p (removes vs) + weight None
  count_absent [] h odd = absurd (omega arith)
  count_absent (v ∷ []) h odd = let e = ap weight (h 0 v (omega arith)) in omega (arith, sum_by-cons weight v [])
  count_absent (v ∷ w ∷ vs) h odd =
      let e = ap weight (h 0 v (omega arith)) in
      let g = ap weight (h 1 w (omega arith)) in
      let rest = count_absent vs (λ k d lt. h (suc (suc k)) d (omega arith)) (omega arith) in
      omega (arith, sum_by-cons weight v (adds vs), sum_by-cons weight w (removes vs))

pub next_row : {X Z : Type 0} (s : IntoIter X Z) (r : Option X) (t : IntoIter X Z) (x : X) → r ≡ Some x → into_iter_steps s r t → into_iter_items s ≡ x ∷ into_iter_items t
next_row s r t x e h = (subst (λ o. into_iter_steps s o t) e h).0

pub rows_next : {Y : Type 0} (f : Y → Name × List (Option TreeValue)) (es : List (List (Name × TreeValue))) (ys before after : List Y)
    → before ≡ after → AreRows es (map f (ys ++ before)) → AreRows es (map f (ys ++ after))
rows_next f es ys before after h r = subst (λ l. AreRows es (map f (ys ++ l))) h r

pub same_sides : {X Y Z : Type 0} (labels : List X) (here : List Y) (above : List Z) → length here ≡ length above → (labels ≡ []) ⊎ (length labels ≡ length above) → (labels ≡ []) ⊎ (length labels ≡ length here)
same_sides labels here above e (inl n) = inl n
same_sides labels here above e (inr n) = inr (n ∙ sym e)

module _ (eq : Option TreeValue → Option TreeValue → Bool) (same : (v w : Option TreeValue) → eq v w ≡ true → v ≡ w) (reflexive : eq None None ≡ true)
    (vs : List (Option TreeValue)) (absent : All (λ v. v ≡ None) vs) (odd : length vs % 2 ≡ 1) where
  one : weight (eq None) None ≡ 1
  one = ap (λ (b : Bool). cond b 1 0) reflexive

  -- a value with a nonzero count equals the absent one
  counts : (w : Option TreeValue) (b : Bool) → eq w None ≡ b → (weight (eq w) None ≡ 0 → ⊥) → eq None w ≡ true
  counts w true e h = subst (λ v. eq None v ≡ true) (sym (same w None e)) reflexive
  counts w false e h = absurd (h (ap (λ (b : Bool). cond b 1 0) e))

  pub absent_decided : (same_change : SameChange) → ResolvesTo eq same_change vs None
  absent_decided Keep = (
    let here = count_absent (eq None) vs absent odd in let w = one in omega (arith, ints),
    λ w h. counts w (eq w None) refl (λ z. let all = count_absent (eq w) vs absent odd in h (omega (arith, ints))),
  )
  absent_decided Accept = (
    let here = count_absent (eq None) vs absent odd in let w = one in omega (arith, ints),
    λ w h. counts w (eq w None) refl (λ z. let all = count_absent (eq w) vs absent odd in absurd (omega (arith, ints))),
    λ w x h k. let all = count_absent (eq w) vs absent odd in absurd (omega (arith, ints)),
  )

-- each name is that of a row, or all values are absent there
module _ (trees : ById (List (Name × TreeValue))) (name : Name) where
  pub absent_below : (vs : List (Option TreeValue)) → All (λ entries. lookup (bytes_eq name) entries ≡ None) (map (entries_of trees) vs) → All (λ v. v ≡ None) (map (child trees name) vs)
  absent_below [] h = All-nil (λ v. v ≡ None)
  absent_below (v ∷ vs) h =
      All-cons (λ w. w ≡ None) (child trees name v) (map (child trees name) vs)
      (sym (child-entries trees name v) ∙ h 0 (entries_of trees v) (omega arith))
      (absent_below vs (λ k d lt. h (suc k) d (omega arith)))
