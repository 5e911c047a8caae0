-- Steps of loops over the terms of a merge of tree values; adds and removes of a mapped list.
use Rattle.std.proofs.Common.{◌≡◌, ℕ, suc, ◌+◌, ◌∙◌, ◌<◌, List, [], ◌∷◌, ◌++◌, length, map, drop, get_or, Option, Some, None, refl, sym, ap, append_assoc, arith}
use Rattle.std.specs.List.{AllZip, list_all}
use Rattle.std.proofs.lemmas.List.{at_drop_more}
use Rattle.std.specs.Option.{option_map}
use Rattle.jj_merges.specs.Merge.{adds, removes}
use Rattle.jj_backend.specs.MergedTreeValues.{Values, is_tree_or_absent, are_trees, part_at, parts, with_file_id, with_file_ids}
use Rattle.jj_backend.specs.declared.backend.tree_value.TreeValue.{TreeValue}

-- ---- adds and removes of images

module _ {X Y : Type 0} (f : X → Y) where
  mutual
    pub adds-map : (xs : List X) → map f (adds xs) ≡ adds (map f xs)
    adds-map [] = refl
    adds-map (x ∷ xs) = ap (λ ys. f x ∷ ys) (removes-map xs)

    pub removes-map : (xs : List X) → map f (removes xs) ≡ removes (map f xs)
    removes-map [] = refl
    removes-map (x ∷ xs) = adds-map xs

pub values-same : (values : Values) → map (option_map (λ (value : TreeValue). value)) values ≡ values
values-same [] = refl
values-same (None ∷ values) = ap (λ rest. None ∷ rest) (values-same values)
values-same (Some value ∷ values) = ap (λ rest. Some value ∷ rest) (values-same values)

-- ---- unresolved merges

pub unresolved : (values : Values) → 1 < length values → list_all is_tree_or_absent values ≡ are_trees values
unresolved [] h = absurd (omega arith)
unresolved (v ∷ []) h = absurd (omega arith)
unresolved (v ∷ w ∷ values) h = refl

-- ---- fields of files: prepended to the fields collected so far

module _ {A : Type 0} (part : TreeValue → Option A) where
  same : (o : Option (List (Option A))) → o ≡ option_map (λ rest. [] ++ rest) o
  same None = refl
  same (Some rest) = refl

  pub parts-start : (values : Values) → parts part values ≡ option_map (λ rest. [] ++ rest) (parts part values)
  parts-start values = same (parts part values)

  pushed : (done : List (Option A)) (x : Option A) (o : Option (List (Option A))) → option_map (λ rest. done ++ rest) (option_map (λ rest. x ∷ rest) o) ≡ option_map (λ rest. (done ++ x ∷ []) ++ rest) o
  pushed done x None = refl
  pushed done x (Some rest) = ap Some (sym (append_assoc done (x ∷ []) rest))

  parts-next : (done : List (Option A)) (v : Option TreeValue) (values : Values) (x : Option A) → Some x ≡ part_at part v → option_map (λ rest. done ++ rest) (parts part (v ∷ values)) ≡ option_map (λ rest. (done ++ x ∷ []) ++ rest) (parts part values)
  parts-next done v values x e = rw (← e) (pushed done x (parts part values))

  parts-missing : (done : List (Option A)) (v : Option TreeValue) (values : Values) → None ≡ part_at part v → option_map (λ rest. done ++ rest) (parts part (v ∷ values)) ≡ None
  parts-missing done v values e = rw (← e) refl

  -- the steps above at index i of a list xs, whose items are mapped to values by seen
  module _ {X : Type 0} (seen : X → Option TreeValue) (xs : List X) (i : ℕ) (x : X) (lt : i < length xs) (at : x ≡ get_or xs i x) (done : List (Option A)) (whole : Option (List (Option A)))
      (made : whole ≡ option_map (λ rest. done ++ rest) (parts part (map seen (drop i xs)))) where
    at_next : whole ≡ option_map (λ rest. done ++ rest) (parts part (seen x ∷ map seen (drop (i + 1) xs)))
    at_next =
        made ∙ at_drop_more (λ ts. option_map (λ rest. done ++ rest) (parts part (map seen ts))) xs i x lt
        ∙ ap (λ y. option_map (λ rest. done ++ rest) (parts part (seen y ∷ map seen (drop (i + 1) xs)))) (sym at)

    pub parts-next_at : (a : Option A) → Some a ≡ part_at part (seen x) → whole ≡ option_map (λ rest. (done ++ a ∷ []) ++ rest) (parts part (map seen (drop (i + 1) xs)))
    parts-next_at a e = at_next ∙ parts-next done (seen x) (map seen (drop (i + 1) xs)) a e

    pub parts-missing_at : None ≡ part_at part (seen x) → whole ≡ None
    parts-missing_at e = at_next ∙ parts-missing done (seen x) (map seen (drop (i + 1) xs)) e

-- ---- a string after two appends

pub after_both : (start first second third : List ℕ) (removed added removed' added' : List ℕ) → first ≡ start → second ≡ first ++ removed → third ≡ second ++ added → removed ≡ removed' → added ≡ added' → third ≡ start ++ (removed' ++ added')
after_both start first second third removed added removed' added' e f g h i =
    g ∙ ap (λ s. s ++ added) (f ∙ ap (λ s. s ++ removed) e) ∙ append_assoc start removed added ∙ (λ j. start ++ (h j ++ i j))

-- ---- new file ids

pub ids-next : (done : Values) (v : Option TreeValue) (values : Values) (id : Option (List ℕ)) (ids : List (Option (List ℕ))) → done ++ with_file_ids (v ∷ values) (id ∷ ids) ≡ (done ++ with_file_id v id ∷ []) ++ with_file_ids values ids
ids-next done v values id ids = sym (append_assoc done (with_file_id v id ∷ []) (with_file_ids values ids))

module _ {A B : Type 0} (R : A → B → Type 0) where
  pub zip-lengths : (xs : List A) (ys : List B) → AllZip R xs ys → length ys ≡ length xs
  zip-lengths [] [] z = refl
  zip-lengths [] (y ∷ ys) z = absurd z
  zip-lengths (x ∷ xs) [] z = absurd z
  zip-lengths (x ∷ xs) (y ∷ ys) z = ap (λ (n : ℕ). suc n) (zip-lengths xs ys z.1)
