-- Setting a mark in a tree of marked paths.
use Rattle.std.proofs.Common.{◌≡◌, ◌≢◌, Bool, true, false, [], ◌∷◌, ◌++◌, Some, None, Option, refl, ap, sym, ◌∙◌, append_assoc, append-nil}
use mathlib.Core.Bool.{false≢true}
use Rattle.std.specs.Option.{option_map, option_and_then}
use Rattle.jj_paths.specs.Paths.{Name, Path}
use Rattle.jj_paths.specs.Orders.{path_eq, path_eq-Decides}
use Rattle.jj_paths.specs.Tree.{Tree, none, get, child, value_at}
use Rattle.jj_matchers.specs.Marks.{LeadsToMarks}
use Rattle.jj_matchers.proofs.Marks.{get-append}

abbrev pub IsBlank : Bool → Type 0
IsBlank mark = mark ≡ false

-- the path is marked, all other values are unchanged, and beyond them there are at most unmarked ancestors of the path
pub record IsMarkedAt (old : Tree Bool) (path : Path) (new : Tree Bool) : Type 0 where
  pub here : value_at new path ≡ Some true
  pub keeps : (q : Path) (v : Bool) → q ≢ path → value_at old q ≡ Some v → value_at new q ≡ Some v
  pub makes : (q : Path) (v : Bool) → q ≢ path → value_at old q ≡ None → value_at new q ≡ Some v → IsBlank v × ((rest : Path) × (path ≡ q ++ rest))

module _ (old new : Tree Bool) (path : Path) (set : IsMarkedAt old path new) where
  -- ancestors of a node are nodes
  front_has : (front rest : Path) (v : Bool) → value_at new (front ++ rest) ≡ Some v → value_at new front ≡ None → ⊥
  front_has front rest v e missing = by_node (get new front) refl
    where
      by_node : (o : Option (Tree Bool)) → get new front ≡ o → ⊥
      by_node None is =
          let gone : value_at new (front ++ rest) ≡ None = ap (option_map (λ (node : Tree Bool). node.value)) (get-append new front rest ∙ ap (option_and_then (λ (node : Tree Bool). get node rest)) is) in
          let clash : Some v ≡ None = sym e ∙ gone in cc
      by_node (Some node) is =
          let clash : Some node.value ≡ None = sym (ap (option_map (λ (node : Tree Bool). node.value)) is) ∙ missing in cc

  pub leads-set : LeadsToMarks old → LeadsToMarks new
  leads-set leads above name blank no_child = by_old (value_at old p) refl
    where
      p : Path
      p = above ++ name ∷ []

      ne : p ≢ path
      ne same = let clash : Some false ≡ Some true = sym blank ∙ ap (value_at new) same ∙ set.here in cc

      -- the old tree had no child here either
      old_child : (next : Name) → value_at old (above ++ name ∷ next ∷ []) ≡ None
      old_child next = by_value (value_at old q) refl (path_eq q path) refl
        where
          q : Path
          q = above ++ name ∷ next ∷ []

          by_value : (o : Option Bool) → value_at old q ≡ o → (t : Bool) → path_eq q path ≡ t → o ≡ None
          by_value None e t f = refl
          by_value (Some v) e true f = let clash : Some true ≡ None = sym (ap (value_at new) ((path_eq-Decides q path).0 f) ∙ set.here) ∙ no_child next in absurd (some_not_none true clash)
            where
              some_not_none : (b : Bool) → Some b ≡ None → ⊥
              some_not_none b h = cc
          by_value (Some v) e false f = let clash : Some v ≡ None = sym (set.keeps q v (λ same. false≢true (sym f ∙ (path_eq-Decides q path).1 same)) e) ∙ no_child next in absurd (some_not_none v clash)
            where
              some_not_none : (b : Bool) → Some b ≡ None → ⊥
              some_not_none b h = cc

      reaches : (rest : Path) → path ≡ p ++ rest → ⊥
      reaches [] is = ne (sym (is ∙ append-nil p))
      reaches (next ∷ rest) is =
          let whole : path ≡ (above ++ name ∷ next ∷ []) ++ rest = is ∙ append_assoc above (name ∷ []) (next ∷ rest) ∙ sym (append_assoc above (name ∷ next ∷ []) rest) in
          front_has (above ++ name ∷ next ∷ []) rest true (ap (value_at new) (sym whole) ∙ set.here) (no_child next)

      by_old : (o : Option Bool) → value_at old p ≡ o → ⊥
      by_old (Some v) e =
          let kept : Some false ≡ Some v = sym blank ∙ set.keeps p v ne e in
          let is : v ≡ false = cc in
          leads above name (e ∙ ap (λ b. Some b) is) old_child
      by_old None e = reaches (set.makes p false ne e blank).1.0 (set.makes p false ne e blank).1.1

pub leads-blank : (tree : Tree Bool) → tree.branches ≡ none → LeadsToMarks tree
leads-blank tree alone [] name blank no_child = let clash : Some false ≡ None = sym blank ∙ ap (λ b. option_map (λ (node : Tree Bool). node.value) (option_and_then (λ sub. get sub []) (child b name))) alone in cc
leads-blank tree alone (first ∷ above) name blank no_child = let clash : Some false ≡ None = sym blank ∙ ap (λ b. option_map (λ (node : Tree Bool). node.value) (option_and_then (λ sub. get sub (above ++ name ∷ [])) (child b first))) alone in cc
