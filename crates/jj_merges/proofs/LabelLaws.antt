-- Labels as strings: of a merge, of its sides, and at indices.
use Rattle.std.proofs.Common.{◌≡◌, ℕ, ◌<◌, suc, zero, true, false, cond, List, [], ◌∷◌, length, map, Option, Some, None, refl, ap, arith, sym, ◌∙◌}
use Rattle.std.specs.Prelude.{slice_get}
use Rattle.std.specs.List.{cons_option, AllZip}
use Rattle.std.specs.Option.{option_map}
use Rattle.std.proofs.lemmas.Option.{slice_get-map}
use Rattle.jj_merges.specs.Merge.{adds, removes}
use Rattle.jj_merges.specs.Simplify.{at_indices}
use Rattle.jj_merges.specs.Labels.{is_unlabeled, normalized_labels, IsNormalized, nonempty}

mutual
  pub adds-map : {A B : Type 0} (f : A → B) (xs : List A) → adds (map f xs) ≡ map f (adds xs)
  adds-map f [] = refl
  adds-map f (x ∷ xs) = ap (λ ys. f x ∷ ys) (removes-map f xs)

  pub removes-map : {A B : Type 0} (f : A → B) (xs : List A) → removes (map f xs) ≡ map f (removes xs)
  removes-map f [] = refl
  removes-map f (x ∷ xs) = adds-map f xs

one_add : (i : ℕ) → nonempty (slice_get ([] ∷ []) i) ≡ None
one_add zero = refl
one_add (suc i) = refl

-- an unlabeled conflict has no nonempty label
nonempty-on : (side : List (List ℕ) → List (List ℕ)) (i : ℕ) → nonempty (slice_get (side ([] ∷ [])) i) ≡ nonempty (slice_get (side []) i)
    → (strings : List (List ℕ)) → IsNormalized strings → nonempty (slice_get (side strings) i) ≡ nonempty (slice_get (side (normalized_labels strings)) i)
nonempty-on side i nothing strings h =
    elim (is_unlabeled strings) as (λ b. is_unlabeled strings ≡ b → nonempty (slice_get (side strings) i) ≡ nonempty (slice_get (side (cond b [] strings)) i)) [
      | true ↦ λ e. ap (λ ts. nonempty (slice_get (side ts) i)) (h e) ∙ nothing
      | false ↦ λ e. refl
    ] refl

-- the nonempty label at an index of one side
module _ {L : Type 0} (f : L → List ℕ) (labels : List L) (strings : List (List ℕ)) (i : ℕ) (normal : IsNormalized (map f labels)) (view : normalized_labels (map f labels) ≡ strings) where
  nonempty-side : (side : List L → List L) (strings_on : List (List ℕ) → List (List ℕ)) → strings_on (map f labels) ≡ map f (side labels)
      → nonempty (slice_get (strings_on ([] ∷ [])) i) ≡ nonempty (slice_get (strings_on []) i) → (label : Option L) (string : Option (List ℕ))
      → string ≡ nonempty (option_map f label) → label ≡ slice_get (side labels) i → string ≡ nonempty (slice_get (strings_on strings) i)
  nonempty-side side strings_on same nothing label string shown at =
      shown
      ∙ ap (λ o. nonempty (option_map f o)) at
      ∙ ap nonempty (sym (slice_get-map f (side labels) i) ∙ ap (λ ts. slice_get ts i) (sym same))
      ∙ nonempty-on strings_on i nothing (map f labels) normal
      ∙ ap (λ ts. nonempty (slice_get (strings_on ts) i)) view

  pub nonempty-add : (label : Option L) (string : Option (List ℕ)) → string ≡ nonempty (option_map f label) → label ≡ slice_get (adds labels) i → string ≡ nonempty (slice_get (adds strings) i)
  nonempty-add = nonempty-side adds adds (adds-map f labels) (one_add i)

  pub nonempty-remove : (label : Option L) (string : Option (List ℕ)) → string ≡ nonempty (option_map f label) → label ≡ slice_get (removes labels) i → string ≡ nonempty (slice_get (removes strings) i)
  nonempty-remove = nonempty-side removes removes (removes-map f labels) refl

-- labels that are not dropped are unchanged
pub normalized_labels-nonempty : (strings : List (List ℕ)) → 0 < length (normalized_labels strings) → normalized_labels strings ≡ strings
normalized_labels-nonempty strings =
    elim (is_unlabeled strings) as (λ b. 0 < length (cond b [] strings) → cond b [] strings ≡ strings) [ true ↦ λ h. absurd (omega arith) | false ↦ λ h. refl ]

pub empty_list : {A : Type 0} (xs : List A) → length xs ≡ 0 → xs ≡ []
empty_list [] h = refl
empty_list (x ∷ xs) h = absurd (omega arith)

pub at_indices-nil : {A : Type 0} (ps : List ℕ) → at_indices {T = A} [] ps ≡ []
at_indices-nil [] = refl
at_indices-nil (p ∷ ps) = at_indices-nil ps

pub at_indices-map : {A B : Type 0} (f : A → B) (xs : List A) (ps : List ℕ) → at_indices (map f xs) ps ≡ map f (at_indices xs ps)
at_indices-map f xs [] = refl
at_indices-map {A} {B} f xs (p ∷ ps) =
    let rest = at_indices-map f xs ps in
    ap (λ o. cons_option o (at_indices (map f xs) ps)) (slice_get-map f xs p)
    ∙ elim (slice_get xs p) as (λ o. cons_option (option_map f o) (at_indices (map f xs) ps) ≡ map f (cons_option o (at_indices xs ps))) [ None ↦ rest | Some x ↦ ap (λ ys. f x ∷ ys) rest ]

pub map-clones : {A B : Type 0} (f : A → B) (xs ys : List A) → AllZip (λ x y. f y ≡ f x) xs ys → map f ys ≡ map f xs
map-clones f [] [] h = refl
map-clones f [] (y ∷ ys) h = absurd h
map-clones f (x ∷ xs) [] h = absurd h
map-clones f (x ∷ xs) (y ∷ ys) h = λ i. h.0 i ∷ map-clones f xs ys h.1 i
