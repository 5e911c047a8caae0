-- Loop invariants: clones of a prefix.
use Rattle.std.proofs.Common.{◌≡◌, ℕ, ◌+◌, ◌<◌, ◌≤◌, List, [], ◌∷◌, ◌++◌, length, map, take, Option, Some, None, refl, ap, arith, get_or, subst, inr, ◌∙◌, append_assoc}
use Rattle.std.specs.Prelude.{slice_get, slice_index}
use Rattle.std.specs.List.{AllZip, AllClonesOf, AppendsClonesOf, filter_map, cons_option}
use Rattle.std.proofs.lemmas.List.{take_more, take_all, map-append, length-map}
use Rattle.std.proofs.lemmas.List.Elements.{AllZip-push, length_all_zip}
use Rattle.std.proofs.lemmas.Option.{slice_get_read}
use Rattle.jj_merges.specs.Simplify.{at_indices}

cons_option-push : {B : Type 0} (o : Option B) (xs ys : List B) (y : B) → ys ≡ xs ++ y ∷ [] → cons_option o ys ≡ cons_option o xs ++ y ∷ []
cons_option-push None xs ys y e = e
cons_option-push (Some z) xs ys y e = ap (λ zs. z ∷ zs) e

pub filter_map-push : {A B : Type 0} (f : A → Option B) (xs : List A) (x : A) (y : B) → f x ≡ Some y → filter_map f (xs ++ x ∷ []) ≡ filter_map f xs ++ y ∷ []
filter_map-push f [] x y e = rw e refl
filter_map-push f (z ∷ xs) x y e = cons_option-push (f z) (filter_map f xs) (filter_map f (xs ++ x ∷ [])) y (filter_map-push f xs x y e)

pub clones_more : {T : Type 0} (R : T → T → Type 0) (m : List T) (indices : List ℕ) (xs : List T) (i : ℕ) (x y : T) → i < length indices → slice_index indices i < length m
    → x ≡ get_or m (slice_index indices i) x → R x y → AllZip R (at_indices m (take i indices)) xs → AllZip R (at_indices m (take (i + 1) indices)) (xs ++ y ∷ [])
clones_more R m indices xs i x y hi hp ex r h =
    let here : slice_get m (slice_index indices i) ≡ Some x = slice_get_read m (length m) (slice_index indices i) x refl hp ex in
    rw (take_more indices i 0 hi, filter_map-push (slice_get m) (take i indices) (slice_index indices i) x here) (AllZip-push R (at_indices m (take i indices)) xs x y h r)

-- ys are clones of the images of the first i elements
module _ {X T : Type 0} (f : X → T) (R : T → T → Type 0) (xs : List X) (i : ℕ) (ys : List T) (so_far : AllZip R (map f (take i xs)) ys) where
  pub image_clones_more : (x : X) (y : T) (zs : List T) → i < length xs → x ≡ get_or xs i x → R (f x) y → zs ≡ ys ++ y ∷ []
      → AllZip R (map f (take (i + 1) xs)) zs
  image_clones_more x y zs hi is r e =
      rw (take_more xs i x hi, e, ← is, map-append) (AllZip-push R (map f (take i xs)) ys (f x) y so_far r)

  pub image_clones_all : length xs ≤ i → AllZip R (map f xs) ys
  image_clones_all end = subst (λ l. AllZip R (map f l) ys) (take_all i xs end) so_far

  pub length_image_clones : length xs ≤ i → length ys ≡ length xs
  length_image_clones end = omega (arith, length_all_zip R (map f xs) ys (image_clones_all end), length-map xs f)

module _ {T : Type 0} (R : T → T → Type 0) (x y : T) (r : R x y) where
  all_clones_more : (ys : List T) → AllClonesOf R x ys → AllClonesOf R x (ys ++ y ∷ [])
  all_clones_more [] h = (inr r, tt)
  all_clones_more (z ∷ zs) h = (h.0, all_clones_more zs h.1)

  pub appends_more : (old new next : List T) → AppendsClonesOf R old new x → next ≡ new ++ y ∷ [] → AppendsClonesOf R old next x
  appends_more old new next so_far pushed = (
    so_far.0 ++ y ∷ [],
    pushed ∙ (ap (λ zs. zs ++ y ∷ []) so_far.1 ∙ append_assoc old so_far.0 (y ∷ [])),
    all_clones_more so_far.0 so_far.2,
  )
