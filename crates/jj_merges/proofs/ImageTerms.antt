-- Merges whose terms are compared by an image of each, as strings by their bytes, behave as the merges of these images.
use Rattle.std.proofs.Common.{◌≡◌, ◌∙◌, ℕ, ◌+◌, Bool, true, List, [], ◌∷◌, Option, Some, None, cond, length, map, refl, sym, ap, subst}
use Rattle.std.specs.Prelude.{pos, ◌-ℤ◌, ◌<ℤ◌, count_by, slice_get}
use Rattle.std.specs.List.{cons_option}
use Rattle.std.specs.Option.{option_map}
use Rattle.std.specs.Ordering.{on}
use Rattle.std.proofs.lemmas.List.Folds.{fold-map}
use Rattle.std.proofs.lemmas.Option.{slice_get-map}
use Rattle.std.proofs.Math.ListN.{length-map}
use Rattle.jj_merges.specs.declared.merge.SameChange.{SameChange}
use Rattle.jj_merges.specs.declared.merge.SameChange.TheVariants.{Keep, Accept}
use Rattle.jj_merges.specs.Merge.{HaveSameCounts, adds, interleave, removes, signed_count}
use Rattle.jj_merges.specs.Resolution.{ResolvesTo}
use Rattle.jj_merges.specs.Simplify.{at_indices, cancel_from, equal_at, simplified_indices, split_indices}
use Rattle.jj_merges.proofs.Cancellation.{equal_options, simplified_sides}

module _ {T U : Type 0} (f : T → U) where
  mutual
    pub adds-map : (m : List T) → adds (map f m) ≡ map f (adds m)
    adds-map [] = refl
    adds-map (x ∷ xs) = ap (λ l. f x ∷ l) (removes-map xs)

    pub removes-map : (m : List T) → removes (map f m) ≡ map f (removes m)
    removes-map [] = refl
    removes-map (x ∷ xs) = adds-map xs

  cons_option-map : (o : Option T) (xs : List T) → cons_option (option_map f o) (map f xs) ≡ map f (cons_option o xs)
  cons_option-map None xs = refl
  cons_option-map (Some x) xs = refl

  pub at_indices-map : (m : List T) (indices : List ℕ) → at_indices (map f m) indices ≡ map f (at_indices m indices)
  at_indices-map m [] = refl
  at_indices-map m (p ∷ ps) =
      let at_p = slice_get-map f m p in
      let rest = at_indices-map m ps in
      (λ i. cons_option (at_p i) (rest i)) ∙ cons_option-map (slice_get m p) (at_indices m ps)

  count-map : (p : U → Bool) (xs : List T) → count_by p (map f xs) ≡ count_by (λ x. p (f x)) xs
  count-map p xs = fold-map (λ a x. a + cond (p x) 1 0) f 0 xs

  module _ (eq : U → U → Bool) where
    pub signed_count-map : (m : List T) (v : T) → signed_count eq (map f m) (f v) ≡ signed_count (on f eq) m v
    signed_count-map m v =
        let added = ap (count_by (eq (f v))) (adds-map m) ∙ count-map (eq (f v)) (adds m) in
        let removed = ap (count_by (eq (f v))) (removes-map m) ∙ count-map (eq (f v)) (removes m) in
        λ i. pos (added i) -ℤ pos (removed i)

    equal_options-map : (o p : Option T) → equal_options eq (option_map f o) (option_map f p) ≡ equal_options (on f eq) o p
    equal_options-map None p = refl
    equal_options-map (Some x) None = refl
    equal_options-map (Some x) (Some y) = refl

    equal_at-map : (m : List T) (p q : ℕ) → equal_at eq (map f m) p q ≡ equal_at (on f eq) m p q
    equal_at-map m p q =
        let at_p = slice_get-map f m p in
        let at_q = slice_get-map f m q in
        ap (λ o. equal_options eq o (slice_get (map f m) q)) at_p
        ∙ ap (λ o. equal_options eq (option_map f (slice_get m p)) o) at_q
        ∙ equal_options-map (slice_get m p) (slice_get m q)

    pub simplified_indices-map : (m : List T) → simplified_indices eq (map f m) ≡ simplified_indices (on f eq) m
    unfolding simplified_indices
    simplified_indices-map m =
        let same : ◌≡◌ {A = ℕ → ℕ → Bool} (equal_at eq (map f m)) (equal_at (on f eq) m) = λ i p q. (equal_at-map m p q) i in
        let sides = ap length (adds-map m) ∙ length-map (adds m) f in
        let len = length-map m f in
        let kept : simplified_sides eq (map f m) ≡ simplified_sides (on f eq) m = λ i. cancel_from (same i) (sides i) 0 (split_indices (len i)) in
        ap (λ s. interleave s.adds s.removes) kept

    -- every image is that of a term, as the bytes of a string that has them
    module _ (term : U → T) (image : (u : U) → f (term u) ≡ u) where
      count_of : (m : List T) (u : U) → signed_count eq (map f m) u ≡ signed_count (on f eq) m (term u)
      count_of m u = ap (signed_count eq (map f m)) (sym (image u)) ∙ signed_count-map m (term u)

      pub resolves_image : (same_change : SameChange) (m : List T) (v : T) → ResolvesTo (on f eq) same_change m v → ResolvesTo eq same_change (map f m) (f v)
      resolves_image Keep m v d = (
        signed_count-map m v ∙ d.0,
        λ w some. subst (λ u. eq (f v) u ≡ true) (image w) (d.1 (term w) (λ none. some (count_of m w ∙ none))),
      )
      resolves_image Accept m v d = (
        subst (λ n. pos 0 <ℤ n) (sym (signed_count-map m v)) d.0,
        λ w up. subst (λ u. eq (f v) u ≡ true) (image w) (d.1 (term w) (subst (λ n. pos 0 <ℤ n) (count_of m w) up)),
        λ w x down below. subst (λ u. eq w u ≡ true) (image x) (subst (λ u. eq u (f (term x)) ≡ true) (image w)
            (d.2 (term w) (term x) (subst (λ n. n <ℤ pos 0) (count_of m w) down) (subst (λ n. n <ℤ pos 0) (count_of m x) below))),
      )

      pub resolves_term : (same_change : SameChange) (m : List T) (u : U) → ResolvesTo eq same_change (map f m) u → ResolvesTo (on f eq) same_change m (term u)
      resolves_term Keep m u d = (
        sym (count_of m u) ∙ d.0,
        λ w some. subst (λ v. eq v (f w) ≡ true) (sym (image u)) (d.1 (f w) (λ none. some (sym (signed_count-map m w) ∙ none))),
      )
      resolves_term Accept m u d = (
        subst (λ n. pos 0 <ℤ n) (count_of m u) d.0,
        λ w up. subst (λ v. eq v (f w) ≡ true) (sym (image u)) (d.1 (f w) (subst (λ n. pos 0 <ℤ n) (sym (signed_count-map m w)) up)),
        λ w x down below. d.2 (f w) (f x) (subst (λ n. n <ℤ pos 0) (sym (signed_count-map m w)) down) (subst (λ n. n <ℤ pos 0) (sym (signed_count-map m x)) below),
      )

-- merges with the same signed counts resolve to the same values
module _ {T : Type 0} (eq : T → T → Bool) where
  pub resolves_by_counts : (same_change : SameChange) (m n : List T) (v : T) → HaveSameCounts eq m n → ResolvesTo eq same_change m v → ResolvesTo eq same_change n v
  resolves_by_counts Keep m n v h d = (sym (h v) ∙ d.0, λ w some. d.1 w (λ none. some (sym (h w) ∙ none)))
  resolves_by_counts Accept m n v h d = (
    subst (λ z. pos 0 <ℤ z) (h v) d.0,
    λ w up. d.1 w (subst (λ z. pos 0 <ℤ z) (sym (h w)) up),
    λ w x down below. d.2 w x (subst (λ z. z <ℤ pos 0) (sym (h w)) down) (subst (λ z. z <ℤ pos 0) (sym (h x)) below),
  )
