-- Merges of terms that are equal if their bytes are behave as merges of these bytes.
use Rattle.std.proofs.Common.{◌≡◌, ◌∙◌, ℕ, Bool, List, [], ◌∷◌, Option, Some, None, length, map, refl, sym, ap, arith, get_or, ◌+◌, ◌%◌}
use Rattle.std.specs.Prelude.{slice_get}
use Rattle.std.specs.List.{AllZip, range_with_len}
use Rattle.std.specs.Option.{option_map}
use Rattle.std.specs.Ordering.{on}
use Rattle.std.specs.Str.{bytes_eq}
use Rattle.std.proofs.lemmas.List.Elements.{All-head, All-tail}
use Rattle.std.proofs.lemmas.List.FromFn.{get_or-range_with_len}
use Rattle.std.proofs.lemmas.Option.{get_or_from_slice_get, slice_get-map, slice_get_within}
use Rattle.std.proofs.Math.ListN.{length-map}
use Rattle.jj_merges.specs.Merge.{adds, removes, interleave}
use Rattle.jj_merges.specs.Simplify.{equal_at, cancel_from, split_indices, simplified_indices, at_indices}
use Rattle.jj_merges.proofs.Cancellation.{equal_options, simplified_sides}
use Rattle.jj_merges.proofs.SimplifiedIndices.{AllHaveTerms, simplified_have_terms}

module _ {T : Type 0} (bytes_of : T → List ℕ) where
  mutual
    pub adds-map : (m : List T) → adds (map bytes_of m) ≡ map bytes_of (adds m)
    adds-map [] = refl
    adds-map (x ∷ xs) = ap (λ l. bytes_of x ∷ l) (removes-map xs)

    pub removes-map : (m : List T) → removes (map bytes_of m) ≡ map bytes_of (removes m)
    removes-map [] = refl
    removes-map (x ∷ xs) = adds-map xs

  equal_options-map : (o p : Option T) → equal_options bytes_eq (option_map bytes_of o) (option_map bytes_of p) ≡ equal_options (on bytes_of bytes_eq) o p
  equal_options-map None p = refl
  equal_options-map (Some x) None = refl
  equal_options-map (Some x) (Some y) = refl

  equal_at-map : (m : List T) (p q : ℕ) → equal_at bytes_eq (map bytes_of m) p q ≡ equal_at (on bytes_of bytes_eq) m p q
  equal_at-map m p q =
      let at_p = slice_get-map bytes_of m p in
      let at_q = slice_get-map bytes_of m q in
      ap (λ o. equal_options bytes_eq o (slice_get (map bytes_of m) q)) at_p
      ∙ ap (λ o. equal_options bytes_eq (option_map bytes_of (slice_get m p)) o) at_q
      ∙ equal_options-map (slice_get m p) (slice_get m q)

  simplified_indices-map : (m : List T) → simplified_indices bytes_eq (map bytes_of m) ≡ simplified_indices (on bytes_of bytes_eq) m
  unfolding simplified_indices
  simplified_indices-map m =
      let same : ◌≡◌ {A = ℕ → ℕ → Bool} (equal_at bytes_eq (map bytes_of m)) (equal_at (on bytes_of bytes_eq) m) = λ i p q. (equal_at-map m p q) i in
      let sides = ap length (adds-map m) ∙ length-map (adds m) bytes_of in
      let len = length-map m bytes_of in
      let kept : simplified_sides bytes_eq (map bytes_of m) ≡ simplified_sides (on bytes_of bytes_eq) m = λ i. cancel_from (same i) (sides i) 0 (split_indices (len i)) in
      ap (λ s. interleave s.adds s.removes) kept

abbrev HasTerm : {T : Type 0} → (ℕ → Option T) → ℕ → Type 0
HasTerm {T} f p = (x : T) × (f p ≡ Some x)

-- the terms at some indices have these indices
indices_at : {T : Type 0} (index_of : T → ℕ) (m : List T) (indices : List ℕ) → map index_of m ≡ range_with_len 0 (length m) → AllHaveTerms (slice_get m) indices
    → map index_of (at_indices m indices) ≡ indices
indices_at {T} index_of m [] numbered have = refl
indices_at {T} index_of m (p ∷ indices) numbered have =
    let here = All-head (HasTerm (slice_get m)) p indices have in
    let first = index_is here.0 here.1 in
    let rest = indices_at index_of m indices numbered (All-tail (HasTerm (slice_get m)) p indices have) in
    rw here.1 (λ i. (first i) ∷ (rest i))
  where
    index_is : (x : T) → slice_get m p ≡ Some x → index_of x ≡ p
    index_is x at =
        let seen : slice_get (map index_of m) p ≡ Some (index_of x) = slice_get-map index_of m p ∙ ap (option_map index_of) at in
        let place : 0 + p ≡ p = omega arith in
        sym (get_or_from_slice_get (map index_of m) p (index_of x) 0 seen) ∙ ap (λ (l : List ℕ). get_or l p 0) numbered ∙ get_or-range_with_len 0 (length m) p 0 (slice_get_within m p x at) ∙ place

same_items : {T : Type 0} (xs ys : List T) → AllZip (λ x y. y ≡ x) xs ys → ys ≡ xs
same_items [] [] h = refl
same_items [] (y ∷ ys) h = absurd h
same_items (x ∷ xs) [] h = absurd h
same_items (x ∷ xs) (y ∷ ys) h = let first : y ≡ x = h.0 in let rest = same_items xs ys h.1 in λ i. (first i) ∷ (rest i)

-- the indices of the terms that remain
pub remaining : {T : Type 0} (bytes_of : T → List ℕ) (index_of : T → ℕ) (m left : List T) → length m % 2 ≡ 1 → map index_of m ≡ range_with_len 0 (length m)
    → AllZip (λ x y. y ≡ x) (at_indices m (simplified_indices (on bytes_of bytes_eq) m)) left
    → map index_of left ≡ simplified_indices bytes_eq (map bytes_of m)
remaining bytes_of index_of m left odd numbered same =
    ap (map index_of) (same_items _ left same)
    ∙ indices_at index_of m (simplified_indices (on bytes_of bytes_eq) m) numbered (simplified_have_terms (on bytes_of bytes_eq) m odd)
    ∙ sym (simplified_indices-map bytes_of m)
