-- The number of terms of a flattened merge.
use Rattle.std.proofs.Common.{◌≡◌, ◌∙◌, ℕ, suc, ◌+◌, ◌-◌, List, [], ◌∷◌, length, drop, true, refl, sym, ap, arith}
use Rattle.std.specs.Prelude.{slice_range}
use Rattle.std.specs.List.{range_with_len}
use Rattle.std.proofs.lemmas.List.{length-append, length-drop, length-take-le}
use Rattle.std.proofs.lemmas.List.FromFn.{length-range_with_len}
use Rattle.jj_merges.specs.Flatten.{flattened_after_add, flattened_terms, inverse_terms, swap_pairs}
use Rattle.jj_core_c.specs.FlattenResults.{indexed_merges, term_count}
use Rattle.jj_core_c.specs.Pieces.{are_ends, are_ends_from, pieces_from, start_of}
use Rattle.jj_core_c.proofs.PieceLists.{both, piece_in_range, start_tail}

module _ {T : Type 0} where
  abbrev total : List (List T) → ℕ
  total [] = 0
  total (m ∷ ms) = length m + total ms

  length_swapped : (xs : List T) → length (swap_pairs xs) ≡ length xs
  length_swapped [] = refl
  length_swapped (x ∷ []) = refl
  length_swapped (r ∷ a ∷ xs) = ap (λ (n : ℕ). suc (suc n)) (length_swapped xs)

  length_inverse : (m : List T) → length (inverse_terms m) ≡ length m
  length_inverse [] = refl
  length_inverse (x ∷ xs) = let k = length_swapped xs in length-append (swap_pairs xs) (x ∷ []) ∙ omega (arith, k)

  mutual
    length_flattened : (ms : List (List T)) → length (flattened_terms ms) ≡ total ms
    length_flattened [] = refl
    length_flattened (m ∷ ms) = length-append m (flattened_after_add ms) ∙ ap (λ (n : ℕ). length m + n) (length_after_add ms)

    length_after_add : (ms : List (List T)) → length (flattened_after_add ms) ≡ total ms
    length_after_add [] = refl
    length_after_add (m ∷ ms) =
        length-append (inverse_terms m) (flattened_terms ms)
        ∙ ap (λ (n : ℕ). n + length (flattened_terms ms)) (length_inverse m) ∙ ap (λ (n : ℕ). length m + n) (length_flattened ms)

  -- the lengths of the pieces
  length_joined : (items : List T) (start : ℕ) (ends : List ℕ) → are_ends_from (length items) start ends ≡ true
      → start + total (pieces_from items start ends) ≡ start_of start ends (length ends)
  length_joined items start [] valid = omega arith
  length_joined items start (end ∷ ends) valid =
      let within = piece_in_range (length items) start (end ∷ ends) 0 valid (omega arith) in
      let here : length (slice_range items start end) ≡ end - start =
      length-take-le (end - start) (drop start items) (omega (arith, length-drop start items, within.1)) in
      let rest = length_joined items end ends (both _ _ valid).1 in
      let later = total (pieces_from items end ends) in
      let piece : start + (length (slice_range items start end) + later) ≡ end + later = omega (arith, here, within.0) in
      piece ∙ rest ∙ sym (start_tail start end ends (length ends))

-- a flattened merge has all the terms
pub length_indexed : (ends : List ℕ) → are_ends (term_count ends) ends ≡ true → length (flattened_terms (indexed_merges ends)) ≡ term_count ends
length_indexed ends valid =
    let items = range_with_len 0 (term_count ends) in
    let len = length-range_with_len 0 (term_count ends) in
    let joined = length_joined items 0 ends (rw len valid) in
    let whole : total (indexed_merges ends) ≡ 0 + total (indexed_merges ends) = omega arith in
    length_flattened (indexed_merges ends) ∙ whole ∙ joined
