-- The terms at the positions that are left, with one more position.
use Rattle.std.proofs.Common.{◌≡◌, ◌∙◌, ℕ, ◌+◌, ◌<◌, List, [], ◌∷◌, ◌++◌, length, map, drop, refl, ap, sym, arith, get_or}
use Rattle.std.specs.Prelude.{slice_get, slice_index}
use Rattle.std.specs.List.{cons_option}
use Rattle.std.proofs.lemmas.List.{append_assoc, drop-append-le, length-drop, length-map, map_push}
use Rattle.std.proofs.lemmas.List.Elements.{filter_map-append}
use Rattle.std.proofs.lemmas.Option.{slice_get_read}
use Rattle.jj_merges.specs.Merge.{interleave}
use Rattle.jj_merges.specs.Simplify.{at_indices}
use Rattle.jj_program.specs.MergeSimplify.{remove_at, sides_at}

interleave-more : (xs ys : List ℕ) (x y : ℕ) → length xs ≡ length ys + 1 → interleave (xs ++ x ∷ []) (ys ++ y ∷ []) ≡ interleave xs ys ++ (y ∷ x ∷ [])
interleave-more [] ys x y e = absurd (omega arith)
interleave-more (a ∷ []) [] x y e = refl
interleave-more (a ∷ b ∷ xs) [] x y e = absurd (omega arith)
interleave-more (a ∷ xs) (b ∷ ys) x y e = ap (λ zs. a ∷ b ∷ zs) (interleave-more xs ys x y (omega arith))

-- the indices of the terms at these positions
abbrev pub indices_at : List ℕ → List ℕ → List ℕ
indices_at adds ps = let sides = sides_at adds ps in interleave sides.adds sides.removes

indices-more : (adds ps : List ℕ) (p : ℕ) → 0 < length ps → indices_at adds (ps ++ p ∷ []) ≡ indices_at adds ps ++ (remove_at p ∷ slice_index adds p ∷ [])
indices-more adds ps p some =
    let wide = length-map ps remove_at in
    let first = map_push (slice_index adds) ps p in
    let second = ap (drop 1) (map_push remove_at ps p) ∙ drop-append-le 1 (map remove_at ps) (remove_at p ∷ []) (omega arith) in
    (λ i. interleave (first i) (second i))
    ∙ interleave-more (map (slice_index adds) ps) (drop 1 (map remove_at ps)) (slice_index adds p) (remove_at p)
    (omega (arith, length-map ps (slice_index adds), length-drop 1 (map remove_at ps)))

module _ {X : Type 0} (terms : List X) where
  one-term : (i : ℕ) (x : X) → i < length terms → x ≡ get_or terms i x → (rest : List ℕ) → at_indices terms (i ∷ rest) ≡ x ∷ at_indices terms rest
  one-term i x within read rest = ap (λ o. cons_option o (at_indices terms rest)) (slice_get_read terms (length terms) i x refl within read)

  pub first-term : (adds : List ℕ) (x : X) → slice_index adds 0 < length terms → x ≡ get_or terms (slice_index adds 0) x
      → x ∷ [] ≡ at_indices terms (indices_at adds (0 ∷ []))
  first-term adds x within read = sym (one-term (slice_index adds 0) x within read [])

  -- the remove and the add of one more position
  pub two-terms : (adds ps : List ℕ) (p : ℕ) (x y : X) → 0 < length ps → remove_at p < length terms → x ≡ get_or terms (remove_at p) x
      → slice_index adds p < length terms → y ≡ get_or terms (slice_index adds p) y
      → (at_indices terms (indices_at adds ps) ++ x ∷ []) ++ y ∷ [] ≡ at_indices terms (indices_at adds (ps ++ p ∷ []))
  two-terms adds ps p x y some within_x read_x within_y read_y =
      let last : at_indices terms (remove_at p ∷ slice_index adds p ∷ []) ≡ x ∷ y ∷ [] =
      one-term (remove_at p) x within_x read_x (slice_index adds p ∷ []) ∙ ap (λ ys. x ∷ ys) (one-term (slice_index adds p) y within_y read_y []) in
      append_assoc (at_indices terms (indices_at adds ps)) (x ∷ []) (y ∷ [])
      ∙ sym (ap (at_indices terms) (indices-more adds ps p some)
      ∙ filter_map-append (slice_get terms) (indices_at adds ps) (remove_at p ∷ slice_index adds p ∷ [])
      ∙ ap (λ ys. at_indices terms (indices_at adds ps) ++ ys) last)
