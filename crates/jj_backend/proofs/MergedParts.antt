-- Lists of strings mapped to their bytes: clones, content bytes and lengths.
use Rattle.std.proofs.Common.{◌≡◌, ℕ, ◌<◌, ◌^◌, List, [], ◌∷◌, ◌++◌, length, map, refl, sym, ap}
use Rattle.std.specs.List.{AllZip, flat_map}
use Rattle.std.proofs.lemmas.List.Elements.{All-map}
use Rattle.std.proofs.lemmas.List.{length-map}
use Rattle.jj_content.specs.Content.{list_content, u64_content}
use Rattle.jj_merges.specs.Contents.{IsMergeOf}
use Rattle.jj_merges.specs.Merge.{IsOdd}

module _ {X Y : Type 0} (f : X → Y) where
  pub map-clones : (xs ys : List X) → AllZip (λ x y. f y ≡ f x) xs ys → map f ys ≡ map f xs
  map-clones [] [] z = refl
  map-clones [] (y ∷ ys) z = absurd z
  map-clones (x ∷ xs) [] z = absurd z
  map-clones (x ∷ xs) (y ∷ ys) z = let first = z.0 in let rest = map-clones xs ys z.1 in λ i. first i ∷ rest i

  flat_map-map : (content : Y → List ℕ) (xs : List X) → flat_map (λ x. content (f x)) xs ≡ flat_map content (map f xs)
  flat_map-map content [] = refl
  flat_map-map content (x ∷ xs) = ap (λ rest. content (f x) ++ rest) (flat_map-map content xs)

  pub list_content-map : (content : Y → List ℕ) (xs : List X) → list_content (λ x. content (f x)) xs ≡ list_content content (map f xs)
  unfolding list_content
  list_content-map content xs =
      let long : length xs ≡ length (map f xs) = sym (length-map xs f) in
      let items = flat_map-map content xs in
      λ i. u64_content (long i) ++ items i

-- the length is odd and below 2 ^ 64, and each item satisfies P
pub is_merge_of-map : {X Y : Type 0} (f : X → Y) (P : Y → Type 0) (xs : List X) → IsMergeOf (λ x. P (f x)) xs → IsMergeOf P (map f xs)
is_merge_of-map f P xs terms =
    let odd : IsOdd (length (map f xs)) = rw (length-map xs f) terms.0 in
    let short : length (map f xs) < 2 ^ 64 = rw (length-map xs f) terms.1.0 in
    (odd, (short, All-map P f xs terms.1.1))
