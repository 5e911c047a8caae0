-- A list with the elements of a singleton is that singleton.
use Rattle.std.proofs.Common.{◌≡◌, List, [], ◌∷◌, length, refl, arith}
use Rattle.std.specs.List.{AllByRecursion}
use Rattle.std.specs.List.Sorted.{IsPermutation}
use Rattle.std.proofs.lemmas.List.Elements.{recursion_from_All, All-from_recursion}
use Rattle.std.proofs.lemmas.List.Sorted.{length_permutation, All-permutation}

module _ {X : Type 0} where
  from_parts : (x : X) (ys : List X) → length ys ≡ 1 → AllByRecursion (λ y. y ≡ x) ys → ys ≡ x ∷ []
  from_parts x [] long all = absurd (omega (arith, long))
  from_parts x (y ∷ []) long all = let same = all.0 in λ i. same i ∷ []
  from_parts x (y ∷ z ∷ ys) long all = absurd (omega (arith, long))

  pub only_member : (x : X) (ys : List X) → IsPermutation (x ∷ []) ys → ys ≡ x ∷ []
  only_member x ys same =
      from_parts x ys (length_permutation (x ∷ []) ys same)
      (recursion_from_All (λ y. y ≡ x) ys (All-permutation (λ y. y ≡ x) (x ∷ []) ys same (All-from_recursion (λ y. y ≡ x) (x ∷ []) (refl, tt))))
