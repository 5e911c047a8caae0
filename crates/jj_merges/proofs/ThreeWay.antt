-- The values that a merge of three terms resolves to.
use Rattle.std.proofs.Common.{◌≡◌, ◌⊎◌, inl, inr, Bool, true, [], ◌∷◌, arith}
use Rattle.std.specs.Cmp.{IsEquivalence}
use Rattle.std.proofs.lemmas.Int.{ints}
use Rattle.jj_merges.specs.Resolution.{ResolvesTo}
use Rattle.jj_merges.specs.declared.merge.SameChange.TheVariants.{Keep, Accept}

module _ {T : Type 0} (eq : T → T → Bool) (laws : IsEquivalence eq) where
  module _ (left base right v : T) where
    -- one side is equal to the base, and v to the other side
    abbrev Keeps : Type 0
    Keeps = ((eq base left ≡ true) × (eq v right ≡ true)) ⊎ ((eq base right ≡ true) × (eq v left ≡ true))

    -- or both sides are equal, and v is equal to them
    abbrev Accepts : Type 0
    Accepts = ((eq base left ≡ true) × (eq v right ≡ true))
        ⊎ ((eq base right ≡ true) × (eq v left ≡ true))
        ⊎ ((eq left right ≡ true) × (eq v left ≡ true))

    pub accepted : ResolvesTo eq Accept (left ∷ base ∷ right ∷ []) v → Accepts
    accepted d = grind (arith, ints, d.0, d.1 left, d.1 right, laws.refl, laws.symm v left, laws.symm v right, laws.symm v base, laws.congr base v left, laws.congr base v right, laws.symm left right, laws.congr left v right)

    pub accepting : Accepts → ResolvesTo eq Accept (left ∷ base ∷ right ∷ []) v
    accepting (inl (same, is)) = (
      grind (arith, ints, is, same, laws.symm v base, laws.symm v left, laws.congr base left v),
      (λ w h. grind (arith, ints, is, same, h, laws.symm w base, laws.symm w left, laws.congr base left w, laws.symm w right, laws.congr v right w)),
      (λ w x h k. grind (arith, ints, same, h, laws.symm w base, laws.symm w left, laws.congr base left w)),
    )
    accepting (inr (inl (same, is))) = (
      grind (arith, ints, is, same, laws.symm v base, laws.symm v right, laws.congr base right v),
      (λ w h. grind (arith, ints, is, same, h, laws.symm w base, laws.symm w right, laws.congr base right w, laws.symm w left, laws.congr v left w)),
      (λ w x h k. grind (arith, ints, same, h, laws.symm w base, laws.symm w right, laws.congr base right w)),
    )
    accepting (inr (inr (same, is))) = (
      grind (arith, ints, is, same, laws.congr v left right),
      (λ w h. grind (arith, ints, is, same, h, laws.symm w left, laws.symm w right, laws.congr left right w, laws.congr v left w)),
      (λ w x h k. grind (arith, ints, h, k, laws.symm x base, laws.congr w base x)),
    )

    pub kept : ResolvesTo eq Keep (left ∷ base ∷ right ∷ []) v → Keeps
    kept d = grind (arith, ints, d.0, d.1 left, d.1 right, laws.refl, laws.symm v left, laws.symm v right, laws.symm v base, laws.congr base v left, laws.congr base v right, laws.symm left right, laws.congr left v right, laws.symm left base, laws.symm right base)

    pub keeping : Keeps → ResolvesTo eq Keep (left ∷ base ∷ right ∷ []) v
    keeping (inl (same, is)) = (
      grind (arith, ints, is, same, laws.symm v base, laws.symm v left, laws.congr base left v),
      (λ w h. grind (arith, ints, is, same, h, laws.symm w base, laws.symm w left, laws.congr base left w, laws.symm w right, laws.congr v right w)),
    )
    keeping (inr (same, is)) = (
      grind (arith, ints, is, same, laws.symm v base, laws.symm v right, laws.congr base right v),
      (λ w h. grind (arith, ints, is, same, h, laws.symm w base, laws.symm w right, laws.congr base right w, laws.symm w left, laws.congr v left w)),
    )
