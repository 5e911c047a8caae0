-- Loop step of prefix lookup: one more id.
use Rattle.std.proofs.Common.{◌≡◌, ◌≢◌, ◌∙◌, ℕ, List, [], ◌∷◌, ◌++◌, ◌+◌, ◌<◌, ◌≤◌, length, take, get_or, inl, inr, ap, sym, subst, Contains}
use Rattle.std.proofs.lemmas.List.Elements.{Contains-append_left, Contains-push, Contains-push_cases}
use Rattle.std.proofs.lemmas.List.{take_more, take_all}
use denote.Ref.{Bor}
use Rattle.jj_ids.specs.declared.object_id.prefix_resolution.PrefixResolution.{PrefixResolution}
use Rattle.jj_ids.specs.declared.object_id.prefix_resolution.PrefixResolution.TheVariants.{NoMatch, SingleMatch, AmbiguousMatch}
use Rattle.jj_ids_tests.specs.Lookups.{EncodesWithPrefix, IsLookupResult}

module _ (encode : List ℕ → List ℕ) (ids : List (List ℕ)) (prefix id : List ℕ) where
  -- an id that does not start with the prefix changes nothing
  pub no_match : (found : PrefixResolution (Bor (List ℕ))) → IsLookupResult encode ids prefix found → (EncodesWithPrefix encode id prefix → ⊥) → IsLookupResult encode (ids ++ id ∷ []) prefix found
  no_match NoMatch none other = λ it among begins.
      elim (Contains-push_cases ids id it among) [ inl before ↦ none it before begins | inr same ↦ other (subst (λ i. EncodesWithPrefix encode i prefix) (sym same) begins) ]
  no_match (SingleMatch only) (there, begins, alone) other = (
    Contains-append_left ids (id ∷ []) only.now there,
    begins,
    λ it among starts.
        elim (Contains-push_cases ids id it among) [ inl before ↦ alone it before starts | inr same ↦ absurd (other (subst (λ i. EncodesWithPrefix encode i prefix) (sym same) starts)) ],
  )
  no_match AmbiguousMatch (first, second, among1, begins1, among2, begins2, differ) other =
      (first, second, Contains-append_left ids (id ∷ []) first among1, begins1, Contains-append_left ids (id ∷ []) second among2, begins2, differ)

  module _ (begins : EncodesWithPrefix encode id prefix) where
    -- the first id that starts with the prefix is a single match
    pub first_match : (found : Bor (List ℕ)) → found.now ≡ id → IsLookupResult encode ids prefix NoMatch → IsLookupResult encode (ids ++ id ∷ []) prefix (SingleMatch found)
    first_match found is none = (
      subst (Contains (ids ++ id ∷ [])) (sym is) (Contains-push ids id),
      subst (λ i. EncodesWithPrefix encode i prefix) (sym is) begins,
      λ it among starts.
          elim (Contains-push_cases ids id it among) [ inl before ↦ absurd (none it before starts) | inr same ↦ sym same ∙ sym is ],
    )

    -- a duplicate of the single match changes nothing
    pub same_match : (only : Bor (List ℕ)) → only.now ≡ id → IsLookupResult encode ids prefix (SingleMatch only) → IsLookupResult encode (ids ++ id ∷ []) prefix (SingleMatch only)
    same_match only is (there, starts, alone) = (
      Contains-append_left ids (id ∷ []) only.now there,
      starts,
      λ it among begins'.
          elim (Contains-push_cases ids id it among) [ inl before ↦ alone it before begins' | inr same ↦ sym same ∙ sym is ],
    )

    -- a second, different match is ambiguous
    pub second_match : (only : Bor (List ℕ)) → only.now ≢ id → IsLookupResult encode ids prefix (SingleMatch only) → IsLookupResult encode (ids ++ id ∷ []) prefix AmbiguousMatch
    second_match only differ (there, starts, alone) =
        (only.now, id, Contains-append_left ids (id ∷ []) only.now there, starts, Contains-push ids id, begins, differ)

    pub more_matches : IsLookupResult encode ids prefix AmbiguousMatch → IsLookupResult encode (ids ++ id ∷ []) prefix AmbiguousMatch
    more_matches (first, second, among1, begins1, among2, begins2, differ) =
        (first, second, Contains-append_left ids (id ∷ []) first among1, begins1, Contains-append_left ids (id ∷ []) second among2, begins2, differ)

-- the ids up to index i, and the one at it
pub next_id : (encode : List ℕ → List ℕ) (ids : List (List ℕ)) (i : ℕ) (id prefix : List ℕ) (found : PrefixResolution (Bor (List ℕ))) → i < length ids → id ≡ get_or ids i id
    → IsLookupResult encode (take i ids ++ id ∷ []) prefix found → IsLookupResult encode (take (i + 1) ids) prefix found
next_id encode ids i id prefix found within is so_far =
    subst (λ l. IsLookupResult encode l prefix found) (ap (λ x. take i ids ++ x ∷ []) is ∙ sym (take_more ids i id within)) so_far

-- all ids were searched
pub all_ids : (encode : List ℕ → List ℕ) (ids : List (List ℕ)) (n : ℕ) (prefix : List ℕ) (found : PrefixResolution (Bor (List ℕ))) → length ids ≤ n → IsLookupResult encode (take n ids) prefix found → IsLookupResult encode ids prefix found
all_ids encode ids n prefix found all so_far = subst (λ l. IsLookupResult encode l prefix found) (take_all n ids all) so_far
