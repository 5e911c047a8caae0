-- The resolution of a prefix in a list, one id after another.
use Rattle.std.proofs.Common.{◌≡◌, ◌∙◌, ℕ, zero, suc, ◌+◌, ◌<◌, List, [], ◌∷◌, ◌++◌, length, take, Bool, true, false, Some, refl, sym, ap, arith}
use Rattle.std.specs.Prelude.{slice_get}
use Rattle.std.proofs.lemmas.List.{append-nil, append_assoc, length-take-le}
use Rattle.std.proofs.lemmas.Option.{slice_get_within}
use Rattle.jj_ids.specs.declared.object_id.prefix_resolution.PrefixResolution.{PrefixResolution}
use Rattle.jj_ids.specs.declared.object_id.prefix_resolution.PrefixResolution.TheVariants.{NoMatch, SingleMatch, AmbiguousMatch}
use Rattle.jj_ids.specs.Resolution.{IfSingleMatch}
use Rattle.jj_core_c.specs.IdPrefixes.{after_match, index_if, indices_from, only, resolution}
use Rattle.jj_core_c.proofs.PieceLists.{take_next}

indices_next : {X : Type 0} (start : ℕ) (matches : X → Bool) (xs : List X) (x : X)
    → indices_from start matches (xs ++ x ∷ []) ≡ indices_from start matches xs ++ index_if (matches x) (start + length xs)
indices_next start matches [] x = append-nil (index_if (matches x) start) ∙ ap (index_if (matches x)) (omega arith)
indices_next start matches (y ∷ ys) x =
    let place : suc start + length ys ≡ start + suc (length ys) = omega arith in
    ap (λ l. index_if (matches y) start ++ l) (indices_next (suc start) matches ys x ∙ ap (λ n. indices_from (suc start) matches ys ++ index_if (matches x) n) place)
    ∙ sym (append_assoc (index_if (matches y) start) (indices_from (suc start) matches ys) (index_if (matches x) (start + suc (length ys))))

only_next : (xs : List ℕ) (index : ℕ) → only (xs ++ index ∷ []) ≡ after_match (only xs) index
only_next [] index = refl
only_next (x ∷ []) index = refl
only_next (x ∷ y ∷ more) index = refl

indices_of_next : {X : Type 0} (matches : X → Bool) (ids : List X) (i : ℕ) (id : X) (b : Bool) → slice_get ids i ≡ Some id → matches id ≡ b
    → indices_from 0 matches (take (i + 1) ids) ≡ indices_from 0 matches (take i ids) ++ index_if b i
indices_of_next matches ids i id b at is =
    let place : 0 + length (take i ids) ≡ i = omega (arith, length-take-le i ids (omega (arith, slice_get_within ids i id at))) in
    ap (indices_from 0 matches) (take_next ids i id at) ∙ indices_next 0 matches (take i ids) id
    ∙ ap (λ n. indices_from 0 matches (take i ids) ++ index_if (matches id) n) place
    ∙ ap (λ c. indices_from 0 matches (take i ids) ++ index_if c i) is

-- the next id matches
pub next_match : {X : Type 0} (matches : X → Bool) (ids : List X) (i : ℕ) (id : X) (found : PrefixResolution ℕ) → slice_get ids i ≡ Some id → matches id ≡ true
    → found ≡ resolution matches (take i ids) → after_match found i ≡ resolution matches (take (i + 1) ids)
next_match matches ids i id found at is before =
    ap (λ r. after_match r i) before ∙ sym (only_next (indices_from 0 matches (take i ids)) i) ∙ sym (ap only (indices_of_next matches ids i id true at is))

-- the next id does not match
pub next_other : {X : Type 0} (matches : X → Bool) (ids : List X) (i : ℕ) (id : X) (found : PrefixResolution ℕ) → slice_get ids i ≡ Some id → matches id ≡ false
    → found ≡ resolution matches (take i ids) → found ≡ resolution matches (take (i + 1) ids)
next_other matches ids i id found at is before =
    before ∙ sym (ap only (indices_of_next matches ids i id false at is ∙ append-nil (indices_from 0 matches (take i ids))))

-- the index of the only match is one of those before
pub below_next : (found : PrefixResolution ℕ) (i : ℕ) → IfSingleMatch found (λ index. index < i) → IfSingleMatch (after_match found i) (λ index. index < i + 1)
below_next NoMatch i below = omega arith
below_next (SingleMatch index) i below = tt
below_next AmbiguousMatch i below = tt

pub below_more : (found : PrefixResolution ℕ) (i : ℕ) → IfSingleMatch found (λ index. index < i) → IfSingleMatch found (λ index. index < i + 1)
below_more NoMatch i below = tt
below_more (SingleMatch index) i below = omega (arith, below)
below_more AmbiguousMatch i below = tt
