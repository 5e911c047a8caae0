-- The resolution of a prefix to an id of a list.
-- Cited by contracts of public items: FindsOnly, IsResolveCall, IsResolveCause.
use Rattle.std.specs.Prelude.{◌≡◌, ℕ, suc, List, [], ◌∷◌, ◌++◌, length, Bool, true, false, ⊤}
use Rattle.jj_content.specs.Hex.{is_hex}
use Rattle.jj_ids.specs.declared.object_id.prefix_resolution.PrefixResolution.{PrefixResolution}
use Rattle.jj_ids.specs.declared.object_id.prefix_resolution.PrefixResolution.TheVariants.{NoMatch, SingleMatch, AmbiguousMatch}
use Rattle.jj_core_c.specs.declared.error.Error.{Error}
use Rattle.jj_core_c.specs.declared.error.Error.TheVariants.{Memory, Ends, Syntax, NoMatch as NoMatchError, Ambiguous}
use Rattle.jj_core_c.specs.HexResults.{begins_with}
use Rattle.jj_core_c.specs.Pieces.{are_ends, pieces_of}

-- the index, if the item at it matches
abbrev pub index_if : Bool → ℕ → List ℕ
index_if true index = index ∷ []
index_if false index = []

-- the indices of the items that match; the first one has the index `start`
abbrev pub indices_from : {X : Type 0} → ℕ → (X → Bool) → List X → List ℕ
indices_from start matches [] = []
indices_from start matches (x ∷ xs) =
    index_if (matches x) start ++ indices_from (suc start) matches xs

-- the resolution to one of these indices
abbrev pub only : List ℕ → PrefixResolution ℕ
only [] = NoMatch
only (index ∷ []) = SingleMatch index
only (index ∷ other ∷ more) = AmbiguousMatch

-- the index of the only item that matches
abbrev pub resolution : {X : Type 0} → (X → Bool) → List X → PrefixResolution ℕ
resolution matches xs = only (indices_from 0 matches xs)

-- the resolution once a further index matches
abbrev pub after_match : PrefixResolution ℕ → ℕ → PrefixResolution ℕ
after_match NoMatch index = SingleMatch index
after_match (SingleMatch other) index = AmbiguousMatch
after_match AmbiguousMatch index = AmbiguousMatch

-- the ends divide the bytes, and the prefix consists of digits
abbrev pub IsResolveCall : (digits prefix : List ℕ) → (len : ℕ) (ends : List ℕ) → Type 0
IsResolveCall digits prefix len ends = (are_ends len ends ≡ true) × (is_hex digits prefix ≡ true)

-- the resolution of the prefix in these ids
abbrev pub resolved : (digits prefix : List ℕ) → List (List ℕ) → PrefixResolution ℕ
resolved digits prefix ids = resolution (λ id. begins_with digits id prefix) ids

-- the id at this index is the only one that begins with the prefix
abbrev pub FindsOnly : (digits prefix : List ℕ) → List (List ℕ) → ℕ → Type 0
FindsOnly digits prefix ids index = resolved digits prefix ids ≡ SingleMatch index

-- the cause of an error: the argument that it rejects, or memory ran out
abbrev pub IsResolveCause : (digits prefix ids ends : List ℕ) → Error → Type 0
IsResolveCause digits prefix ids ends Memory = ⊤
IsResolveCause digits prefix ids ends Ends = are_ends (length ids) ends ≡ false
IsResolveCause digits prefix ids ends Syntax = is_hex digits prefix ≡ false
IsResolveCause digits prefix ids ends NoMatchError =
    resolved digits prefix (pieces_of ids ends) ≡ NoMatch
IsResolveCause digits prefix ids ends Ambiguous =
    resolved digits prefix (pieces_of ids ends) ≡ AmbiguousMatch
IsResolveCause digits prefix ids ends other = ⊥
