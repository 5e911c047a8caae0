-- Hunks of merged contents as lists of terms. A resolved hunk has one term, a conflict more.
-- Cited by contracts of public items: contents, merge_contents, joined, is_resolved, all_resolved,
-- part, merged_side, merged_terms, none_resolved.
use Rattle.std.specs.Prelude.{ℕ, Bool, true, false, not, List, [], ◌∷◌, ◌++◌, map, if◌then◌else◌}
use Rattle.std.specs.List.{concat, list_all, slice_index_or, range_with_len}
use Rattle.std.proofs.Common.{Vec, Global}

-- the byte strings
abbrev pub merge_contents : List (Vec ℕ Global) → List (List ℕ)
merge_contents terms = map (λ term. term.items) terms

-- the hunks as merges of byte strings
abbrev pub contents : List (List (Vec ℕ Global)) → List (List (List ℕ))
contents hunks = map merge_contents hunks

-- there is one term
abbrev pub is_resolved : List (List ℕ) → Bool
is_resolved [] = false
is_resolved (v ∷ []) = true
is_resolved (v ∷ w ∷ terms) = false

-- no hunk is a conflict
abbrev pub all_resolved : List (List (List ℕ)) → Bool
all_resolved hunks = list_all is_resolved hunks

-- term i of a hunk; a resolved one has the same for each i
abbrev pub part : ℕ → List (List ℕ) → List ℕ
part i [] = []
part i (v ∷ []) = v
part i (v ∷ w ∷ terms) = slice_index_or (v ∷ w ∷ terms) i []

-- side i of merged contents: input i, with each resolved part replaced by its resolution
abbrev pub merged_side : ℕ → List (List (List ℕ)) → List ℕ
merged_side i hunks = concat (map (part i) hunks)

-- a resolved hunk, unless it is empty
abbrev pub resolved_hunk : List ℕ → List (List (List ℕ))
resolved_hunk [] = []
resolved_hunk (b ∷ bs) = ((b ∷ bs) ∷ []) ∷ []

-- the hunks after resolved content, which adjacent resolved hunks are joined to
abbrev pub joined_after : List ℕ → List (List (List ℕ)) → List (List (List ℕ))
joined_after resolved [] = resolved_hunk resolved
joined_after resolved ((text ∷ []) ∷ hunks) = joined_after (resolved ++ text) hunks
joined_after resolved (terms ∷ hunks) = resolved_hunk resolved ++ terms ∷ joined_after [] hunks

-- the hunks with adjacent resolved hunks joined, and without empty ones
abbrev pub joined : List (List (List ℕ)) → List (List (List ℕ))
joined hunks = joined_after [] hunks

-- the terms of the whole: one if no hunk is a conflict, else the first n sides
abbrev pub merged_terms : ℕ → List (List (List ℕ)) → List (List ℕ)
merged_terms n hunks = if all_resolved hunks then merged_side 0 hunks ∷ []
    else map (λ i. merged_side i hunks) (range_with_len 0 n)

-- each hunk is a conflict
abbrev pub none_resolved : List (List (List ℕ)) → Bool
none_resolved hunks = list_all (λ terms. not (is_resolved terms)) hunks
