-- Results of the call that flattens a merge of merges.
-- Cited by contracts of public items: IsFlattenCause, IsMergeOfMerges, indexed_merges.
use Rattle.std.specs.Prelude.{◌≡◌, ◌<◌, ℕ, List, length, true, false, All, ⊤}
use Rattle.std.specs.List.{range_with_len}
use Rattle.jj_merges.specs.Merge.{IsOdd}
use Rattle.jj_core_c.specs.declared.error.Error.{Error}
use Rattle.jj_core_c.specs.declared.error.Error.TheVariants.{Memory, Ends, Length, Terms}
use Rattle.jj_core_c.specs.Pieces.{are_ends, pieces_of, start_of}

-- the number of terms of merges that end at these indices
abbrev pub term_count : (ends : List ℕ) → ℕ
term_count ends = start_of 0 ends (length ends)

-- the merges that end at these indices, as lists of the indices of their terms
abbrev pub indexed_merges : (ends : List ℕ) → List (List ℕ)
indexed_merges ends = pieces_of (range_with_len 0 (term_count ends)) ends

-- each merge has an odd number of terms
abbrev pub AreMerges : List (List ℕ) → Type 0
AreMerges merges = All (λ merge. IsOdd (length merge)) merges

-- the terms of a merge, all of which are merges
abbrev pub IsNested : List (List ℕ) → Type 0
IsNested merges = IsOdd (length merges) × AreMerges merges

-- the ends divide their terms into a merge of merges
abbrev pub IsMergeOfMerges : (ends : List ℕ) → Type 0
IsMergeOfMerges ends = (are_ends (term_count ends) ends ≡ true) × IsNested (indexed_merges ends)

-- the terms are no merge, or memory ran out
abbrev pub IsTermsCause : (IsValid : Type 0) → Error → Type 0
IsTermsCause IsValid Memory = ⊤
IsTermsCause IsValid Terms = ¬ IsValid
IsTermsCause IsValid other = ⊥

-- the cause of an error: the argument that it rejects, or memory ran out
abbrev pub IsFlattenCause : (ends : List ℕ) (room : ℕ) → Error → Type 0
IsFlattenCause ends room Memory = ⊤
IsFlattenCause ends room Ends = are_ends (term_count ends) ends ≡ false
IsFlattenCause ends room Length = room < term_count ends
IsFlattenCause ends room Terms = ¬ (IsNested (indexed_merges ends))
IsFlattenCause ends room other = ⊥
