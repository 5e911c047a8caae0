-- Results of the calls on merges of byte strings.
-- Cited by contracts of public items: IsMergeOf, IsResolveCause, IsSimplifyCause,
-- ResolvesAt, same_change.
use Rattle.std.specs.Prelude.{◌≡◌, ◌<◌, ◌%◌, ℕ, List, length, Bool, true, false, Some, slice_get, ⊤}
use Rattle.std.specs.Str.{bytes_eq}
use Rattle.jj_merges.specs.declared.merge.SameChange.{SameChange}
use Rattle.jj_merges.specs.declared.merge.SameChange.TheVariants.{Keep, Accept}
use Rattle.jj_merges.specs.Merge.{IsOdd}
use Rattle.jj_merges.specs.Resolution.{ResolvesTo}
use Rattle.jj_merges.specs.Simplify.{simplified_indices}
use Rattle.jj_core_c.specs.declared.error.Error.{Error}
use Rattle.jj_core_c.specs.declared.error.Error.TheVariants.{Memory, Ends, Length, Terms, Conflict}
use Rattle.jj_core_c.specs.Pieces.{are_ends, pieces_of}

-- the rule for sides that made the same change
abbrev pub same_change : (accept : Bool) → SameChange
same_change false = Keep
same_change true = Accept

-- the ends divide the bytes into an odd number of terms
abbrev pub IsMergeOf : (bytes ends : List ℕ) → Type 0
IsMergeOf bytes ends = (are_ends (length bytes) ends ≡ true) × IsOdd (length ends)

-- the merge resolves to the term at this index
abbrev pub ResolvesAt : SameChange → List (List ℕ) → ℕ → Type 0
ResolvesAt same_change terms index = (term : List ℕ) × (slice_get terms index ≡ Some term)
    × ResolvesTo bytes_eq same_change terms term

-- the cause of an error of simplifying: the argument that it rejects, or memory ran out
abbrev pub IsSimplifyCause : (bytes ends : List ℕ) (room : ℕ) → Error → Type 0
IsSimplifyCause bytes ends room Memory = ⊤
IsSimplifyCause bytes ends room Ends = are_ends (length bytes) ends ≡ false
IsSimplifyCause bytes ends room Length =
    room < length (simplified_indices bytes_eq (pieces_of bytes ends))
IsSimplifyCause bytes ends room Terms = length ends % 2 ≡ 0
IsSimplifyCause bytes ends room other = ⊥

-- the cause of an error of resolving: the rejected argument, a conflict, or memory ran out
abbrev pub IsResolveCause : SameChange → (bytes ends : List ℕ) → Error → Type 0
IsResolveCause same_change bytes ends Memory = ⊤
IsResolveCause same_change bytes ends Ends = are_ends (length bytes) ends ≡ false
IsResolveCause same_change bytes ends Terms = length ends % 2 ≡ 0
IsResolveCause same_change bytes ends Conflict = (term : List ℕ)
    → ¬ (ResolvesTo bytes_eq same_change (pieces_of bytes ends) term)
IsResolveCause same_change bytes ends other = ⊥
