-- Results of the calls that merge file contents.
-- Cited by contracts of public items: IsContentsCause, IsMaterializeCause, WritesMaterialized,
-- WritesMerged.
use Rattle.std.specs.Prelude.{◌≡◌, ◌<◌, ◌%◌, ℕ, [], ◌∷◌, List, length, Bool, true, false, Some, None, ⊤}
use Rattle.std.specs.Str.{bytes_eq}
use Rattle.jj_conflicts.specs.Markers.{chosen_marker_len}
use Rattle.jj_conflicts.specs.Rendering.{IsRendered}
use Rattle.jj_conflicts.specs.declared.conflicts.ConflictMarkerStyle.{ConflictMarkerStyle}
use Rattle.jj_conflicts.specs.declared.conflicts.ConflictMarkerStyle.TheVariants.{Diff, Git}
use Rattle.jj_content_merges.specs.Files.{IsContentMerge, IsMergeResult, tried_outcome}
use Rattle.jj_content_merges.specs.Hunks.{contents}
use Rattle.jj_content_merges.specs.declared.files.FileMergeHunkLevel.{FileMergeHunkLevel}
use Rattle.jj_content_merges.specs.declared.files.FileMergeHunkLevel.TheVariants.{Line, Word}
use Rattle.jj_content_merges.specs.declared.files.MergeResult.{MergeResult}
use Rattle.jj_content_merges.specs.declared.files.MergeResult.TheVariants.{Resolved, Conflict as ConflictResult}
use Rattle.jj_merges.specs.Resolution.{ResolvesTo}
use Rattle.jj_core_c.specs.declared.error.Error.{Error}
use Rattle.jj_core_c.specs.declared.error.Error.TheVariants.{Memory, Ends, Length, Terms, Conflict}
use Rattle.jj_core_c.specs.Buffers.{Writes}
use Rattle.jj_core_c.specs.MergeResults.{same_change}
use Rattle.jj_core_c.specs.Pieces.{are_ends, pieces_of}

-- the granularity of a merge
abbrev pub hunk_level : (words : Bool) → FileMergeHunkLevel
hunk_level false = Line
hunk_level true = Word

-- the style of markers
abbrev pub marker_style : (git : Bool) → ConflictMarkerStyle
marker_style false = Diff
marker_style true = Git

-- a merge of the terms by lines leaves a conflict
abbrev pub Conflicts : (words accept : Bool) → List (List ℕ) → Type 0
Conflicts words accept terms = (hunks : List (List (List ℕ)))
    × IsContentMerge (hunk_level words) (same_change accept) terms hunks
    × (tried_outcome hunks ≡ None)

-- the bytes are the merge of the terms by lines; if whole terms resolve, the value they resolve to
pub record IsMerged (words accept : Bool) (terms : List (List ℕ)) (text : List ℕ) : Type 0 where
  pub hunks : List (List (List ℕ))
  pub merge : IsContentMerge (hunk_level words) (same_change accept) terms hunks
  pub outcome : tried_outcome hunks ≡ Some text
  pub whole : (v : List ℕ) → ResolvesTo bytes_eq (same_change accept) terms v → text ≡ v

-- the merged contents replace the first bytes of the buffer
abbrev pub WritesMerged : (words accept : Bool) → List (List ℕ) → (old new : List ℕ) → ℕ → Type 0
WritesMerged words accept terms old new n = (text : List ℕ)
    × IsMerged words accept terms text × Writes old new text n

-- the cause of an error of a merge: the rejected argument, a conflict, or memory ran out
abbrev pub IsContentsCause : (words accept : Bool) → (bytes ends : List ℕ) → (room : ℕ) → Error
    → Type 0
IsContentsCause words accept bytes ends room Memory = ⊤
IsContentsCause words accept bytes ends room Ends = are_ends (length bytes) ends ≡ false
IsContentsCause words accept bytes ends room Terms = length ends % 2 ≡ 0
IsContentsCause words accept bytes ends room Conflict =
    Conflicts words accept (pieces_of bytes ends)
IsContentsCause words accept bytes ends room Length = (text : List ℕ)
    × IsMerged words accept (pieces_of bytes ends) text × (room < length text)
IsContentsCause words accept bytes ends room other = ⊥

-- the bytes are the merged contents, or render the hunks with markers of the chosen length
abbrev pub Renders : ConflictMarkerStyle → MergeResult → List ℕ → Type 0
Renders style (Resolved merged) text = text ≡ merged.items
Renders style (ConflictResult hunks) text = IsRendered style
    (chosen_marker_len (contents hunks.items)) ([] ∷ []) (contents hunks.items) text

-- the bytes are the merge of the terms by lines, with conflicts between markers
pub record IsMaterialized (git accept : Bool) (terms : List (List ℕ)) (text : List ℕ)
    : Type 0 where
  pub result : MergeResult
  pub merge : IsMergeResult Line (same_change accept) terms result
  pub rendered : Renders (marker_style git) result text

-- the contents with markers replace the first bytes of the buffer
abbrev pub WritesMaterialized : (git accept : Bool) → List (List ℕ) → (old new : List ℕ) → ℕ
    → Type 0
WritesMaterialized git accept terms old new n = (text : List ℕ)
    × IsMaterialized git accept terms text × Writes old new text n

-- the cause of an error of rendering: the argument that it rejects, or memory ran out
abbrev pub IsMaterializeCause : (git accept : Bool) → (bytes ends : List ℕ) → (room : ℕ) → Error
    → Type 0
IsMaterializeCause git accept bytes ends room Memory = ⊤
IsMaterializeCause git accept bytes ends room Ends = are_ends (length bytes) ends ≡ false
IsMaterializeCause git accept bytes ends room Terms = length ends % 2 ≡ 0
IsMaterializeCause git accept bytes ends room Length = (text : List ℕ)
    × IsMaterialized git accept (pieces_of bytes ends) text × (room < length text)
IsMaterializeCause git accept bytes ends room other = ⊥
