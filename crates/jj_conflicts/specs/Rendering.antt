-- Rendered merges of file contents. A hunk is the list of its terms.
-- Cited by contracts of public items: rendered, IsRendered.
use Rattle.std.specs.Prelude.{◌≡◌, ℕ, ◌+◌, ◌%◌, Bool, true, false, List, [], ◌∷◌, ◌++◌, ◌==◌, not, if◌then◌else◌, slice_get, unwrap_or, codes, decimal, map}
use Rattle.std.specs.List.{concat, list_all, slice_index_or}
use Rattle.jj_diff.specs.Tokens.{is_line_end}
use Rattle.jj_diff.specs.declared.diff.hunks.DiffHunk.{DiffHunk}
use Rattle.jj_diff.specs.declared.diff.hunks.DiffHunkKind.{DiffHunkKind}
use Rattle.jj_diff.specs.declared.diff.hunks.DiffHunkKind.TheVariants.{Matching, Different}
use Rattle.jj_diff.specs.Hunks.{row_of, IsDiff, MatchesEnds}
use Rattle.jj_conflicts.specs.Lines.{split_lines, is_terminated, terminated}
use Rattle.jj_conflicts.specs.Markers.{marker_line}
use Rattle.jj_conflicts.specs.declared.conflicts.ConflictMarkerStyle.{ConflictMarkerStyle}
use Rattle.jj_conflicts.specs.declared.conflicts.ConflictMarkerStyle.TheVariants.{Diff, Snapshot, Git}

-- the label of a term, or none
abbrev pub label_at : List (List ℕ) → ℕ → List ℕ
label_at labels i = unwrap_or (slice_get labels i) []

-- + of a side, at an even index, and - of a base
abbrev pub term_byte : ℕ → ℕ
term_byte i = if i % 2 == 0 then 43 else 45

-- a marker line and a term
abbrev pub section : ℕ → ℕ → List ℕ → List ℕ → List ℕ
section n byte label term = marker_line byte n label (not (is_terminated term)) ++ terminated term

-- the terms from index i on
abbrev pub sections : ℕ → List (List ℕ) → ℕ → List (List ℕ) → List ℕ
sections n labels i [] = []
sections n labels i (term ∷ terms) =
    section n (term_byte i) (label_at labels i) term ++ sections n labels (i + 1) terms

-- the label of a conflict by its number, such as "Conflict 1 of 2"
abbrev pub conflict_label : ℕ → ℕ → List ℕ
conflict_label number count = codes "Conflict " ++ decimal number ++ codes " of " ++ decimal count

-- a conflict in the snapshot style: each term in a section of its own
abbrev pub snapshot_text : ℕ → List (List ℕ) → ℕ → ℕ → List (List ℕ) → List ℕ
snapshot_text n labels number count terms =
    marker_line 60 n (conflict_label number count) false ++ sections n labels 0 terms
    ++ marker_line 62 n (conflict_label number count ++ codes " ends") false

-- a conflict in Git's style: left, base and right
abbrev pub git_text : ℕ → List (List ℕ) → List ℕ → List ℕ → List ℕ → List ℕ
git_text n labels left base right =
    section n 60 (label_at labels 0) left ++ section n 124 (label_at labels 1) base
    ++ marker_line 61 n [] false ++ terminated right
    ++ marker_line 62 n (label_at labels 2) (not (is_terminated right))

-- Git's style has three terms; other conflicts are rendered as snapshots
abbrev pub conflict_text : ConflictMarkerStyle → ℕ → List (List ℕ) → ℕ → ℕ → List (List ℕ)
    → List ℕ
conflict_text Git n labels number count (left ∷ base ∷ right ∷ []) =
    git_text n labels left base right
conflict_text style n labels number count terms = snapshot_text n labels number count terms

-- the number of hunks that are conflicts
abbrev pub conflict_count : List (List (List ℕ)) → ℕ
conflict_count [] = 0
conflict_count ((term ∷ []) ∷ hunks) = conflict_count hunks
conflict_count (terms ∷ hunks) = conflict_count hunks + 1

-- ---- the diff style

-- the lines with a character before each
abbrev pub prefixed : ℕ → List ℕ → List ℕ
prefixed byte text = concat (map (λ line. byte ∷ line) (split_lines text))

-- the lines of a matching hunk with a space before each; of another one, those of the first part
-- with a - and those of the second with a +
abbrev pub compared_text : DiffHunkKind → List (List ℕ) → List ℕ
compared_text Matching row = prefixed 32 (slice_index_or row 0 [])
compared_text Different row =
    prefixed 45 (slice_index_or row 0 []) ++ prefixed 43 (slice_index_or row 1 [])

-- the lines of a comparison, each after a space, `-` or `+`
abbrev pub diff_text : List DiffHunk → List ℕ
diff_text [] = []
diff_text (hunk ∷ hunks) = compared_text hunk.kind (row_of hunk) ++ diff_text hunks

-- the label of a comparison, such as "from base to left"; empty if the label of a term is
abbrev pub diff_label : List ℕ → List ℕ → List ℕ
diff_label [] side = []
diff_label (b ∷ base) [] = []
diff_label (b ∷ base) (c ∷ side) = codes "from " ++ b ∷ base ++ codes " to " ++ c ∷ side

-- a marker line and a comparison of a base with a side by lines
pub record IsDiffSection (n : ℕ) (label base side text : List ℕ) : Type 0 where
  pub hunks : List DiffHunk
  pub diff : IsDiff is_line_end (base ∷ side ∷ []) hunks
  pub ends : MatchesEnds is_line_end (base ∷ side ∷ []) hunks
  pub text_is : text ≡ marker_line 37 n label false ++ diff_text hunks

-- each base, compared with the side before it, and the last side; i is the index of the first side
abbrev pub AreSections : ℕ → List (List ℕ) → ℕ → List (List ℕ) → List ℕ → Type 0
AreSections n labels i [] text = ⊥
AreSections n labels i (side ∷ []) text = text ≡ section n 43 (label_at labels i) side
AreSections n labels i (side ∷ base ∷ terms) text = (first : List ℕ) × ((rest : List ℕ)
    × (IsDiffSection n (diff_label (label_at labels (i + 1)) (label_at labels i)) base side first
    × AreSections n labels (i + 2) terms rest × (text ≡ first ++ rest)))

-- each term is empty or ends in LF
abbrev pub all_terminated : List (List ℕ) → Bool
all_terminated terms = list_all is_terminated terms

-- A conflict with a term that does not end in LF is rendered as a snapshot.
abbrev pub IsDiffText : Bool → ℕ → List (List ℕ) → ℕ → ℕ → List (List ℕ) → List ℕ → Type 0
IsDiffText true n labels number count terms text = (body : List ℕ)
    × (AreSections n labels 0 terms body
    × (text ≡ marker_line 60 n (conflict_label number count) false ++ body
    ++ marker_line 62 n (conflict_label number count ++ codes " ends") false))
IsDiffText false n labels number count terms text =
    text ≡ snapshot_text n labels number count terms

-- a rendering of a conflict in this style
abbrev pub IsConflictText : ConflictMarkerStyle → ℕ → List (List ℕ) → ℕ → ℕ → List (List ℕ)
    → List ℕ → Type 0
IsConflictText Diff n labels number count terms text =
    IsDiffText (all_terminated terms) n labels number count terms text
IsConflictText Snapshot n labels number count terms text =
    text ≡ conflict_text Snapshot n labels number count terms
IsConflictText Git n labels number count terms text =
    text ≡ conflict_text Git n labels number count terms

-- ---- hunks

-- a rendering of hunks after so many conflicts
abbrev pub IsRenderedFrom : ConflictMarkerStyle → ℕ → List (List ℕ) → ℕ → ℕ
    → List (List (List ℕ)) → List ℕ → Type 0
IsRenderedFrom style n labels number count [] text = text ≡ []
IsRenderedFrom style n labels number count ((term ∷ []) ∷ hunks) text = (rest : List ℕ)
    × (IsRenderedFrom style n labels number count hunks rest × (text ≡ term ++ rest))
IsRenderedFrom style n labels number count (terms ∷ hunks) text = (first : List ℕ)
    × ((rest : List ℕ) × (IsConflictText style n labels (number + 1) count terms first
    × IsRenderedFrom style n labels (number + 1) count hunks rest × (text ≡ first ++ rest)))

-- a rendering of all hunks
abbrev pub IsRendered : ConflictMarkerStyle → ℕ → List (List ℕ) → List (List (List ℕ)) → List ℕ
    → Type 0
IsRendered style n labels hunks text =
    IsRenderedFrom style n labels 0 (conflict_count hunks) hunks text

-- the only rendering in the snapshot style and in Git's style
abbrev pub rendered_from : ConflictMarkerStyle → ℕ → List (List ℕ) → ℕ → ℕ
    → List (List (List ℕ)) → List ℕ
rendered_from style n labels number count [] = []
rendered_from style n labels number count ((term ∷ []) ∷ hunks) =
    term ++ rendered_from style n labels number count hunks
rendered_from style n labels number count (terms ∷ hunks) =
    conflict_text style n labels (number + 1) count terms
    ++ rendered_from style n labels (number + 1) count hunks

-- the rendering of all hunks in the snapshot style or Git's
abbrev pub rendered : ConflictMarkerStyle → ℕ → List (List ℕ) → List (List (List ℕ)) → List ℕ
rendered style n labels hunks = rendered_from style n labels 0 (conflict_count hunks) hunks
