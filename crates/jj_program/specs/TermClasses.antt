-- Numbers of terms that are the same for equal terms.
-- Machinery of private functions and fields.
use Rattle.std.specs.Prelude.{◌≡◌, ◌==◌, ◌<◌, ℕ, List, All, length, map, slice_index}
use Rattle.std.specs.List.{Contains, HoldsAt}
use Rattle.std.specs.List.Sorted.{IsSorted}
use Rattle.jj_merges.specs.Simplify.{equal_at}
use Rattle.jj_program.specs.Lines.{Text}
use Rattle.jj_program.specs.MergeViews.{text_cmp, text_eq}
use Rattle.jj_program.specs.TextKeys.{IsKeyOf}

-- a term after its key and before its index
abbrev pub Entry : Type 0
Entry = ℕ × Text × ℕ

abbrev pub term_of : Entry → Text
term_of entry = entry.1

abbrev pub index_of : Entry → ℕ
index_of entry = entry.2

-- the entry is that of one of the terms
abbrev pub IsEntryOf : List Text → Entry → Type 0
IsEntryOf terms entry = IsKeyOf entry.1.now entry.0 × (entry.2 < length terms)
    × HoldsAt (λ term. term.now ≡ entry.1.now) terms entry.2

-- the entries of all terms
abbrev pub AreEntriesOf : List Text → List Entry → Type 0
AreEntriesOf terms entries = All (IsEntryOf terms) entries
    × ((index : ℕ) → index < length terms → Contains (map index_of entries) index)

-- the entries of all terms, by the terms
abbrev pub AreSortedEntriesOf : List Text → List Entry → Type 0
AreSortedEntriesOf terms entries = AreEntriesOf terms entries
    × IsSorted text_cmp (map term_of entries)

-- the numbers of two terms are the same if and only if the terms are equal
abbrev pub AreClassesOf : List Text → List ℕ → Type 0
AreClassesOf terms classes = (length classes ≡ length terms)
    × All (λ class. class < length terms) classes
    × ((i j : ℕ) → i < length terms → j < length terms
    → equal_at text_eq terms i j ≡ (slice_index classes i == slice_index classes j))
