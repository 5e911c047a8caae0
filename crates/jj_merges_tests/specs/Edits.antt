-- Edits of a conflict of strings in its simplified form.
-- Cited by contracts of public items: IsEdited, simplified_strings.
use Rattle.std.specs.Prelude.{◌≡◌, ◌≢◌, ℕ, List, All, map, slice_get, string_bytes, string_eq}
use Rattle.std.specs.Global.{Global}
use Rattle.std.specs.declared.string.String.{String}
use Rattle.jj_merges.specs.Merge.{HaveSameCounts}
use Rattle.jj_merges.specs.Simplify.{at_indices, simplified_indices}

-- the strings that remain when equal ones are cancelled
abbrev pub simplified_strings : List (String Global) → List (String Global)
simplified_strings strings = at_indices strings (simplified_indices string_eq strings)

-- the strings that remained are the edited ones, and the others are unchanged
pub record IsEdited (strings edited whole : List (String Global)) : Type 0 where
  pub remaining : at_indices whole (simplified_indices string_eq strings) ≡ edited
  pub cancelled : (index : ℕ) → All (λ other. other ≢ index) (simplified_indices string_eq strings)
      → slice_get whole index ≡ slice_get strings index
  -- each string counts as in the edited conflict
  pub counts : HaveSameCounts string_eq whole edited
  -- without an edit each string is as it was
  pub unedited : map string_bytes (simplified_strings strings) ≡ map string_bytes edited
      → map string_bytes whole ≡ map string_bytes strings
