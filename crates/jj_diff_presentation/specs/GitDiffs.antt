-- Differences of versions of a file.
-- Cited by contracts of public items: AreOfOneType, EndsWithPatch, IsTextual, content_of.
use Rattle.std.specs.Prelude.{◌≡◌, ◌≢◌, ◌<◌, ℕ, Bool, true, false, List, [], ◌++◌, Option, Some, None, length, slice_index}
use Rattle.jj_diff_presentation.specs.Lines.{split_lines}
use Rattle.jj_diff_presentation.specs.Hunks.{IsPatch}
use Rattle.jj_diff_presentation.specs.PatchText.{hunks_text}
use Rattle.jj_diff_presentation.specs.declared.unified.git_diff.FileMode.{FileMode}
use Rattle.jj_diff_presentation.specs.declared.unified.git_diff.FileMode.TheVariants.{Normal, Executable, Symlink, Submodule}
use Rattle.jj_diff_presentation.specs.declared.unified.git_diff.FileVersion.{FileVersion}
use Rattle.jj_diff_presentation.specs.declared.unified.hunks.UnifiedDiffHunk.{UnifiedDiffHunk}

-- no NUL in the first 8,000 bytes
abbrev pub IsTextual : List ℕ → Type 0
IsTextual content = (k : ℕ) → k < 8000 → k < length content → slice_index content k ≢ 0

-- the string ends with the hunks of a patch from the first content to the second
abbrev pub EndsWithPatch : List ℕ → List ℕ → List ℕ → Type 0
EndsWithPatch left right text = (head : List ℕ) × (hunks : List UnifiedDiffHunk)
    × (text ≡ head ++ hunks_text hunks) × IsPatch (split_lines left) (split_lines right) hunks

-- the content of a version, empty for an absent one
abbrev pub content_of : Option FileVersion → List ℕ
content_of None = []
content_of (Some version) = version.content.now

-- the mode is that of a file, executable or not
abbrev pub is_regular : FileMode → Bool
is_regular Normal = true
is_regular Executable = true
is_regular Symlink = false
is_regular Submodule = false

-- modes of regular files, of symbolic links, or of submodules
abbrev pub is_same_type : FileMode → FileMode → Bool
is_same_type Symlink other = is_link other
  where
    is_link : FileMode → Bool
    is_link Normal = false
    is_link Executable = false
    is_link Symlink = true
    is_link Submodule = false
is_same_type Submodule other = is_submodule other
  where
    is_submodule : FileMode → Bool
    is_submodule Normal = false
    is_submodule Executable = false
    is_submodule Symlink = false
    is_submodule Submodule = true
is_same_type Normal other = is_regular other
is_same_type Executable other = is_regular other

-- a version is absent, or both are of one type
abbrev pub AreOfOneType : Option FileVersion → Option FileVersion → Type 0
AreOfOneType (Some before) (Some after) = is_same_type before.mode after.mode ≡ true
AreOfOneType (Some before) None = Unit {0}
AreOfOneType None after = Unit {0}
