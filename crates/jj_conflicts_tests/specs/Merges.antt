-- Merges that were rendered and parsed.
-- Cited by contracts of public items: ComesBack.
use Rattle.std.specs.Prelude.{◌≡◌, ℕ, true, false, List, Option, Some, None}
use Rattle.jj_merges.specs.declared.merge.SameChange.{SameChange}
use Rattle.jj_content_merges.specs.declared.files.FileMergeHunkLevel.TheVariants.{Line}
use Rattle.jj_content_merges.specs.Hunks.{all_resolved, joined}
use Rattle.jj_content_merges.specs.Files.{IsContentMerge}
use Rattle.jj_conflicts.specs.Contents.{contents}
use Rattle.jj_conflicts_tests.specs.declared.merges.ParsedMerge.{ParsedMerge}

-- the parsed hunks are those of a merge of the inputs that has a conflict
pub record IsMergeOf (same : SameChange) (inputs : List (List ℕ)) (both : ParsedMerge)
    : Type 0 where
  pub hunks : List (List (List ℕ))
  pub merge : IsContentMerge Line same inputs hunks
  pub conflict : all_resolved hunks ≡ false
  pub merged : contents both.merged.items ≡ joined hunks
  pub parsed : contents both.parsed.items ≡ contents both.merged.items

-- a merge of the inputs that leaves no conflict
pub record IsClean (same : SameChange) (inputs : List (List ℕ)) : Type 0 where
  pub hunks : List (List (List ℕ))
  pub merge : IsContentMerge Line same inputs hunks
  pub resolved : all_resolved hunks ≡ true

-- the merge is clean, or it comes back
abbrev pub ComesBack : SameChange → List (List ℕ) → Option ParsedMerge → Type 0
ComesBack same inputs None = IsClean same inputs
ComesBack same inputs (Some both) = IsMergeOf same inputs both
