-- The lines of each command: the word, the shape of the fields after it, and the action.
-- Cited by contracts of public items: HasTheseLines.
use Rattle.std.specs.Prelude.{◌≡◌, [], ◌∷◌, codes}
use Rattle.jj_merges.specs.declared.merge.SameChange.TheVariants.{Keep, Accept}
use Rattle.jj_program.specs.declared.file_set.Combination.TheVariants.{Union, Difference, Intersection}
use Rattle.jj_program.specs.declared.file_set.SetWord.TheVariants.{Everything, Nothing, Files, Prefix, Globs, PrefixGlobs}
use Rattle.jj_program.specs.declared.forms.Shape.TheVariants.{Empty, One, NonEmpty, Any, Odd, Pairs, Dashed}
use Rattle.jj_program.specs.declared.graph_command.GraphForm.TheVariants.{Node, Order, Heads, Common}
use Rattle.jj_program.specs.declared.graph_command.TheConstants.{GRAPH_FORMS}
use Rattle.jj_program.specs.declared.hash_command.HashInput.TheVariants.{Raw, Text, List, Merge}
use Rattle.jj_program.specs.declared.hash_command.TheConstants.{HASH_FORMS}
use Rattle.jj_program.specs.declared.merge_command.MergeForm.TheVariants.{Simplify, Resolve}
use Rattle.jj_program.specs.declared.merge_command.TheConstants.{MERGE_FORMS}
use Rattle.jj_program.specs.declared.walk_command.WalkForm.TheVariants.{Mark, Push, Combine}
use Rattle.jj_program.specs.declared.walk_command.TheConstants.{WALK_FORMS}
use Rattle.jj_program.specs.Forms.{table}

-- the lines of each command; all others are faults
pub record HasTheseLines : Type 0 where
  pub walk : table WALK_FORMS
      ≡ (codes "mark", One, Mark)
      ∷ (codes "everything", Empty, Push Everything)
      ∷ (codes "nothing", Empty, Push Nothing)
      ∷ (codes "files", Any, Push Files)
      ∷ (codes "prefix", Any, Push Prefix)
      ∷ (codes "globs", Pairs, Push Globs)
      ∷ (codes "prefix-globs", Pairs, Push PrefixGlobs)
      ∷ (codes "union", Empty, Combine Union)
      ∷ (codes "difference", Empty, Combine Difference)
      ∷ (codes "intersection", Empty, Combine Intersection) ∷ []
  pub merge : table MERGE_FORMS
      ≡ (codes "simplify", Odd, Simplify)
      ∷ (codes "keep", Odd, Resolve Keep)
      ∷ (codes "accept", Odd, Resolve Accept) ∷ []
  pub graph : table GRAPH_FORMS
      ≡ (codes "node", NonEmpty, Node)
      ∷ (codes "order", Any, Order)
      ∷ (codes "heads", Any, Heads)
      ∷ (codes "common", Dashed, Common) ∷ []
  pub hash : table HASH_FORMS
      ≡ (codes "raw", One, Raw)
      ∷ (codes "text", One, Text)
      ∷ (codes "list", Any, List)
      ∷ (codes "merge", Odd, Merge) ∷ []
