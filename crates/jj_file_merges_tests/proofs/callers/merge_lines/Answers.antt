use Rattle.std.proofs.Common.{◌≡◌, ℕ, Bool, List, Option, Some, map}
use Rattle.std.specs.Prelude.{IfOk, Result, Ok, Err}
use Rattle.std.proofs.lemmas.List.Elements.{Contains-append_left}
use Rattle.jj_paths.specs.Paths.{Path}
use Rattle.jj_merges.specs.declared.merge.SameChange.{SameChange}
use Rattle.jj_backend.specs.Objects.{ById}
use Rattle.jj_backend.specs.Trees.{Entries}
use Rattle.jj_backend.specs.declared.backend.errors.BackendError.{BackendError}
use Rattle.jj_backend.specs.declared.backend.tree_value.TreeValue.{TreeValue}
use Rattle.jj_backend.specs.declared.backend.tree_value.TreeValue.TheVariants.{Tree}
use Rattle.jj_trees.specs.TreeMerges.{IsResolved, IsTreeMerge}
use Rattle.jj_trees.specs.WrittenTrees.{IsTreeOf, chosen_values, stored_at, values_to_write}
use Rattle.jj_file_merges.specs.MergedTrees.{outcome_value}
use Rattle.jj_file_merges.specs.declared.trees.FileMerge.{FileMerge}
use Rattle.jj_file_merges_tests.proofs.callers.merge_lines.Goals as goal

resolved_there : (old new : ById Entries) (eq : Option TreeValue → Option TreeValue → Bool) (same : SameChange) (values : List (Option TreeValue)) (labels : List (List ℕ)) (r : Result FileMerge BackendError)
    → IfOk r (λ m. IsTreeMerge old eq same values labels m.merge.resolved.items m.merge.conflicts.items)
    → IfOk r (λ m. IsTreeOf new (values_to_write m.merge.resolved.items m.merge.conflicts.items (map outcome_value m.outcomes.items)) m.tree)
    → IfOk r (λ m. (path : Path) (value : TreeValue) → IsResolved old eq same values path value → stored_at new (Some (Tree m.tree)) path ≡ Some value)
resolved_there old new eq same values labels (Ok m) merge tree = λ path value is.
    tree.has path value
    (Contains-append_left m.merge.resolved.items (chosen_values m.merge.conflicts.items (map outcome_value m.outcomes.items)) (path, value) ((merge.resolves path value).1 is))
resolved_there old new eq same values labels (Err e) merge tree = tt

pub returns : goal.returns
returns c = resolved_there _ _ _ _ _ _ c.merge_files.result c.merge_files.ensures.merge c.merge_files.ensures.tree
