use Rattle.std.proofs.Common.{ℕ, List, Some, ap, map, subst, sym}
use Rattle.std.specs.List.{AllZip}
use Rattle.jj_merges.specs.declared.merge.SameChange.TheVariants.{Accept}
use Rattle.jj_content_merges.specs.declared.files.FileMergeHunkLevel.TheVariants.{Line}
use Rattle.jj_backend.specs.Objects.{ById, Objects}
use Rattle.jj_backend.specs.Trees.{Entries}
use Rattle.jj_trees.specs.WrittenTrees.{IsTreeOf, values_to_write}
use Rattle.jj_file_merges.specs.MergedTrees.{IsOutcome, outcome_value}
use Rattle.jj_history_merges.proofs.merging.merge_commits.Goals as goal

pub returns-clause-outcomes : goal.returns-clause-outcomes
returns-clause-outcomes g c =
    let files = c.in_ok-files.files in
    subst (λ (stored : ById (List ℕ)). AllZip (IsOutcome stored Line Accept (Some c.args.style)) files.merge.conflicts.items files.outcomes.items)
    (sym (ap (λ (o : Objects). o.files) c.write_merge.ensures.objects)) c.in_ok-files.ensures.outcomes

pub returns-clause-tree : goal.returns-clause-tree
returns-clause-tree g c =
    let files = c.in_ok-files.files in
    subst (λ (stored : ById Entries). IsTreeOf stored (values_to_write files.merge.resolved.items files.merge.conflicts.items (map outcome_value files.outcomes.items)) files.tree)
    (sym (ap (λ (o : Objects). o.trees) c.write_merge.ensures.objects)) c.in_ok-files.ensures.tree
