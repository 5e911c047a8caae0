use Rattle.std.proofs.Common.{◌≡◌, ℕ, ◌<◌, List, [], ◌∷◌, ap, sym, ◌∙◌, subst}
use Rattle.jj_merges.specs.Labels.{labels_as_merge}
use Rattle.jj_content_merges.specs.declared.files.FileMergeHunkLevel.TheVariants.{Line}
use Rattle.jj_content_merges.specs.declared.files.MergeResult.TheVariants.{Conflict}
use Rattle.jj_content_merges.specs.Files.{IsMergeResult}
use Rattle.jj_conflicts.specs.Contents.{contents}
use Rattle.jj_conflicts.specs.Conditions.{IsMergeOfLines, IsParsable, joined, run_limit}
use Rattle.jj_conflicts.specs.Markers.{chosen_marker_len}
use Rattle.jj_conflicts.specs.Rendering.{IsRendered}
use Rattle.jj_conflicts.specs.Parsing.{parsed}
use Rattle.jj_conflicts_tests.proofs.MergedLines.{joined_merge}
use Rattle.jj_conflicts_tests.proofs.merges.parse_merged.Goals as goal

pub returns : goal.returns
returns c left right =
    let inputs : List (List ℕ) = c.args.left.now ∷ c.args.base.now ∷ c.args.right.now ∷ [] in
    let hunks : List (List (List ℕ)) = contents c.in-Conflict.merged.items in
    let merge : IsMergeResult Line c.args.same_change inputs (Conflict c.in-Conflict.merged)
    = subst (IsMergeResult Line c.args.same_change inputs) c.in-Conflict.is
    (subst (λ ts. IsMergeResult Line c.args.same_change ts c.in_ok-merge_hunks.field-0)
    c.in_ok-inputs.ensures c.in_ok-merge_hunks.ensures.merge) in
    let lines : IsMergeOfLines 2 hunks × (joined hunks ≡ hunks)
    = joined_merge c.args.same_change c.args.left.now c.args.base.now c.args.right.now merge.hunks hunks
    merge.merge left right merge.outcome.1 in
    let len : ℕ = c.choose_materialized_conflict_marker_len-marker_len.result in
    let chosen : chosen_marker_len hunks ≡ len
    = sym (c.choose_materialized_conflict_marker_len-marker_len.ensures
    ∙ ap (λ hs. chosen_marker_len (contents hs)) c.deref.ensures.value) in
    let positive : 0 < len
    = subst (λ n. 0 < n) chosen (c.chosen_marker_len_is_parsable.ensures.positive hunks) in
    let parsable : IsParsable (run_limit c.args.style len) 2 hunks
    = subst (λ n. IsParsable (run_limit c.args.style n) 2 hunks) chosen
    (c.chosen_marker_len_is_parsable.ensures.len c.args.style 2 hunks lines.0) in
    let rendered : IsRendered c.args.style len (labels_as_merge c.args.labels.now) hunks
    c.in_ok-text-in-Conflict.text.items
    = subst (λ hs. IsRendered c.args.style len (labels_as_merge c.args.labels.now) (contents hs)
    c.in_ok-text-in-Conflict.text.items) c.deref-in-Conflict.ensures.value
    c.in_ok-text-in-Conflict.ensures in
    record {
      hunks = merge.hunks;
      merge = merge.merge;
      conflict = merge.outcome.0;
      merged = merge.outcome.1;
      parsed = c.in_ok-parsed-in-Conflict.ensures
          ∙ ap (parsed len 2) c.deref-in-Conflict-2.ensures.value
          ∙ c.rendered_hunks_are_parsed.ensures c.args.style len 2
          (labels_as_merge c.args.labels.now) hunks c.in_ok-text-in-Conflict.text.items positive parsable
          rendered
          ∙ lines.1;
    }
