use Rattle.std.proofs.Common.{◌≡◌, ◌∙◌, ℕ, List, Vec, ap, refl, subst}
use Rattle.std.specs.Global.{Global}
use Rattle.std.proofs.lemmas.Result.{IfOk-weaker}
use Rattle.jj_merges.specs.Labels.{labels_as_merge}
use Rattle.jj_content_merges.specs.Files.{IsMergeResult}
use Rattle.jj_content_merges.specs.Hunks.{merge_contents}
use Rattle.jj_content_merges.specs.declared.files.MergeResult.TheVariants.{Conflict, Resolved}
use Rattle.jj_conflicts.specs.Contents.{contents}
use Rattle.jj_conflicts.specs.Markers.{chosen_marker_len}
use Rattle.jj_conflicts.specs.Rendering.{IsRendered}
use Rattle.jj_file_merges.proofs.marking.marked_content.Goals as goal

pub returns-in-Resolved : goal.returns-in-Resolved
returns-in-Resolved c = record {
  merged = Resolved c.in-Resolved.content;
  merge = subst (IsMergeResult c.args.options.now.hunk_level c.args.options.now.same_change (merge_contents c.args.contents.now)) c.in-Resolved.is
      (subst (λ (ts : List (List ℕ)). IsMergeResult c.args.options.now.hunk_level c.args.options.now.same_change ts c.in_ok-content.field-0) c.in_ok-terms.ensures c.in_ok-content.ensures.merge);
  shown = refl;
}

pub returns : goal.returns
returns c =
    let level = c.args.options.now.hunk_level in
    let same = c.args.options.now.same_change in
    let len : ℕ = c.choose_materialized_conflict_marker_len-marker_len.result in
    let chosen : len ≡ chosen_marker_len (contents c.in-Conflict.hunks.items)
    = c.choose_materialized_conflict_marker_len-marker_len.ensures ∙ ap (λ (hs : List (List (Vec ℕ Global))). chosen_marker_len (contents hs)) c.deref.ensures.value in
    IfOk-weaker c.materialize.result _ _ (λ content rendered. record {
      merged = Conflict c.in-Conflict.hunks;
      merge = subst (IsMergeResult level same (merge_contents c.args.contents.now)) c.in-Conflict.is
          (subst (λ (ts : List (List ℕ)). IsMergeResult level same ts c.in_ok-content.field-0) c.in_ok-terms.ensures c.in_ok-content.ensures.merge);
      shown = subst (λ (n : ℕ). IsRendered c.args.style n (labels_as_merge c.args.labels.now) (contents c.in-Conflict.hunks.items) content.items) chosen
          (subst (λ (hs : List (List (Vec ℕ Global))). IsRendered c.args.style len (labels_as_merge c.args.labels.now) (contents hs) content.items) c.deref-in-Conflict.ensures.value rendered);
    }) c.materialize.ensures
