use Rattle.std.proofs.Common.{◌≡◌, ◌∙◌, map, ap}
use Rattle.std.specs.Option.{option_map}
use Rattle.std.specs.Prelude.{string_bytes, codes, ◌++◌}
use Rattle.jj_merges.specs.Labels.{labels_as_merge}
use Rattle.jj_merges.specs.Merge.{adds, removes}
use Rattle.jj_backend.specs.MergedTreeValues.{lines, newline}
use Rattle.jj_backend.proofs.MergedTreeValues.{adds-map, removes-map, after_both}
use Rattle.jj_backend.proofs.backend.merged_tree_value.MergeOptionMergedTreeValueExt.describe.Goals as goal

pub returns : goal.returns
returns g c =
    let seen = option_map g.T.AsTreeValue.value_of in
    let values = c.args.self.now in
    let labels = labels_as_merge c.args.labels.now in
    let texts = c.as_merge-labels.result.now in
    let removed_values : map seen c.removes.result ≡ removes (map seen values) = ap (map seen) c.removes.ensures ∙ removes-map seen values in
    let removed_labels : map string_bytes c.removes-2.result ≡ removes labels = ap (map string_bytes) c.removes-2.ensures ∙ removes-map string_bytes texts ∙ ap removes c.as_merge-labels.ensures in
    let added_values : map seen c.adds.result ≡ adds (map seen values) = ap (map seen) c.adds.ensures ∙ adds-map seen values in
    let added_labels : map string_bytes c.adds-2.result ≡ adds labels = ap (map string_bytes) c.adds-2.ensures ∙ adds-map string_bytes texts ∙ ap adds c.as_merge-labels.ensures in
    after_both (codes "Conflict:" ++ newline) _ _ _ _ _
    (lines (codes "  Removing ") (removes (map seen values)) (removes labels)) (lines (codes "  Adding ") (adds (map seen values)) (adds labels))
    c.in_ok-text.ensures.ok c.in_ok-push_lines.ensures c.in_ok-push_lines-2.ensures
    (λ i. lines (codes "  Removing ") (removed_values i) (removed_labels i)) (λ i. lines (codes "  Adding ") (added_values i) (added_labels i))
