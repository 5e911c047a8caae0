use Rattle.std.proofs.Common.{◌≡◌, ℕ, ◌<◌, List, IfOk, ap, sym, ◌∙◌, subst}
use Rattle.jj_merges.specs.Labels.{labels_as_merge}
use Rattle.jj_conflicts.specs.Contents.{contents}
use Rattle.jj_conflicts.specs.Conditions.{IsParsable, joined, run_limit}
use Rattle.jj_conflicts.specs.Parsing.{parsed}
use Rattle.jj_conflicts_tests.proofs.callers.parse_rendered.Goals as goal

pub returns : goal.returns
returns c =
    let len : ℕ = c.choose_materialized_conflict_marker_len-marker_len.result in
    let hunks : List (List (List ℕ)) = contents c.args.hunks.now in
    let positive : 0 < len
    = subst (λ n. 0 < n) (sym c.choose_materialized_conflict_marker_len-marker_len.ensures)
    (c.chosen_marker_len_is_parsable.ensures.positive hunks) in
    let parsable : IsParsable (run_limit c.args.style len) c.args.num_sides hunks
    = subst (λ n. IsParsable (run_limit c.args.style n) c.args.num_sides hunks)
    (sym c.choose_materialized_conflict_marker_len-marker_len.ensures)
    (c.chosen_marker_len_is_parsable.ensures.len c.args.style c.args.num_sides hunks c.requires) in
    subst (λ x. IfOk c.parse_hunks.result (λ found. contents found.items ≡ x))
    (ap (parsed len c.args.num_sides) c.deref.ensures.value
    ∙ c.rendered_hunks_are_parsed.ensures c.args.style len c.args.num_sides (labels_as_merge c.args.labels.now) hunks
    c.in_ok-text.text.items positive parsable c.in_ok-text.ensures)
    c.parse_hunks.ensures
