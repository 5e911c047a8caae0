use Rattle.std.proofs.Common.{◌≡◌}
use Rattle.jj_core_c.specs.Pieces.{pieces_of}
use Rattle.jj_core_c.proofs.TextMerges.{rendered, resolved}
use Rattle.jj_core_c.proofs.text_merges.materialized.Goals as goal

pub returns-in-Resolved : goal.returns-in-Resolved
returns-in-Resolved c = resolved c.args.git c.args.accept (pieces_of c.args.bytes.now c.args.ends.now) _ c.same_change_of.result c.in_ok-text.field-0 c.in-Resolved.text c.same_change_of.ensures c.in_ok-terms.ensures c.in-Resolved.is c.in_ok-text.ensures.merge

pub returns : goal.returns
returns c = rendered c.args.git c.args.accept (pieces_of c.args.bytes.now c.args.ends.now) _ c.same_change_of.result c.in_ok-text.field-0 c.in-Conflict.hunks c.marker_style_of.result c.choose_materialized_conflict_marker_len-len.result _ c.deref.result.now c.deref-in-Conflict.result.now c.materialize.result c.same_change_of.ensures c.in_ok-terms.ensures c.in-Conflict.is c.in_ok-text.ensures.merge c.marker_style_of.ensures c.choose_materialized_conflict_marker_len-len.ensures c.deref.ensures.value c.deref-in-Conflict.ensures.value c.unlabeled-labels.ensures c.materialize.ensures
