use Rattle.std.proofs.Common.{subst}
use Rattle.jj_diff.specs.Inputs.{bytes_of}
use Rattle.jj_content_merges.specs.Files.{terms_of, IsOutcome}
use Rattle.jj_content_merges.specs.Rows.{parts_of}
use Rattle.jj_content_merges.proofs.Resolving.{zip_push}
use Rattle.jj_content_merges.proofs.files.rows.merge_rows.Goals as goal

pub loop-row-preserved : goal.loop-row-preserved
loop-row-preserved c =
    let outcome : IsOutcome c.args.same_change (parts_of c.row-item.result) (terms_of c.in_ok-outcome.outcome) =
    subst (λ xs. IsOutcome c.args.same_change (bytes_of xs) (terms_of c.in_ok-outcome.outcome)) c.deref.ensures.value c.in_ok-outcome.ensures in
    rw c.in_ok-push.ensures.items (zip_push parts_of (IsOutcome c.args.same_change) c.args.rows.now c.loop-row.row-index c.row-item.result
    c.loop-row.merged.items c.in_ok-outcome.outcome c.loop-row-test.true c.row-item.is c.loop-row.invariant outcome)
