use Rattle.std.proofs.Common.{◌≡◌, ◌∙◌, Some, sym}
use Rattle.jj_file_merges.specs.FileTerms.{file_term}
use Rattle.jj_file_merges.proofs.Zips.{zip_more}
use Rattle.jj_file_merges.proofs.terms.file_terms.Goals as goal

pub loop-value-preserved : goal.loop-value-preserved
loop-value-preserved c =
    rw c.in_ok-push-in-Some.ensures.items
    (zip_more (λ value term. file_term value ≡ Some term) c.args.values.now c.loop-value.terms.items c.loop-value.value-index c.value-item.result c.in-Some.term
    c.loop-value-test.true c.value-item.is c.loop-value.invariant (sym c.in_ok-term.ensures ∙ c.in-Some.is))
