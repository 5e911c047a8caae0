use Rattle.std.proofs.Common.{string_bytes, string_eq}
use Rattle.jj_merges.specs.Simplify.{at_indices, simplified_indices}
use Rattle.jj_merges.proofs.LabelLaws.{map-clones}
use Rattle.jj_merges_tests.proofs.KeptLabels.{both, keep_labels}
use Rattle.jj_merges_tests.proofs.callers.simplify_labeled.Goals as goal

pub returns-clause-aligned : goal.returns-clause-aligned
returns-clause-aligned c =
    let m = c.args.strings.now in
    let indices = simplified_indices string_eq m in
    both _ _ _ c.simplify_with.result
    (λ p labels terms. keep_labels string_bytes m p.1 c.args.labels.now p.0 indices
    (λ sides k hk. c.simplified_indices_laws.ensures.aligned m c.args.labels.now c.as_slice-terms.ensures.odd sides k hk)
    c.requires labels (map-clones string_bytes (at_indices m indices) p.1 terms))
    c.simplify_with.ensures.labels c.simplify_with.ensures.terms
