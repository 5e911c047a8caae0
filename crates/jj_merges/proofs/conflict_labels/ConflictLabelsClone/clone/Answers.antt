use Rattle.std.proofs.Common.{◌∙◌, sym, ap}
use Rattle.std.specs.Prelude.{string_bytes}
use Rattle.jj_merges.specs.Labels.{is_unlabeled, normalized_labels}
use Rattle.jj_merges.proofs.LabelLaws.{map-clones}
use Rattle.jj_merges.proofs.conflict_labels.ConflictLabelsClone.clone.Goals as goal

pub invariant_of-result : goal.invariant_of-result
invariant_of-result c h =
    let same = map-clones string_bytes c.self.inside.labels c.in_ok-labels.labels c.in_ok-labels.ensures.terms in
    same ∙ c.self.invariant (ap is_unlabeled (sym same) ∙ h)

pub returns : goal.returns
returns c =
    let same = map-clones string_bytes c.self.inside.labels c.in_ok-labels.labels c.in_ok-labels.ensures.terms in
    record { cases = ap normalized_labels same ∙ c.self.view_is }
