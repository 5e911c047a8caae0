use Rattle.std.proofs.Common.{◌∙◌, sym}
use Rattle.std.specs.Prelude.{string_bytes}
use Rattle.std.specs.Cmp.Lexicographic.{pointwise}
use Rattle.std.specs.Str.{bytes_eq}
use Rattle.jj_merges.proofs.MappedLists.{pointwise-map}
use Rattle.jj_merges.proofs.conflict_labels.ConflictLabelsPartialEq.eq.Goals as goal

pub returns : goal.returns
returns c =
    c.eq.ensures
    ∙ (sym (pointwise-map string_bytes bytes_eq c.as_slice.result.now c.as_slice-2.result.now)
    ∙ (λ i. pointwise bytes_eq (c.as_slice.ensures i) (c.as_slice-2.ensures i)))
