use Rattle.std.proofs.Common.{ap, inr}
use Rattle.jj_diff.specs.Inputs.{bytes_of}
use Rattle.jj_content_merges.proofs.Resolving.{text, resolves_texts}
use Rattle.jj_content_merges.proofs.files.rows.merge_row.Goals as goal

pub returns-in_ok-from_slice-in-None : goal.returns-in_ok-from_slice-in-None
returns-in_ok-from_slice-in-None c =
    inr (
      ap bytes_of c.in_ok-from_slice-in-None.ensures.items,
      λ w r. c.in-None.ensures.unresolved (text w) (resolves_texts c.args.row.now c.args.same_change w r),
    )
