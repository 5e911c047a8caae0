use Rattle.std.proofs.Common.{All, length, sym, subst}
use Rattle.jj_diff.specs.Inputs.{bytes_of}
use Rattle.jj_diff.specs.Tokens.{is_line_end}
use Rattle.jj_merges.specs.Merge.{IsOdd}
use Rattle.jj_content_merges.proofs.Resolving.{odd_parts, length-bytes_of}
use Rattle.jj_content_merges.proofs.files.rows.merge_by_lines.Goals as goal

pub merge_lines-requires : goal.merge_lines-requires
merge_lines-requires c =
    subst (λ rows. All (λ row. IsOdd (length row.items)) rows) (sym c.deref.ensures.value)
    (odd_parts is_line_end (bytes_of c.args.terms.now) c.in_ok-rows.rows.items c.in_ok-rows.ensures.split
    (subst IsOdd (sym (length-bytes_of c.args.terms.now)) c.requires))
