use Rattle.std.proofs.Common.{All, length, sym, subst}
use Rattle.jj_diff.specs.Inputs.{bytes_of}
use Rattle.jj_diff.specs.Tokens.{is_word_end}
use Rattle.jj_merges.specs.Merge.{IsOdd}
use Rattle.jj_content_merges.proofs.Resolving.{odd_parts, length-bytes_of}
use Rattle.jj_content_merges.proofs.files.rows.merge_by_words.Goals as goal

pub merge_rows-requires : goal.merge_rows-requires
merge_rows-requires c =
    subst (λ rows. All (λ row. IsOdd (length row.items)) rows) (sym c.deref.ensures.value)
    (odd_parts is_word_end (bytes_of c.args.row.now) c.in_ok-rows.rows.items c.in_ok-rows.ensures
    (subst IsOdd (sym (length-bytes_of c.args.row.now)) c.requires))
