use Rattle.std.proofs.Common.{ap, inr, sym, subst}
use Rattle.jj_diff.specs.Inputs.{bytes_of}
use Rattle.jj_content_merges.specs.Files.{terms_of, IsUnresolved}
use Rattle.jj_content_merges.proofs.Resolving.{text, resolves_texts}
use Rattle.jj_content_merges.proofs.files.rows.merge_hunk.Goals as goal

pub returns-in_ok-from_slice-in-Line : goal.returns-in_ok-from_slice-in-Line
returns-in_ok-from_slice-in-Line c =
    inr (
      subst (λ level. IsUnresolved level c.args.same_change (bytes_of c.args.row.now) (bytes_of c.in_ok-from_slice-in-Line.field-0.items))
          (sym c.in-Line.is) (ap bytes_of c.in_ok-from_slice-in-Line.ensures.items),
      λ w r. c.in-None.ensures.unresolved (text w) (resolves_texts c.args.row.now c.args.same_change w r),
    )

pub returns-in_ok-hunk-in-Word : goal.returns-in_ok-hunk-in-Word
returns-in_ok-hunk-in-Word c =
    inr (
      subst (λ level. IsUnresolved level c.args.same_change (bytes_of c.args.row.now) (terms_of c.in_ok-hunk-in-Word.hunk))
          (sym c.in-Word.is) c.in_ok-hunk-in-Word.ensures,
      λ w r. c.in-None.ensures.unresolved (text w) (resolves_texts c.args.row.now c.args.same_change w r),
    )
