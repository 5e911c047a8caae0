use Rattle.std.proofs.Common.{length, sym, subst, All}
use Rattle.jj_diff.specs.Inputs.{bytes_of}
use Rattle.jj_merges.specs.Merge.{IsOdd}
use Rattle.jj_content_merges.specs.Files.{terms_of}
use Rattle.jj_content_merges.proofs.Resolving.{length-bytes_of}
use Rattle.jj_content_merges.proofs.Results.{odd_hunks}
use Rattle.jj_content_merges.proofs.files.merge_hunks.Goals as goal

pub join_hunks-requires : goal.join_hunks-requires
join_hunks-requires c =
    subst (λ hs. All (λ h. IsOdd (length (terms_of h))) hs) (sym c.deref-2.ensures.value)
    (odd_hunks c.args.options.now.hunk_level c.args.options.now.same_change (bytes_of c.as_slice.result.now)
    c.in_ok-hunks.hunks.items c.in_ok-hunks.ensures.merge
    (subst IsOdd (sym (length-bytes_of c.as_slice.result.now))
    (subst (λ m. IsOdd (length m)) (sym c.as_slice.ensures.terms) c.as_slice.ensures.odd)))
