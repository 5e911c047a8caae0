use Rattle.std.proofs.Common.{inl, inr, refl, arith}
use Rattle.std.proofs.lemmas.Result.{err_from_is_err_and}
use Rattle.jj_decode.proofs.ListItems.{counted, contents_count_error, contents_list_error}
use Rattle.jj_decode.proofs.MergeLists.{merge_error, none_if_even, merge_decoded}
use Rattle.jj_decode.proofs.records.merges.MergeReadContent.read.Goals as goal

pub returns-in_err-count-clause-malformed : goal.returns-in_err-count-clause-malformed
returns-in_err-count-clause-malformed g c =
    let p = err_from_is_err_and c.from_residual.result c.from_residual.ensures.1 in
    let n = contents_count_error g.T.ReadContent.is_content g.met.T.ReadContent.contents.nonempty c.args.bytes.now c.args.start c.in_err-count.field-0.0 c.in_err-count.ensures.malformed in
    rw (p.1, p.2) (merge_error g.T.ReadContent.is_content c.args.bytes.now c.args.start c.in_err-count.field-0.0 n)

pub returns-in_err-terms-clause-malformed : goal.returns-in_err-terms-clause-malformed
returns-in_err-terms-clause-malformed g c =
    let p = err_from_is_err_and c.from_residual-in_err-terms.result c.from_residual-in_err-terms.ensures.1 in
    let n = contents_list_error g.T.ReadContent.is_content c.args.bytes.now c.args.start c.in_ok-count.count c.in_ok-count.mid c.in_ok-count.ensures.decoded c.in_err-terms.field-0.0 c.requires c.in_err-terms.ensures.malformed in
    rw (p.1, p.2) (merge_error g.T.ReadContent.is_content c.args.bytes.now c.args.start c.in_err-terms.field-0.0 n)

pub returns-then-count-eq0-clause-malformed : goal.returns-then-count-eq0-clause-malformed
returns-then-count-eq0-clause-malformed g c =
    rw c.invalid_value.ensures (none_if_even g.T.ReadContent.is_content c.args.bytes.now c.args.start c.in_ok-count.count c.in_ok-count.mid c.requires c.in_ok-count.ensures.decoded (omega arith))

pub returns-clause-decoded : goal.returns-clause-decoded
returns-clause-decoded g c =
    rw c.in_ok-merge.ensures (merge_decoded g.T.ContentHash.is_value g.T.ContentHash.content c.args.bytes.now c.args.start c.in_ok-count.count c.in_ok-count.mid c.in_ok-terms.end c.in_ok-terms.terms.items (omega arith)
    c.in_ok-count.ensures.decoded c.in_ok-terms.ensures.decoded)

pub returns-in_err-count-clause-error : goal.returns-in_err-count-clause-error
returns-in_err-count-clause-error g c =
    let p = err_from_is_err_and c.from_residual.result c.from_residual.ensures.1 in
    rw (p.1, p.2) (inl c.in_err-count.ensures.error)

pub returns-then-count-eq0-clause-error : goal.returns-then-count-eq0-clause-error
returns-then-count-eq0-clause-error g c =
    rw c.invalid_value.ensures (inr (
      c.in_ok-count.count,
      c.in_ok-count.mid,
      counted c.in_ok-count.ensures.decoded c.in_ok-count.ensures.bounded,
      inl (omega arith, refl),
    ))

pub returns-in_err-terms-clause-error : goal.returns-in_err-terms-clause-error
returns-in_err-terms-clause-error g c =
    let p = err_from_is_err_and c.from_residual-in_err-terms.result
    c.from_residual-in_err-terms.ensures.1 in
    rw (p.1, p.2) (inr (
      c.in_ok-count.count,
      c.in_ok-count.mid,
      counted c.in_ok-count.ensures.decoded c.in_ok-count.ensures.bounded,
      inr (omega arith, c.in_err-terms.ensures.error),
    ))
