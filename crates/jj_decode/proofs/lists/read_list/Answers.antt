use Rattle.std.proofs.Common.{inl, inr}
use Rattle.std.proofs.lemmas.Result.{err_from_is_err_and}
use Rattle.jj_decode.proofs.ListItems.{counted, contents_count_error, contents_list_error, list_decoded}
use Rattle.jj_decode.proofs.lists.read_list.Goals as goal

pub returns-in_err-count-clause-malformed : goal.returns-in_err-count-clause-malformed
returns-in_err-count-clause-malformed g c =
    let p = err_from_is_err_and c.from_residual.result c.from_residual.ensures.1 in
    rw (p.1, p.2) (contents_count_error g.T.ReadContent.is_content
    g.met.T.ReadContent.contents.nonempty c.args.bytes.now c.args.start c.in_err-count.field-0.0
    c.in_err-count.ensures.malformed)

pub returns-in_err-items-clause-malformed : goal.returns-in_err-items-clause-malformed
returns-in_err-items-clause-malformed g c =
    let p = err_from_is_err_and c.from_residual-in_err-items.result
    c.from_residual-in_err-items.ensures.1 in
    rw (p.1, p.2) (contents_list_error g.T.ReadContent.is_content c.args.bytes.now c.args.start
    c.in_ok-count.count c.in_ok-count.mid c.in_ok-count.ensures.decoded c.in_err-items.field-0.0
    c.requires c.in_err-items.ensures.malformed)

pub returns-clause-decoded : goal.returns-clause-decoded
returns-clause-decoded g c =
    list_decoded g.T.ContentHash.is_value g.T.ContentHash.content c.args.bytes.now c.args.start
    c.in_ok-count.count c.in_ok-count.mid c.in_ok-count.ensures.decoded c.in_ok-items.items.items
    c.in_ok-items.end c.in_ok-items.ensures.decoded

pub returns-in_err-count-clause-error : goal.returns-in_err-count-clause-error
returns-in_err-count-clause-error g c =
    let p = err_from_is_err_and c.from_residual.result c.from_residual.ensures.1 in
    rw (p.1, p.2) (inl c.in_err-count.ensures.error)

pub returns-in_err-items-clause-error : goal.returns-in_err-items-clause-error
returns-in_err-items-clause-error g c =
    let p = err_from_is_err_and c.from_residual-in_err-items.result
    c.from_residual-in_err-items.ensures.1 in
    rw (p.1, p.2) (inr (
      c.in_ok-count.count,
      c.in_ok-count.mid,
      counted c.in_ok-count.ensures.decoded c.in_ok-count.ensures.bounded,
      c.in_err-items.ensures.error,
    ))
