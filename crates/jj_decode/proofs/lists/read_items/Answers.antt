use Rattle.std.proofs.Common.{inr}
use Rattle.std.proofs.lemmas.Result.{err_from_is_err_and}
use Rattle.jj_decode.proofs.ListItems.{items_read_push, contents_items_error}
use Rattle.jj_decode.proofs.lists.read_items.Goals as goal

pub returns-in_err-item-clause-malformed : goal.returns-in_err-item-clause-malformed
returns-in_err-item-clause-malformed g c =
    let p = err_from_is_err_and c.from_residual.result c.from_residual.ensures.1 in
    rw (p.1, p.2) (contents_items_error g.met.T.ReadContent.contents c.args.bytes.now c.args.start
    c.loop.offset c.args.count c.loop.counter c.loop.items.items c.in_err-item.field-0.0
    c.loop.invariant c.loop-test.true c.in_err-item.ensures.malformed)

pub loop-preserved : goal.loop-preserved
loop-preserved g c =
    rw c.in_ok-push.ensures.items
    (items_read_push g.T.ContentHash.is_value g.T.ContentHash.content c.args.bytes.now c.args.start
    c.loop.offset c.in_ok-item.end c.loop.counter c.loop.items.items c.in_ok-item.item
    c.loop.invariant c.in_ok-item.ensures.decoded)

pub returns-in_err-item-clause-error : goal.returns-in_err-item-clause-error
returns-in_err-item-clause-error g c =
    let p = err_from_is_err_and c.from_residual.result c.from_residual.ensures.1 in
    let read = c.loop.invariant in
    rw (p.1, p.2) (inr (
      c.loop.counter,
      c.loop.items.items,
      c.loop.offset,
      c.loop-test.true,
      record { valid = (read.len, read.values); split = read.split; within = read.within },
      c.in_err-item.ensures.error,
    ))
