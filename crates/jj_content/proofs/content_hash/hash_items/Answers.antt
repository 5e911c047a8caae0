use Rattle.std.proofs.Common.{arith, length, subst}
use Rattle.std.specs.Prelude.{All}
use Rattle.std.proofs.lemmas.List.{take_all}
use Rattle.jj_content.specs.Content.{u64_content, list_content}
use Rattle.jj_content.proofs.AbsorbedPrefixes.{prefix_items, on_err_from}
use Rattle.jj_content.proofs.content_hash.hash_items.Goals as goal

pub returns-in_err-hash-clause-err : goal.returns-in_err-hash-clause-err
unfolding list_content
returns-in_err-hash-clause-err g c =
    on_err_from c.from_residual.result
    (prefix_items g.D.DigestUpdate.absorbed g.T.ContentHash.content c.args.state.now c.loop-item.state c.hash.new.state (u64_content (length c.args.items.now))
    c.args.items.now c.loop-item.item-index c.item-item.result (omega arith) c.item-item.is c.loop-item.invariant.taken c.in_err-hash.ensures.err)

pub returns-clause-value : goal.returns-clause-value
returns-clause-value g c = (
  omega arith,
  let done = take_all c.loop-item.item-index c.args.items.now (omega arith) in
      subst (All g.T.ContentHash.is_value) done c.loop-item.invariant.values,
)
