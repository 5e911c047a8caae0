use Rattle.std.proofs.Common.{arith}
use Rattle.std.proofs.lemmas.Result.{err_from_is_err_and}
use Rattle.jj_stores.specs.declared.op_store.ref_target.RemoteRefState.TheVariants.{New, Tracked}
use Rattle.jj_decode.proofs.RefStates.{state_error, state_decoded, none_if_unknown}
use Rattle.jj_decode.proofs.records.op_store.RemoteRefStateReadContent.read.Goals as goal

pub returns-in_err-tag-clause-malformed : goal.returns-in_err-tag-clause-malformed
returns-in_err-tag-clause-malformed c =
    let p = err_from_is_err_and c.from_residual.result c.from_residual.ensures.1 in
    rw (p.1, p.2) (state_error c.args.bytes.now c.args.start c.in_err-tag.field-0.0 c.in_err-tag.ensures.malformed)

pub returns-in-0-clause-decoded : goal.returns-in-0-clause-decoded
returns-in-0-clause-decoded c = state_decoded c.args.bytes.now c.args.start c.in_ok-tag.tag c.in_ok-tag.end c.in_ok-tag.ensures.decoded New c.in-0.is

pub returns-in-1-clause-decoded : goal.returns-in-1-clause-decoded
returns-in-1-clause-decoded c = state_decoded c.args.bytes.now c.args.start c.in_ok-tag.tag c.in_ok-tag.end c.in_ok-tag.ensures.decoded Tracked c.in-1.is

pub returns-in_default-clause-malformed : goal.returns-in_default-clause-malformed
returns-in_default-clause-malformed c =
    rw c.unknown_tag.ensures (none_if_unknown c.args.bytes.now c.args.start c.in_ok-tag.tag c.in_ok-tag.end c.in_ok-tag.ensures.decoded c.requires (omega arith))
