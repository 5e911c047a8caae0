use Rattle.std.proofs.Common.{◌++◌, [], ◌∷◌, length, get_or, ap, sym, arith, length-append}
use Rattle.jj_diff.specs.Inputs.{bytes_of}
use Rattle.jj_diff.proofs.Rows.{none, none_at, parts_push, length-bytes_of}
use Rattle.jj_diff.proofs.Joining.{part_here}
use Rattle.jj_diff.proofs.diff.refine.joined_row.Goals as goal

pub loop-index-preserved : goal.loop-index-preserved
loop-index-preserved c = record {
  len = omega (arith, ap length c.in_ok-push.ensures.items, length-append c.loop-index.row.items (c.part_at.result ∷ []), c.loop-index.invariant.len);
  parts = λ adjacent. rw c.in_ok-push.ensures.items (
      parts_push (λ j. get_or (bytes_of c.args.first.now) j [] ++ get_or (bytes_of c.args.second.now) j []) c.loop-index.index c.loop-index.row.items c.part_at.result
      c.loop-index.invariant.len (c.loop-index.invariant.parts adjacent)
      (part_here (bytes_of c.args.inputs.now) c.args.starts.now (bytes_of c.args.first.now) (bytes_of c.args.second.now) c.loop-index.index adjacent
      (omega (arith, c.loop-index-test.true, length-bytes_of c.args.inputs.now))
      (get_or c.args.inputs.now c.loop-index.index none).now c.part_at.result.now c.offset_at-start.result (length c.part_of-first_len.result.now) (length c.part_of-second_len.result.now)
      (sym (none_at c.args.inputs.now c.loop-index.index)) c.offset_at-start.ensures (ap length c.part_of-first_len.ensures) (ap length c.part_of-second_len.ensures) c.part_at.ensures));
}
