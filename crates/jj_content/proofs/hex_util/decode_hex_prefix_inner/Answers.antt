use Rattle.std.proofs.Common.{◌≡◌, ◌%◌, length, refl, sym, arith}
use Rattle.std.proofs.lemmas.Bool.{eq-eqb}
use Rattle.std.proofs.lemmas.Grind.{common_steps}
use Rattle.jj_content.proofs.HexCoding.{DecodesTo-nil}
use Rattle.jj_content.proofs.HexDecoding.{are_digits, invalid_chunk, invalid_last, next_pair, last_digit, padded-is_hex, whole_pairs}
use Rattle.jj_content.proofs.hex_util.decode_hex_prefix_inner.Goals as goal

pub loop-pair-init : goal.loop-pair-init
loop-pair-init c = rw c.in_ok-decoded.ensures.items (DecodesTo-nil _)

pub returns-in_default : goal.returns-in_default
returns-in_default c = invalid_chunk _ _ _ c.loop-pair.pair-index _ 0 c.as_chunks.ensures.front (omega arith) (omega arith) c.in_default.ensures.value

pub returns-in_default-hex_value : goal.returns-in_default-hex_value
returns-in_default-hex_value c = invalid_chunk _ _ _ c.loop-pair.pair-index _ 1 c.as_chunks.ensures.front (omega arith) (omega arith) c.in_default-hex_value.ensures.value

pub loop-pair-preserved : goal.loop-pair-preserved
loop-pair-preserved c =
    next_pair _ _ _ _ _ c.loop-pair.pair-index _ _ c.in-Some.high c.in-Some-hex_value.low c.byte_of_digits.result (are_digits c.args.digits) c.as_chunks.ensures.front (omega arith)
    c.loop-pair.invariant c.in-Some.ensures.value c.in-Some-hex_value.ensures.value c.byte_of_digits.ensures c.in_ok-push.ensures.items

pub returns-in_default-hex_value-2 : goal.returns-in_default-hex_value-2
returns-in_default-hex_value-2 c = invalid_last _ _ _ c.as_chunks.ensures.back c.as_chunks.ensures.back_len (omega arith) c.in_default-hex_value-2.ensures.value

pub returns-in_default-rest : goal.returns-in_default-rest
returns-in_default-rest c =
    let even : length c.args.hex.now % 2 ≡ 0 = grind (arith, common_steps) in
    let reads = whole_pairs _ _ _ c.loop-pair.pair-index (omega arith) even c.loop-pair.invariant in
    (padded-is_hex _ _ _ (are_digits c.args.digits) reads, reads, rw even refl)

pub returns : goal.returns
returns c =
    let digits = are_digits c.args.digits in
    let reads = last_digit _ _ _ _ _ c.loop-pair.pair-index c.in-Some-hex_value-2.high c.byte_of_digits-2.result digits c.as_chunks.ensures.back c.as_chunks.ensures.back_len (omega arith) (omega arith)
    c.loop-pair.invariant c.in-Some-hex_value-2.ensures.value c.byte_of_digits-2.ensures c.in_ok-push-2.ensures.items in
    (padded-is_hex _ _ _ digits reads, reads, sym (eq-eqb _ _ (omega arith)))
