use Rattle.std.proofs.Common.{refl}
use Rattle.std.proofs.lemmas.Nat.{and_mask}
use Rattle.std.proofs.Output.{writes_in_calls_single}
use Rattle.jj_content.proofs.SymbolEscapes.{escaped_plain}
use Rattle.jj_content.proofs.QuotedWrites.{writes_same, writes_escape, writes_control}
use Rattle.jj_content.proofs.symbol_util.write_escaped.Goals as goal

pub returns-in_ok-write_str-in-Some : goal.returns-in_ok-write_str-in-Some
returns-in_ok-write_str-in-Some g c = writes_escape _ _ _ c.args.c _ c.in-Some.ensures.0 c.in-Some.ensures.1 (c.in_ok-write_str-in-Some.ensures.ok refl)

pub returns-in_ok-write_char-in-None-2 : goal.returns-in_ok-write_char-in-None-2
returns-in_ok-write_char-in-None-2 g c =
    writes_control _ _ _ _ _ c.args.c _ _ _ c.in-None.ensures c.if-is_ascii_control.ensures.value
    c.hex_digit_char.ensures.digit c.hex_digit_char.ensures.ascii c.hex_digit_char-in-None.ensures.digit (and_mask c.args.c 4) c.hex_digit_char-in-None.ensures.ascii
    (c.in_ok-write_str-in-None.ensures.ok refl) c.in_ok-write_char-in-None.ensures.writes c.in_ok-write_char-in-None-2.ensures.writes

pub returns-in_ok-write_char-in-None-2-2 : goal.returns-in_ok-write_char-in-None-2-2
returns-in_ok-write_char-in-None-2-2 g c =
    writes_same _ _ _ _ _ (escaped_plain c.args.c c.in-None.ensures c.if-is_ascii_control.ensures.value)
    (writes_in_calls_single _ _ _ _ c.in_ok-write_char-in-None-2-2.ensures.writes)
