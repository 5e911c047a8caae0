use Rattle.std.proofs.Common.{◌∙◌, sym}
use Rattle.std.proofs.lemmas.List.{nil_from_length}
use Rattle.jj_fast_import.proofs.Splits.{prepended-nil, unquoted-ends, unquoted-literal, unquoted-within, unquoted-invalid, unquoted-unclosed}
use Rattle.jj_fast_import.proofs.quoting.unquote.Goals as goal

pub loop-byte-init : goal.loop-byte-init
loop-byte-init c = prepended-nil c.new-bytes.result.items _ c.new-bytes.ensures.items

pub returns-in-End : goal.returns-in-End
returns-in-End c =
    unquoted-ends c.loop-byte.escape c.in-Some.byte.now c.args.text.now c.loop-byte.rest.now c.loop-byte.bytes.items c.in-Some.after.now
    c.loop-byte.invariant c.in-Some.ensures.cases.0 (sym c.quoted_byte.ensures ∙ c.in-End.is)

pub returns-in-Invalid : goal.returns-in-Invalid
returns-in-Invalid c =
    unquoted-invalid c.loop-byte.escape c.in-Some.byte.now c.args.text.now c.loop-byte.rest.now c.loop-byte.bytes.items c.in-Some.after.now
    c.loop-byte.invariant c.in-Some.ensures.cases.0 (sym c.quoted_byte.ensures ∙ c.in-Invalid.is)

pub loop-byte-preserved : goal.loop-byte-preserved
loop-byte-preserved c =
    unquoted-literal c.loop-byte.escape c.in-Some.byte.now c.in-Literal.literal c.args.text.now c.loop-byte.rest.now c.loop-byte.bytes.items c.push.new.self.items c.in-Some.after.now
    c.loop-byte.invariant c.in-Some.ensures.cases.0 (sym c.quoted_byte.ensures ∙ c.in-Literal.is) c.in_ok-push-in-Literal.ensures.items

pub returns : goal.returns
returns c =
    unquoted-unclosed c.loop-byte.escape c.args.text.now c.loop-byte.rest.now c.loop-byte.bytes.items
    c.loop-byte.invariant (nil_from_length c.loop-byte.rest.now c.in_default.ensures.cases)
