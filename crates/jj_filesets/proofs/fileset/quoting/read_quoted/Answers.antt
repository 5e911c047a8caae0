use Rattle.std.proofs.Common.{◌∙◌, arith, refl, subst, sym}
use Rattle.std.proofs.lemmas.List.{nil_from_length}
use Rattle.jj_filesets.specs.declared.fileset.quoting.Escape.TheVariants.{Outside}
use Rattle.jj_filesets.specs.Strings.{Fails, quoted}
use Rattle.jj_filesets.proofs.Strings.{prepended-none, quoted_ends, quoted_literal, quoted_invalid, quoted_unclosed}
use Rattle.jj_filesets.proofs.fileset.quoting.read_quoted.Goals as goal

pub loop-byte-init : goal.loop-byte-init
loop-byte-init c = record { string = prepended-none c.new-bytes.result.items _ c.new-bytes.ensures.items; within = omega arith }

pub returns-in-End-clause-string : goal.returns-in-End-clause-string
returns-in-End-clause-string c =
    quoted_ends c.args.total c.args.start c.loop-byte.escape c.in-Some.byte.now c.args.text.now c.loop-byte.rest.now c.loop-byte.bytes.items c.in-Some.after.now
    c.loop-byte.invariant.string c.in-Some.ensures.cases.0 (sym c.quoted_byte.ensures ∙ c.in-End.is)

pub returns-in-Invalid-clause-string : goal.returns-in-Invalid-clause-string
returns-in-Invalid-clause-string c =
    subst (λ e. Fails e (quoted c.args.total c.args.start Outside c.args.text.now)) (sym c.new.ensures)
    (quoted_invalid c.args.total c.args.start c.loop-byte.escape _ c.in-Some.byte.now c.args.text.now c.loop-byte.rest.now c.loop-byte.bytes.items c.in-Some.after.now
    c.loop-byte.invariant.string c.in-Some.ensures.cases.0 (sym c.quoted_byte.ensures ∙ c.in-Invalid.is) refl)

pub loop-byte-preserved : goal.loop-byte-preserved
loop-byte-preserved c = record {
  string = quoted_literal c.args.total c.args.start c.loop-byte.escape c.in-Some.byte.now c.in-Literal.literal c.args.text.now c.loop-byte.rest.now c.loop-byte.bytes.items c.push.new.self.items c.in-Some.after.now
      c.loop-byte.invariant.string c.in-Some.ensures.cases.0 (sym c.quoted_byte.ensures ∙ c.in-Literal.is) c.in_ok-push-in-Literal.ensures.items;
  within = omega (arith, c.in-Some.ensures.cases.1, c.loop-byte.invariant.within);
}

pub returns-clause-string : goal.returns-clause-string
returns-clause-string c =
    subst (λ e. Fails e (quoted c.args.total c.args.start Outside c.args.text.now)) (sym c.new-2.ensures)
    (quoted_unclosed c.args.total c.args.start c.loop-byte.escape c.args.text.now c.loop-byte.rest.now c.loop-byte.bytes.items
    c.loop-byte.invariant.string (nil_from_length c.loop-byte.rest.now c.in_default.ensures.cases))
