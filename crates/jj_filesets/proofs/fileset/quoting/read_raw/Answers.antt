use Rattle.std.proofs.Common.{arith, subst, sym}
use Rattle.std.proofs.lemmas.List.{nil_from_length}
use Rattle.jj_filesets.specs.Strings.{Fails, raw}
use Rattle.jj_filesets.proofs.Strings.{prepended-none, raw_ends, raw_next, raw_unclosed}
use Rattle.jj_filesets.proofs.fileset.quoting.read_raw.Goals as goal

pub loop-byte-init : goal.loop-byte-init
loop-byte-init c = record { string = prepended-none c.new-bytes.result.items _ c.new-bytes.ensures.items; within = omega arith }

pub returns-then-byte-eq39-clause-string : goal.returns-then-byte-eq39-clause-string
returns-then-byte-eq39-clause-string c =
    raw_ends c.args.start c.in-Some.byte.now c.args.text.now c.loop-byte.rest.now c.loop-byte.bytes.items c.in-Some.after.now
    c.loop-byte.invariant.string c.in-Some.ensures.cases.0 c.if-byte-eq39.true

pub loop-byte-preserved : goal.loop-byte-preserved
loop-byte-preserved c = record {
  string = raw_next c.args.start c.in-Some.byte.now c.args.text.now c.loop-byte.rest.now c.loop-byte.bytes.items c.push.new.self.items c.in-Some.after.now
      c.loop-byte.invariant.string c.in-Some.ensures.cases.0 c.if-byte-eq39.false c.in_ok-push.ensures.items;
  within = omega (arith, c.in-Some.ensures.cases.1, c.loop-byte.invariant.within);
}

pub returns-clause-string : goal.returns-clause-string
returns-clause-string c =
    subst (λ e. Fails e (raw c.args.start c.args.text.now)) (sym c.new.ensures)
    (raw_unclosed c.args.start c.args.text.now c.loop-byte.rest.now c.loop-byte.bytes.items c.loop-byte.invariant.string (nil_from_length c.loop-byte.rest.now c.in_default.ensures.cases))
