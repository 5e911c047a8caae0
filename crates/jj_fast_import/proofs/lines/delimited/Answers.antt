use Rattle.std.proofs.Common.{arith, refl, sym}
use Rattle.jj_fast_import.proofs.Splits.{prepended-nil}
use Rattle.jj_fast_import.proofs.Delimited.{until_found, until_next, until_nowhere}
use Rattle.jj_fast_import.proofs.lines.delimited.Goals as goal

pub loop-len-init : goal.loop-len-init
loop-len-init c = record { within = omega arith; so = prepended-nil _ _ refl }

pub returns-in-Some : goal.returns-in-Some
returns-in-Some c = until_found c.args.delimiter.now c.loop-len.is_start c.loop-len.len c.args.bytes.now c.loop-len.invariant.so c.in-Some.rest.now c.loop-len-test.true (sym c.in-Some.ensures)

pub loop-len-preserved : goal.loop-len-preserved
loop-len-preserved c = record {
  within = omega arith;
  so = until_next c.args.delimiter.now c.loop-len.is_start c.loop-len.len c.args.bytes.now c.loop-len.invariant.so c.loop-len-test.true (sym c.in_default.ensures);
}

pub returns : goal.returns
returns c = until_nowhere c.args.delimiter.now c.loop-len.is_start c.loop-len.len c.args.bytes.now c.loop-len.invariant.so c.loop-len-test.false
