use Rattle.std.proofs.Common.{◌-◌, arith}
use Rattle.std.proofs.lemmas.Nat.{and_le_r}
use Rattle.jj_globs.proofs.BitTables.{clear_lowest, united_none, united_next}
use Rattle.jj_globs.proofs.glob.bit_tables.union.Goals as goal

pub loop-left-init : goal.loop-left-init
loop-left-init c = record { united = united_none c.args.sets.now c.args.states; inside = λ s bit. bit }

pub loop-left-smaller : goal.loop-left-smaller
loop-left-smaller c =
    let left = c.loop-left.left in
    let some = c.loop-left-test.true in
    let most = and_le_r left (left - 1) in
    omega (arith, some, most)

pub loop-left-preserved : goal.loop-left-preserved
loop-left-preserved c =
    let left = c.loop-left.left in
    let state = c.lowest_bit-state.result in
    let bit = c.lowest_bit-state.ensures.1 in
    let zeros = c.lowest_bit-state.ensures.2 in
    record {
      united = united_next c.args.sets.now c.args.states c.loop-left.all left state bit zeros c.loop-left.invariant.united;
      inside = λ s set. c.loop-left.invariant.inside s ((clear_lowest left state bit zeros s).0 set).0;
    }
