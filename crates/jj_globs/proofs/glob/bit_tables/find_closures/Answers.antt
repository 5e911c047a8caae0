use Rattle.std.proofs.Common.{◌∙◌, ◌-◌, length, arith}
use Rattle.std.proofs.lemmas.List.{length-set}
use Rattle.jj_globs.proofs.BitTables.{closure_end, closures_begun, closures_more}
use Rattle.jj_globs.proofs.glob.bit_tables.find_closures.Goals as goal

pub loop-state-init : goal.loop-state-init
loop-state-init c =
    let room = c.requires.room in
    let size = c.requires.size in
    record {
      later = closures_begun c.args.steps.now c.args.closures.now _ (omega (arith, room, size)) (closure_end c.args.steps.now size);
      room = length-set c.args.closures.now (length c.args.steps.now) _ ∙ room;
    }

pub loop-state-preserved : goal.loop-state-preserved
loop-state-preserved c =
    let room = c.loop-state.invariant.room in
    let size = c.requires.size in
    let more = c.loop-state-test.true in
    let most = c.loop-state.auto.state in
    let state = c.loop-state.state - 1 in
    record {
      later = closures_more c.args.steps.now c.loop-state.closures c.loop-state.state state _ (omega (arith, more)) (omega (arith, room, size, most, more))
          c.closure_of.ensures c.loop-state.invariant.later;
      room = length-set c.loop-state.closures state _ ∙ room;
    }
