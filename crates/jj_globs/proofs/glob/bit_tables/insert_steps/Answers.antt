use Rattle.std.proofs.Common.{◌∙◌}
use Rattle.std.proofs.lemmas.Option.{slice_get-get_or}
use Rattle.jj_globs.proofs.BitTables.{inserted_none, inserted_next, inserted_all}
use Rattle.jj_globs.proofs.glob.bit_tables.insert_steps.Goals as goal

pub loop-state-init : goal.loop-state-init
loop-state-init c = record { live = inserted_none c.args.options c.args.steps.now c.args.takes.now c.requires.none; room = c.requires.room }

pub loop-state-preserved : goal.loop-state-preserved
loop-state-preserved c = record {
  live = inserted_next c.args.options c.args.steps.now _ c.loop-state.state c.loop-state.takes c.insert_step.new.takes
      (slice_get-get_or c.args.steps.now c.loop-state.state _ c.loop-state-test.true) c.insert_step.ensures.live c.loop-state.invariant.live;
  room = c.insert_step.ensures.len ∙ c.loop-state.invariant.room;
}

pub returns-clause-live : goal.returns-clause-live
returns-clause-live c = inserted_all c.args.options c.args.steps.now c.loop-state.state c.loop-state.takes c.loop-state-test.false c.loop-state.invariant.live
