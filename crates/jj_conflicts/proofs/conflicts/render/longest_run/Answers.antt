use Rattle.std.proofs.Common.{rules, arith, max}
use Rattle.jj_conflicts.specs.Markers.{run_length}
use Rattle.jj_conflicts.proofs.ParseLaws.{fold_step}
use Rattle.jj_conflicts.proofs.conflicts.render.longest_run.Goals as goal

pub loop-rest-preserved : goal.loop-rest-preserved
loop-rest-preserved c = record {
  longest = fold_step (λ longest line. max longest (run_length line)) c.loop-rest.longest
      c.max-longest.result _ c.loop-rest.rest.now c.split_first_line.result.0.now
      c.split_first_line.result.1.now c.split_first_line.ensures.lines (search rules)
      c.loop-rest.invariant.longest;
  bounded = search rules;
  shorter = omega arith;
}
