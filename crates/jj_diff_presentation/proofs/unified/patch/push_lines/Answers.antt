use Rattle.jj_diff_presentation.specs.Lines.{split_lines}
use Rattle.jj_diff_presentation.specs.Applying.{run, patch_lines}
use Rattle.jj_diff_presentation.specs.Views.{state_view}
use Rattle.std.proofs.Common.{◌+◌}
use Rattle.jj_diff_presentation.proofs.Applying.{run_fault}
use Rattle.jj_diff_presentation.proofs.unified.patch.push_lines.Goals as goal

pub returns-in-Ok-Some : goal.returns-in-Ok-Some
returns-in-Ok-Some c =
    run_fault (state_view c.loop-rest.state) c.in-Ok-Some.expected c.loop-rest.number
    (c.loop-rest.number + c.split_patch_line-next.result.count)
    c.split_patch_line-next.result.line.now c.loop-rest.rest.now
    c.split_patch_line-next.result.rest.now
    (run (state_view c.args.state.now) (patch_lines 1 (split_lines c.args.patch.now)))
    (c.split_patch_line-next.ensures.lines c.loop-rest.number)
    (rw c.in-Ok-Some.field-0-is at c.in-Ok-Some.ensures.step)
    c.loop-rest.invariant.run
