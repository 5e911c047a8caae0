use Rattle.std.proofs.Common.{◌≡◌, ◌+◌, ◌≤◌, length, fold, Ok}
use Rattle.jj_diff_presentation.specs.Lines.{split_lines}
use Rattle.jj_diff_presentation.specs.Applying.{run_line, patch_lines, run}
use Rattle.jj_diff_presentation.specs.Views.{state_view, IsBounded}
use Rattle.jj_diff_presentation.proofs.unified.patch.push_lines.Given as goal

abbrev pub invariant-loop-rest : goal.invariant-loop-rest
invariant-loop-rest l = record {
  run : fold run_line (Ok (state_view l.state)) (patch_lines l.number (split_lines l.rest))
      ≡ run (state_view l.fn.state) (patch_lines 1 (split_lines l.patch));
  counted : l.number + length (split_lines l.rest) ≡ length (split_lines l.patch) + 1;
  fits : l.number + length l.rest ≤ length l.patch + 1;
  bounded : IsBounded l.state;
}

abbrev pub decreases-loop-rest : goal.decreases-loop-rest
decreases-loop-rest l = length l.rest
