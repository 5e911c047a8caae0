use Rattle.std.proofs.Common.{◌≡◌, ◌≤◌, max, fold, length}
use Rattle.jj_conflicts.specs.Lines.{split_lines}
use Rattle.jj_conflicts.specs.Markers.{run_length}
use Rattle.jj_conflicts.proofs.conflicts.render.longest_run.Given as goal

abbrev pub invariant-loop-rest : goal.invariant-loop-rest
invariant-loop-rest l = record {
  longest : fold (λ longest line. max longest (run_length line)) l.longest (split_lines l.rest)
      ≡ fold (λ longest line. max longest (run_length line)) 0 (split_lines l.text);
  bounded : l.longest ≤ length l.text;
  shorter : length l.rest ≤ length l.text;
}

abbrev pub decreases-loop-rest : goal.decreases-loop-rest
decreases-loop-rest l = length l.rest
