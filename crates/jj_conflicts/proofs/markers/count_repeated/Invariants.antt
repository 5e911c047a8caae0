use Rattle.std.proofs.Common.{◌≡◌, ◌+◌, ◌==◌, drop}
use Rattle.std.specs.List.{prefix_len}
use Rattle.jj_conflicts.proofs.markers.count_repeated.Given as goal

abbrev pub invariant-loop-index : goal.invariant-loop-index
invariant-loop-index l =
    l.index + prefix_len (λ c. c == l.byte) (drop l.index l.line)
    ≡ prefix_len (λ c. c == l.byte) l.line
