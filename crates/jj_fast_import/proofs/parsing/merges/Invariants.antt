use Rattle.std.proofs.Common.{◌≡◌, ◌-◌, map}
use Rattle.jj_fast_import.specs.Commands.{merges_at}
use Rattle.jj_fast_import.specs.Values.{reference_value}
use Rattle.jj_fast_import.proofs.Repeated.{with_front}
use Rattle.jj_fast_import.proofs.parsing.merges.Given as goal

abbrev pub invariant-loop : goal.invariant-loop
invariant-loop l = with_front (map reference_value l.merges.items) (merges_at l.at_end (l.limit - l.counter) l.rest) ≡ merges_at l.at_end l.limit l.bytes
