use Rattle.std.proofs.Common.{◌≡◌, ◌-◌, map}
use Rattle.jj_fast_import.specs.Commands.{changes_at}
use Rattle.jj_fast_import.specs.Values.{change_value}
use Rattle.jj_fast_import.proofs.Repeated.{with_front}
use Rattle.jj_fast_import.proofs.parsing.changes.Given as goal

abbrev pub invariant-loop : goal.invariant-loop
invariant-loop l = with_front (map change_value l.changes.items) (changes_at l.at_end (l.limit - l.counter) l.rest) ≡ changes_at l.at_end l.limit l.bytes
