-- The commits so far.
use Rattle.std.proofs.Common.{◌≡◌, map}
use Rattle.std.specs.Map.Iter.{deref}
use Rattle.jj_history_commands.proofs.revisions.values.Given as goal

abbrev pub invariant-loop-id : goal.invariant-loop-id
invariant-loop-id l = record {
  can : goal.iterator-loop-id.can_next l.id-iterator;
  finite : goal.iterator-loop-id.is_finite l.id-iterator;
  commits : l.commits.items ≡ map deref l.yielded;
}
