-- The ids with the prefix so far.
use Rattle.std.proofs.Common.{◌≡◌, map}
use Rattle.std.specs.Map.Iter.{deref}
use Rattle.jj_history.specs.Revisions.{store_commits_with}
use Rattle.jj_history.proofs.revisions.values_with.Given as goal

abbrev pub invariant-loop-id : goal.invariant-loop-id
invariant-loop-id l = record {
  can : goal.iterator-loop-id.can_next l.id-iterator;
  finite : goal.iterator-loop-id.is_finite l.id-iterator;
  found : l.found.items ≡ store_commits_with (map deref l.yielded) l.prefix;
}
