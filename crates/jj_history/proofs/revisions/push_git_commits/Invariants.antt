-- The commits found so far, after those from before.
use Rattle.std.proofs.Common.{◌≡◌, ◌++◌, map}
use Rattle.std.specs.Map.Iter.{deref_pair}
use Rattle.jj_history.specs.Revisions.{commits_named}
use Rattle.jj_history.proofs.revisions.push_git_commits.Given as goal

abbrev pub invariant-loop-git_id : goal.invariant-loop-git_id
invariant-loop-git_id l = record {
  can : goal.iterator-loop-git_id.can_next l.git_id-iterator;
  finite : goal.iterator-loop-git_id.is_finite l.git_id-iterator;
  found : l.found.items ≡ l.initial.found.items ++ commits_named (map deref_pair l.yielded) l.prefix;
}
