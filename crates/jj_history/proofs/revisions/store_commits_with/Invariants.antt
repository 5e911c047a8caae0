-- The ids with the prefix so far.
use Rattle.std.proofs.Common.{◌≡◌, take}
use Rattle.jj_history.specs.Revisions.{store_commits_with}
use Rattle.jj_history.proofs.revisions.store_commits_with.Given as goal

abbrev pub invariant-loop-id : goal.invariant-loop-id
invariant-loop-id l = l.found.items ≡ store_commits_with (take l.id-index l.ids) l.prefix
