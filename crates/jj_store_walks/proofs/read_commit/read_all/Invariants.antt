-- The commits of the ids so far.
use Rattle.std.proofs.Common.{◌≡◌, map, take}
use Rattle.std.specs.Prelude.{All}
use Rattle.jj_store_walks.specs.ReadCommits.{IsStored, id_of}
use Rattle.jj_store_walks.proofs.read_commit.read_all.Given as goal

abbrev pub invariant-loop-id : goal.invariant-loop-id
invariant-loop-id g l = record {
  ids : map id_of l.commits.items ≡ take l.id-index l.ids;
  stored : All (IsStored (g.B.Backend.objects l.store)) l.commits.items;
}
