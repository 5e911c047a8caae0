-- The removes from the index on are linked.
use Rattle.std.proofs.Common.{◌≡◌, ◌≤◌, length}
use Rattle.jj_program.specs.MergeSimplify.{AreHeadsFrom, AreNextsFrom}
use Rattle.jj_program.proofs.merge_simplify.link_removes.Given as goal

abbrev pub invariant-loop-index : goal.invariant-loop-index
invariant-loop-index l = record {
  within : l.index ≤ length l.classes;
  nexts_size : length l.nexts.items ≡ length l.classes;
  heads_size : length l.heads.items ≡ length l.classes;
  nexts : AreNextsFrom l.index l.classes l.nexts.items;
  heads : AreHeadsFrom l.index l.classes l.heads.items;
}

abbrev pub decreases-loop-index : goal.decreases-loop-index
decreases-loop-index l = l.index
