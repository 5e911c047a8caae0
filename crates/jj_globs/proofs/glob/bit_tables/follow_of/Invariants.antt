-- The sets of the states before this one.
use Rattle.std.proofs.Common.{◌≡◌, length}
use Rattle.jj_globs.proofs.BitTables.{FollowedBefore}
use Rattle.jj_globs.proofs.glob.bit_tables.follow_of.Given as goal

abbrev pub invariant-loop-state : goal.invariant-loop-state
invariant-loop-state l = record {
  len : length l.follow.items ≡ l.state;
  closed : FollowedBefore l.steps l.state l.follow.items;
}
