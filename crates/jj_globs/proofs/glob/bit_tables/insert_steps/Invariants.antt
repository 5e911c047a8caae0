-- The states before this one are inserted.
use Rattle.std.proofs.Common.{◌≡◌, length}
use Rattle.jj_globs.proofs.BitTables.{InsertedSoFar}
use Rattle.jj_globs.proofs.glob.bit_tables.insert_steps.Given as goal

abbrev pub invariant-loop-state : goal.invariant-loop-state
invariant-loop-state l = record {
  live : InsertedSoFar l.options l.steps l.state l.takes;
  room : length l.takes ≡ 256;
}
