-- The bytes below this one are tested.
use Rattle.std.proofs.Common.{◌≡◌, length}
use Rattle.jj_globs.specs.GlobTables.{takes_byte}
use Rattle.jj_globs.proofs.BitTables.{TestedSoFar}
use Rattle.jj_globs.proofs.glob.bit_tables.insert_tested.Given as goal

abbrev pub invariant-loop-byte : goal.invariant-loop-byte
invariant-loop-byte l = record {
  live : TestedSoFar (takes_byte l.options l.step) l.state l.byte l.fn.takes l.takes;
  room : length l.takes ≡ 256;
}
