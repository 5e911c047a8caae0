use Rattle.std.proofs.Common.{◌≡◌, ◌<◌, length}
use Rattle.jj_program.proofs.merge_pairs.find_opposite.Given as goal

abbrev pub invariant-loop : goal.invariant-loop
invariant-loop l = record {
  size : length l.hints ≡ length l.initial.hints;
  slot : l.slot < length l.hints;
  free : l.free < length l.hints;
}
