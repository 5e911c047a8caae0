use Rattle.std.proofs.Common.{◌≡◌, ◌≤◌, ◌-◌, length, take, drop}
use Rattle.jj_fast_import.specs.Words.{split_once}
use Rattle.jj_fast_import.proofs.Splits.{prepended}
use Rattle.jj_fast_import.proofs.words.split_once.Given as goal

abbrev pub invariant-loop-len : goal.invariant-loop-len
invariant-loop-len l = record {
  within : l.len ≤ length l.bytes;
  so : prepended (take l.len l.bytes) (split_once l.byte (drop l.len l.bytes)) ≡ split_once l.byte l.bytes;
}

abbrev pub decreases-loop-len : goal.decreases-loop-len
decreases-loop-len l = length l.bytes - l.len
