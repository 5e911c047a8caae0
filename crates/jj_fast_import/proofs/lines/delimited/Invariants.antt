use Rattle.std.proofs.Common.{◌≡◌, ◌≤◌, ◌-◌, true, length, take, drop}
use Rattle.jj_fast_import.specs.Lines.{until}
use Rattle.jj_fast_import.proofs.Splits.{prepended}
use Rattle.jj_fast_import.proofs.lines.delimited.Given as goal

abbrev pub invariant-loop-len : goal.invariant-loop-len
invariant-loop-len l = record {
  within : l.len ≤ length l.bytes;
  so : prepended (take l.len l.bytes) (until l.delimiter l.is_start (drop l.len l.bytes)) ≡ until l.delimiter true l.bytes;
}

abbrev pub decreases-loop-len : goal.decreases-loop-len
decreases-loop-len l = length l.bytes - l.len
