-- The bytes so far and the first characters of the rest are those of the whole.
use Rattle.std.proofs.Common.{◌≡◌, ◌≤◌, ◌-◌, ◌++◌, length, take, drop}
use Rattle.jj_excerpts.specs.Excerpts.{shown}
use Rattle.jj_excerpts.proofs.shown_len.Given as goal

abbrev pub invariant-loop-len : goal.invariant-loop-len
invariant-loop-len l = (l.len ≤ length l.bytes) × (take l.len l.bytes ++ shown l.left (drop l.len l.bytes) ≡ shown 60 l.bytes)

abbrev pub decreases-loop-len : goal.decreases-loop-len
decreases-loop-len l = length l.bytes - l.len
