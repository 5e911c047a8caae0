-- The lines so far, with their ends.
use Rattle.std.proofs.Common.{◌≡◌, map, take}
use Rattle.jj_filesets.specs.Listing.{ended_lines}
use Rattle.jj_filesets.proofs.listing.ended_lines.Given as goal

abbrev pub invariant-loop-line : goal.invariant-loop-line
invariant-loop-line l = l.output.items ≡ ended_lines l.separator (map (λ line. line.now) (take l.line-index l.lines))
