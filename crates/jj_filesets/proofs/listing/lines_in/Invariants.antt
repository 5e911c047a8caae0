-- The lines found so far are those among the visited ones that are in the set.
use Rattle.std.proofs.Common.{map, take}
use Rattle.jj_filesets.specs.Listing.{IsLineIn}
use Rattle.jj_filesets.specs.Selection.{IsSelected}
use Rattle.jj_filesets.proofs.listing.lines_in.Given as goal

abbrev pub invariant-loop-line : goal.invariant-loop-line
invariant-loop-line l =
    IsSelected (IsLineIn l.expression l.nul) (map (λ line. line.now) (take l.line-index l.lines)) (map (λ line. line.now) l.found.items)
