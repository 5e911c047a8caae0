-- The lines so far were parsed, and their number is that of the rest.
use Rattle.std.proofs.Common.{◌+◌, ◌≤◌, length}
use denote.Text.{Utf8}
use denote.Shadow.{shadow}
use Rattle.jj_log.proofs.ReadLines.{IsParsing}
use Rattle.jj_log.proofs.input.parse_commits.Given as goal

abbrev pub invariant-loop-line : goal.invariant-loop-line
invariant-loop-line l = shadow (Utf8 l.rest) × (l.number + length l.rest ≤ 1 + length l.fn.input) × IsParsing l.fn.input l.rest l.number l.commits.items l.numbers.items

abbrev pub decreases-loop-line : goal.decreases-loop-line
decreases-loop-line l = length l.rest
