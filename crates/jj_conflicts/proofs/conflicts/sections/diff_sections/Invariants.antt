use Rattle.std.proofs.Common.{◌≡◌, ◌+◌, map, string_bytes, length}
use Rattle.jj_merges.specs.Merge.{IsOdd}
use Rattle.jj_conflicts.proofs.DiffLoops.{Continues}
use Rattle.jj_conflicts.proofs.conflicts.sections.diff_sections.Given as goal

abbrev pub invariant-loop-rest : goal.invariant-loop-rest
invariant-loop-rest l = record {
  continues : Continues l.marker_len (map string_bytes l.labels) l.terms l.text.items l.index l.rest;
  odd : IsOdd (length l.rest);
  index : l.index + length l.rest ≡ length l.terms;
}

abbrev pub decreases-loop-rest : goal.decreases-loop-rest
decreases-loop-rest l = length l.rest
