use Rattle.std.proofs.Common.{map, take}
use Rattle.jj_content_merges.specs.Files.{terms_of, Outcomes}
use Rattle.jj_content_merges.specs.Rows.{rows_of}
use Rattle.jj_content_merges.proofs.files.rows.merge_rows.Given as goal

abbrev pub invariant-loop-row : goal.invariant-loop-row
invariant-loop-row l = Outcomes l.same_change (rows_of (take l.row-index l.rows)) (map terms_of l.merged.items)
