use Rattle.std.proofs.Common.{◌≡◌, map, drop}
use Rattle.jj_content_merges.specs.Hunks.{all_resolved}
use Rattle.jj_content_merges.specs.Files.{terms_of}
use Rattle.jj_content_merges.proofs.files.hunks.are_resolved.Given as goal

abbrev pub invariant-loop-hunk : goal.invariant-loop-hunk
invariant-loop-hunk l = all_resolved (map terms_of (drop l.hunk-index l.hunks)) ≡ all_resolved (map terms_of l.hunks)
