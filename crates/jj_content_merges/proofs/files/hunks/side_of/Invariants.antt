use Rattle.std.proofs.Common.{◌≡◌, ◌++◌, map, drop}
use Rattle.jj_content_merges.specs.Hunks.{merged_side}
use Rattle.jj_content_merges.specs.Files.{terms_of}
use Rattle.jj_content_merges.proofs.files.hunks.side_of.Given as goal

abbrev pub invariant-loop-hunk : goal.invariant-loop-hunk
invariant-loop-hunk l = l.text.items ++ merged_side l.index (map terms_of (drop l.hunk-index l.hunks))
    ≡ merged_side l.index (map terms_of l.hunks)
