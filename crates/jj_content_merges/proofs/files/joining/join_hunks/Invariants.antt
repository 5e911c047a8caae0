use Rattle.std.proofs.Common.{◌≡◌, ◌++◌, map, drop}
use Rattle.jj_content_merges.specs.Hunks.{contents, joined_after, joined}
use Rattle.jj_content_merges.specs.Files.{terms_of}
use Rattle.jj_content_merges.proofs.files.joining.join_hunks.Given as goal

abbrev pub invariant-loop-hunk : goal.invariant-loop-hunk
invariant-loop-hunk l =
    contents l.joiner.hunks.items ++ joined_after l.joiner.resolved.items (map terms_of (drop l.hunk-index l.hunks))
    ≡ joined (map terms_of l.hunks)
