use Rattle.std.proofs.Common.{◌≡◌, drop, true}
use Rattle.jj_diff.specs.Whitespace.{without_whitespace, spaced}
use Rattle.jj_diff.proofs.diff.whitespace.skip_whitespace.Given as goal

abbrev pub invariant-loop-index : goal.invariant-loop-index
invariant-loop-index l = record {
  without : without_whitespace (drop l.start l.text) ≡ without_whitespace (drop l.index l.text);
  spaced : spaced true (drop l.start l.text) ≡ spaced true (drop l.index l.text);
}
