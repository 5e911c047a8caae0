use Rattle.std.proofs.Common.{take}
use Rattle.jj_diff.specs.Refined.{AreRefinements}
use Rattle.jj_diff.proofs.diff.refine.hunk_refinements.Given as goal

abbrev pub invariant-loop-hunk : goal.invariant-loop-hunk
invariant-loop-hunk g l = record {
  refined : AreRefinements g.C.CompareBytes.canonical (g.T.Tokenizer.is_end l.tokenizer) (take l.hunk-index l.hunks) l.refined.items;
}
