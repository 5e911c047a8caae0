use Rattle.std.proofs.Common.{◌≡◌, ◌⊎◌, ℕ, []}
use Rattle.jj_diff.specs.Inputs.{bytes_of, AreRanges}
use Rattle.jj_diff.specs.Hunks.{IsProgress, HasGap, StartsWith}
use Rattle.jj_diff.proofs.diff.hunks.push_regions.Given as goal

abbrev pub invariant-loop-region : goal.invariant-loop-region
invariant-loop-region g l = record {
  progress : IsProgress g.C.CompareBytes.canonical (g.T.Tokenizer.is_end l.tokenizer) (bytes_of l.inputs) l.progress.hunks.items l.progress.from.items l.progress.at.items;
  gap : (l.progress.hunks.items ≡ []) ⊎ HasGap (bytes_of l.inputs) l.progress.from.items l.progress.at.items;
  ranges : AreRanges (bytes_of l.inputs) l.progress.at.items l.starts;
  start : (n : ℕ) → StartsWith n l.initial.progress.hunks.items l.initial.progress.at.items
      → StartsWith n l.progress.hunks.items l.progress.at.items;
}
