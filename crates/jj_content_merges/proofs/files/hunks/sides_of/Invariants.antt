use Rattle.std.proofs.Common.{◌≡◌, map, length}
use Rattle.std.specs.List.{range_with_len}
use Rattle.jj_content_merges.specs.Hunks.{merge_contents, merged_side}
use Rattle.jj_content_merges.specs.Files.{terms_of}
use Rattle.jj_content_merges.proofs.files.hunks.sides_of.Given as goal

abbrev pub invariant-loop-index : goal.invariant-loop-index
invariant-loop-index l = record {
  sides : merge_contents l.sides.items ≡ map (λ k. merged_side k (map terms_of l.hunks)) (range_with_len 0 l.index);
  count : length l.sides.items ≡ l.index;
}
