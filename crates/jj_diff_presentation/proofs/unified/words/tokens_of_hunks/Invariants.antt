use Rattle.std.proofs.Common.{◌≡◌, ◌++◌, map, drop, take}
use Rattle.std.specs.Prelude.{All}
use Rattle.std.specs.List.{AllZip}
use Rattle.jj_diff.specs.Inputs.{side}
use Rattle.jj_diff.specs.Hunks.{row_of}
use Rattle.jj_diff_presentation.specs.Words.{left_text, right_text, IsToken, IsTokenOf}
use Rattle.jj_diff_presentation.proofs.unified.words.tokens_of_hunks.Given as goal

abbrev pub invariant-loop-hunk : goal.invariant-loop-hunk
invariant-loop-hunk l = record {
  left : left_text l.tokens.items ++ side 0 (map row_of (drop l.hunk-index l.hunks))
      ≡ side 0 (map row_of l.hunks);
  right : right_text l.tokens.items ++ side 1 (map row_of (drop l.hunk-index l.hunks))
      ≡ side 1 (map row_of l.hunks);
  matching : All IsToken l.tokens.items;
  each : AllZip IsTokenOf (take l.hunk-index l.hunks) l.tokens.items;
}
