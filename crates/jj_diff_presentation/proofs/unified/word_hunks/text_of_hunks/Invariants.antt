use Rattle.std.proofs.Common.{take}
use Rattle.jj_diff_presentation.specs.Words.{IsWordDiff}
use Rattle.jj_diff_presentation.proofs.unified.word_hunks.text_of_hunks.Given as goal

abbrev pub invariant-loop-hunk : goal.invariant-loop-hunk
invariant-loop-hunk l = IsWordDiff (take l.hunk-index l.hunks) l.text.items
