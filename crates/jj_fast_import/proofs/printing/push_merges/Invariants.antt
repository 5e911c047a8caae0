use Rattle.std.proofs.Common.{◌≡◌, ◌++◌, map, take}
use Rattle.jj_fast_import.specs.Texts.{merges_text}
use Rattle.jj_fast_import.specs.Values.{reference_value}
use Rattle.jj_fast_import.proofs.printing.push_merges.Given as goal

abbrev pub invariant-loop-merge : goal.invariant-loop-merge
invariant-loop-merge l = l.out.items ≡ l.fn.out.items ++ merges_text (map reference_value (take l.merge-index l.merges))
