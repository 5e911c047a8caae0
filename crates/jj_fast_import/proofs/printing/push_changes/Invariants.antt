use Rattle.std.proofs.Common.{◌≡◌, ◌++◌, map, take}
use Rattle.std.specs.List.{flat_map}
use Rattle.jj_fast_import.specs.Texts.{change_text}
use Rattle.jj_fast_import.specs.Values.{change_value}
use Rattle.jj_fast_import.proofs.printing.push_changes.Given as goal

abbrev pub invariant-loop-change : goal.invariant-loop-change
invariant-loop-change l = l.out.items ≡ l.fn.out.items ++ flat_map change_text (map change_value (take l.change-index l.changes))
