use Rattle.std.proofs.Common.{◌≡◌, ◌++◌, map, drop, length}
use Rattle.std.specs.List.{AllZip}
use Rattle.std.specs.Option.{option_map}
use Rattle.jj_backend.specs.MergedTreeValues.{CanTakeId, with_file_ids}
use Rattle.jj_backend.proofs.backend.merged_tree_value.replace_file_ids.Given as goal

abbrev pub invariant-loop-i : goal.invariant-loop-i
invariant-loop-i g l =
    let seen = λ (xs : _). map (option_map g.T.AsTreeValue.value_of) xs in record {
      made : with_file_ids (seen l.values) l.ids ≡ l.files.items ++ with_file_ids (seen (drop l.i l.values)) (drop l.i l.ids);
      rest : AllZip CanTakeId (seen (drop l.i l.values)) (drop l.i l.ids);
      counted : length l.files.items ≡ l.i;
      same : length l.ids ≡ length l.values;
    }
