use Rattle.std.proofs.Common.{◌∙◌, length, map, ap, refl}
use Rattle.std.proofs.lemmas.List.{length-map}
use Rattle.std.specs.List.{AllZip}
use Rattle.std.specs.Option.{option_map}
use Rattle.jj_backend.specs.MergedTreeValues.{CanTakeId}
use Rattle.jj_backend.proofs.MergedTreeValues.{zip-lengths}
use Rattle.jj_backend.proofs.backend.merged_tree_value.replace_file_ids.Goals as goal

pub loop-i-init : goal.loop-i-init
loop-i-init g c =
    let seen = option_map g.T.AsTreeValue.value_of in
    let xs = c.as_slice-values.result.now in
    let fit : AllZip CanTakeId (map seen xs) c.as_slice-ids.result.now = rw (c.as_slice-values.ensures.terms, c.as_slice-ids.ensures.terms) c.requires in record {
      made = rw c.new-files.ensures.items refl;
      rest = fit;
      counted = ap length c.new-files.ensures.items;
      same = zip-lengths CanTakeId (map seen xs) c.as_slice-ids.result.now fit ∙ length-map xs seen;
    }
