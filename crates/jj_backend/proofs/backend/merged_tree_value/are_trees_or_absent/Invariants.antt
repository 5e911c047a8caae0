use Rattle.std.proofs.Common.{◌≡◌, map, drop}
use Rattle.std.specs.List.{list_all}
use Rattle.std.specs.Option.{option_map}
use Rattle.jj_backend.specs.MergedTreeValues.{is_tree_or_absent}
use Rattle.jj_backend.proofs.backend.merged_tree_value.are_trees_or_absent.Given as goal

abbrev pub invariant-loop-term : goal.invariant-loop-term
invariant-loop-term g l =
    list_all is_tree_or_absent (map (option_map g.T.AsTreeValue.value_of) l.terms)
    ≡ list_all is_tree_or_absent (map (option_map g.T.AsTreeValue.value_of) (drop l.term-index l.terms))
