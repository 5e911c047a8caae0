use Rattle.std.proofs.Common.{map, option_map, take}
use Rattle.jj_paths.specs.Names.{name_of}
use Rattle.jj_trees.specs.FirstNames.{first_name, IsMinName}
use Rattle.jj_backend.specs.Trees.{entries_left}
use Rattle.jj_trees.proofs.tree_merge.rows.min_first_name.Given as goal

abbrev pub invariant-loop-remaining : goal.invariant-loop-remaining
invariant-loop-remaining l = IsMinName (option_map name_of l.least) (map first_name (map entries_left (take l.remaining-index l.remaining_lists)))
