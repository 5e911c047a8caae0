use Rattle.std.proofs.Common.{◌≡◌, ◌≤◌, ◌<◌, ℕ, length, get_or, map, take}
use Rattle.jj_paths.specs.Names.{name_of}
use Rattle.jj_trees.specs.FirstNames.{first_value, without_first}
use Rattle.jj_backend.specs.Trees.{entries_left}
use Rattle.jj_backend.specs.declared.backend.tree.TreeEntriesNonRecursiveIterator.{TreeEntriesNonRecursiveIterator}
use Rattle.jj_trees.proofs.tree_merge.rows.remove_values.Given as goal

abbrev pub invariant-loop-remaining : goal.invariant-loop-remaining
invariant-loop-remaining l = record {
  values : l.values.items ≡ map (first_value (name_of l.name)) (map entries_left (take l.remaining-index l.initial.remaining_lists));
  taken : map entries_left (take l.remaining-index l.remaining_lists) ≡ map (without_first (name_of l.name)) (map entries_left (take l.remaining-index l.initial.remaining_lists));
  untaken : (k : ℕ) (d : TreeEntriesNonRecursiveIterator) → l.remaining-index ≤ k → k < length l.initial.remaining_lists → get_or l.remaining_lists k d ≡ get_or l.initial.remaining_lists k d;
}
