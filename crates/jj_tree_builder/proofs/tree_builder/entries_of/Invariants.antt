use Rattle.std.proofs.Common.{◌≡◌, ◌++◌, map}
use Rattle.std.specs.BTreeMap.{get}
use Rattle.std.specs.Map.{lookup}
use Rattle.std.specs.Str.{bytes_eq}
use Rattle.jj_paths.specs.Paths.{Name, name_cmp}
use Rattle.jj_backend.specs.Trees.{entry_of, entries_left}
use Rattle.jj_tree_builder.proofs.tree_builder.entries_of.Given as goal

abbrev pub invariant-loop-entry : goal.invariant-loop-entry
invariant-loop-entry l = record {
  found : (name : Name) → get name_cmp l.entries name ≡ lookup (bytes_eq name) (map entry_of l.yielded);
  whole : map entry_of l.yielded ++ entries_left l.entry-iterator ≡ l.tree;
}
