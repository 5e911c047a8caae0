use Rattle.std.proofs.Common.{◌≡◌, ◌<◌, true, length, subst, arith}
use Rattle.std.specs.FinMap.{is_sorted}
use Rattle.std.proofs.lemmas.List.Elements.{All-more}
use Rattle.jj_paths.specs.Paths.{name_cmp}
use Rattle.jj_backend.specs.Trees.{entries_left}
use Rattle.jj_trees.proofs.PassedNames.{iterators_more}
use Rattle.jj_trees.proofs.tree_merge.rows.entry_iterators.Goals as goal

pub loop-tree-preserved : goal.loop-tree-preserved
loop-tree-preserved c =
    let within : c.loop-tree.tree-index < length c.args.trees.now = omega arith in
    record {
      entries = iterators_more entries_left c.args.trees.now c.loop-tree.tree-index c.tree-item.result within c.tree-item.is c.loop-tree.remaining_lists.items c.push.new.self.items
          c.entries.result c.loop-tree.invariant.entries c.entries.ensures.entries c.in_ok-push.ensures.items;
      ascending = All-more (λ tree. is_sorted name_cmp tree ≡ true) c.args.trees.now c.loop-tree.tree-index c.tree-item.result within c.loop-tree.invariant.ascending
          (subst (λ tree. is_sorted name_cmp tree ≡ true) c.tree-item.is c.entries.ensures.ascending);
    }
