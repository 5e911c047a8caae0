use Rattle.std.proofs.Common.{◌++◌, take}
use Rattle.jj_trees.specs.WrittenTrees.{PathValues, chosen_values}
use Rattle.jj_trees.specs.PathTries.{IsTrieOf}
use Rattle.jj_trees.proofs.tree_merge.writing.insert_chosen.Given as goal

abbrev pub invariant-loop-i : goal.invariant-loop-i
invariant-loop-i l = (values : PathValues) → IsTrieOf values l.initial.trie → IsTrieOf (values ++ chosen_values (take l.i l.conflicts) (take l.i l.chosen)) l.trie
