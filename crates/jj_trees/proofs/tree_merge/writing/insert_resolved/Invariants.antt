use Rattle.std.proofs.Common.{◌++◌, take}
use Rattle.jj_trees.specs.WrittenTrees.{PathValues}
use Rattle.jj_trees.specs.PathTries.{IsTrieOf}
use Rattle.jj_trees.proofs.tree_merge.writing.insert_resolved.Given as goal

abbrev pub invariant-loop-path : goal.invariant-loop-path
invariant-loop-path l = (values : PathValues) → IsTrieOf values l.initial.trie → IsTrieOf (values ++ take l.path-index l.resolved) l.trie
