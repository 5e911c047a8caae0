use Rattle.jj_trees.specs.WrittenTrees.{values_to_write}
use Rattle.jj_paths.specs.Names.{path_of}
use Rattle.jj_trees.proofs.NodeWrites.{of_trie}
use Rattle.jj_trees.proofs.TrieValues.{tree_ok, write_errors}
use Rattle.jj_trees.proofs.tree_merge.writing.write_back.Goals as goal

pub returns-clause-tree : goal.returns-clause-tree
returns-clause-tree g c =
    tree_ok (values_to_write c.args.merge.now.resolved.items c.args.merge.now.conflicts.items c.args.chosen.now) c.in_ok-trie.trie (g.B.Backend.objects c.write_directory.new.backend).trees c.write_directory.result
    c.in_ok-trie.ensures.trie c.write_directory.ensures.stored

pub returns-clause-error : goal.returns-clause-error
returns-clause-error g c =
    write_errors g.B.Backend.objects g.B.Backend.may_fail_to_write c.args.backend.now
    (values_to_write c.args.merge.now.resolved.items c.args.merge.now.conflicts.items c.args.chosen.now) c.in_ok-trie.trie c.write_directory.result
    c.in_ok-trie.ensures.trie c.write_directory.ensures.error

pub returns-clause-writes : goal.returns-clause-writes
returns-clause-writes g c =
    of_trie (values_to_write c.args.merge.now.resolved.items c.args.merge.now.conflicts.items c.args.chosen.now) c.in_ok-trie.trie c.in_ok-trie.ensures.trie g.B.Backend.may_write
    (g.B.Backend.objects c.write_directory.new.backend).trees (path_of c.root.result) c.args.backend.now c.write_directory.new.backend c.write_directory.result c.root.ensures c.write_directory.ensures.stored c.write_directory.ensures.writes
