-- The commits before this index are numbered.
use Rattle.std.proofs.Common.{◌≡◌, [], map, take}
use Rattle.jj_dag.specs.PackedLists.{lists_of, open_list_of}
use Rattle.jj_store_walks.specs.ReadCommits.{id_of}
use Rattle.jj_commit_graph.specs.Numberings.{AreFallingEdges, IsNumbering, named_lists, parents_of}
use Rattle.jj_commit_graph.proofs.commit_graph.CommitGraph.from_commits.Given as goal

abbrev pub invariant-loop-commit : goal.invariant-loop-commit
invariant-loop-commit l = record {
  numbering : IsNumbering l.numbering;
  edges : AreFallingEdges l.numbering.ids.items (lists_of l.lists);
  open_list : open_list_of l.lists ≡ [];
  ids : l.numbering.ids.items ≡ map id_of (take l.commit-index l.commits);
  parents : named_lists l.numbering.ids.items (lists_of l.lists) ≡ map parents_of (take l.commit-index l.commits);
}
