use Rattle.jj_tree_builder.proofs.EntryMaps.{written_tree}
use Rattle.jj_tree_builder.proofs.tree_builder.write_list.Goals as goal

pub returns-in-Ok-clause-tree : goal.returns-in-Ok-clause-tree
returns-in-Ok-clause-tree g c = written_tree (g.B.Backend.objects c.args.backend.now) (g.B.Backend.objects c.write_tree.new.self) c.args.entries.items c.in-Ok.tree c.write_tree.result c.write_tree.ensures.ok c.in-Ok.ensures.values
