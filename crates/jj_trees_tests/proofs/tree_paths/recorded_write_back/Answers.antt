use Rattle.jj_trees.specs.MemoryObjects.{objects_of}
use Rattle.jj_trees.specs.WrittenTrees.{values_to_write}
use Rattle.jj_trees_tests.proofs.RecordedRuns.{recorded_ok}
use Rattle.jj_trees_tests.proofs.tree_paths.recorded_write_back.Goals as goal

pub returns : goal.returns
returns c =
    recorded_ok (λ b. b.written.items) _ (λ old new path object r h. h) (objects_of c.write_back.new.backend.inner).trees
    (values_to_write c.args.merge.now.resolved.items c.args.merge.now.conflicts.items c.args.chosen.now) c.args.backend.now c.write_back.new.backend c.write_back.result c.write_back.ensures.writes
