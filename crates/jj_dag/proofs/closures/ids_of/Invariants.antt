use Rattle.std.proofs.Common.{take}
use Rattle.jj_dag.specs.ClosureGraph.{ReturnsId}
use Rattle.std.specs.List.{AllZip}
use Rattle.jj_dag.proofs.closures.ids_of.Given as goal

abbrev pub invariant-loop-node : goal.invariant-loop-node
invariant-loop-node g l = AllZip (ReturnsId g.F.Fn l.id_fn) (take l.node-index l.nodes) l.ids.items
