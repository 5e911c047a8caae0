use Rattle.jj_dag.proofs.array_graph.ArrayGraph.all_neighbors.Goals as goal

pub returns : goal.returns
returns c = rw (← c.self.view_is) (λ node neighbor h. c.numbers.ensures node neighbor h)
