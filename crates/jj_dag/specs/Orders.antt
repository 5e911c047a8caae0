-- Postorders over acyclic graphs.
-- Cited by contracts of public items: IsWholePostorder.
use Rattle.std.specs.Prelude.{ℕ, List}
use Rattle.jj_dag.specs.Graph.{Graph, IsAcyclicFrom, IsPostorder}

-- the list is the postorder from the starts, which reach no cycle
pub record IsWholePostorder (g : Graph) (starts order : List ℕ) : Type 0 where
  pub postorder : IsPostorder g starts order
  pub no_cycle : IsAcyclicFrom g starts
