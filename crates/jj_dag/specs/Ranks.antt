-- Ranks of the nodes of acyclic graphs.
-- Machinery of private functions and fields.
use Rattle.std.specs.Prelude.{ℕ, ◌-◌, ◌^◌, ◌<◌, get_or}
use Rattle.jj_dag.specs.Graph.{Graph, HasEdge}
use Rattle.jj_dag.specs.declared.ranks.Ranks.{Ranks}
use Rattle.jj_dag.specs.declared.ranks.Ranks.TheVariants.{Ascending, Descending, Listed}

-- the rank of a node
abbrev pub rank_in : Ranks → ℕ → ℕ
rank_in Ascending node = node
rank_in Descending node = 2 ^ 64 - 1 - node
rank_in (Listed ranks) node = get_or ranks.items node 0

-- each node ranks above its neighbors
abbrev pub AreRanks : Graph → (ℕ → ℕ) → Type 0
AreRanks g rank = (a b : ℕ) → HasEdge g a b → rank b < rank a
