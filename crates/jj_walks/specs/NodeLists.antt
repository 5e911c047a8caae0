-- A list of nodes as the start of a walk.
-- Cited by contracts of public items: list_of_nodes.
use Rattle.std.specs.Prelude.{◌≡◌, List}
use Rattle.jj_dag.specs.ClosureGraph.{Listing}

-- these nodes, none of which fails
abbrev pub list_of_nodes : {T E : Type 0} → List T → Listing T E
list_of_nodes xs = record { finite = Unit {0}; yields = λ ys. ys ≡ xs; fails = λ _. ⊥ }
