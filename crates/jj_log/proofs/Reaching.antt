-- Orders of commits, and lists without repetition.
use Rattle.std.proofs.Common.{◌≡◌, ◌∙◌, ℕ, zero, suc, ◌<◌, List, [], ◌∷◌, ap, length, map, refl}
use Rattle.std.specs.List.{Contains}
use Rattle.jj_dag.specs.ArrayGraphs.{graph_of}
use Rattle.jj_dag.specs.Graph.{IsTopologicalOrder}
use Rattle.jj_log.specs.Numbers.{parents_of}
use Rattle.jj_log.specs.Orders.{IsCommitOrder}
use Rattle.jj_log.specs.declared.commits.NumberedCommit.{NumberedCommit}

-- a topological order from starts that have each commit
pub order_of : (commits : List NumberedCommit) (starts order : List ℕ) → ((n : ℕ) → n < length commits → Contains starts n) → IsTopologicalOrder (parents_of commits) starts order → IsCommitOrder commits order
order_of commits starts order each k = record {
  all = λ n less. (k.all n).1 (n, each n less, (0, refl));
  once = k.once;
  before = k.before;
}

-- the graph of the lists of parents
pub graph_is : (commits : List NumberedCommit) (lists : List (List ℕ)) → lists ≡ map (λ commit. commit.parents.items) commits → graph_of lists ≡ parents_of commits
graph_is commits lists is = ap graph_of is ∙ (λ i n. same commits n i)
  where
    same : (cs : List NumberedCommit) (n : ℕ) → graph_of (map (λ commit. commit.parents.items) cs) n ≡ parents_of cs n
    same [] n = refl
    same (c ∷ cs) zero = refl
    same (c ∷ cs) (suc n) = same cs n
