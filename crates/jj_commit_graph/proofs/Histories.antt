-- Walks over the numbers of commits: their results are those over the commits, in each history that
-- has these.
use Rattle.std.proofs.Common.{◌≡◌, ◌∙◌, ◌<◌, ℕ, List, [], Option, Some, None, length, get_or, map, ap, subst, sym, arith, true≢false}
use Rattle.std.specs.Prelude.{◌↔◌, All, IfSome, IsSome}
use Rattle.std.specs.List.{Contains}
use Rattle.std.proofs.lemmas.List.{get_or-map}
use Rattle.std.proofs.lemmas.List.Elements.{All-contains, All-from_get_or, Contains-get_or}
use Rattle.jj_dag.specs.ArrayGraphs.{graph_of}
use Rattle.jj_dag.specs.CommonNodes.{AreClosestCommon, HasNoCommonCycle}
use Rattle.jj_dag.specs.Graph.{AreMaximalElements, IsAcyclicFrom}
use Rattle.jj_dag.specs.NodeGraph.{AreMaximalNodes, IsCommonNode}
use Rattle.jj_store_walks.specs.Histories.{Parents}
use Rattle.jj_commit_graph.specs.CommitGraphs.{HasCommits}
use Rattle.jj_commit_graph.specs.Numberings.{AreFallingEdges, IsIndexOf, commits_of, id_at}
use Rattle.jj_dag.proofs.NamedNodes.{closest_named, falling_acyclic, heads_named, reached_within}
use Rattle.jj_commit_graph.proofs.Numberings.{edges_within}

pub at_some : {V : Type 0} (P : V → Type 0) {found : Option V} {value : V} → found ≡ Some value → IfSome found P → P value
at_some P is holds = subst (λ o. IfSome o P) is holds

pub at_none : {V : Type 0} {P : Type 0} {found : Option V} → found ≡ None → IsSome found ↔ P → P → ⊥
at_none is known holds = true≢false (sym (subst (λ o. IsSome o) is (known.1 holds)))

module _ (ids lists : List (List ℕ)) (k : AreFallingEdges ids lists) where
  abbrev pub AreWithin : List ℕ → Type 0
  AreWithin numbers = All (λ number. number < length ids) numbers

  -- ---- results over the numbers

  pub heads_found : (starts given heads : List ℕ) → given ≡ starts → (IsAcyclicFrom (graph_of lists) given → AreMaximalElements (graph_of lists) given heads) → AreMaximalElements (graph_of lists) starts heads
  heads_found starts given heads same found =
      subst (λ l. AreMaximalElements (graph_of lists) l heads) same (found (λ a reached cycle. falling_acyclic (graph_of lists) k.falls a cycle))

  pub closest_found : (set1 set2 given1 given2 closest : List ℕ) → given1 ≡ set1 → given2 ≡ set2
      → (HasNoCommonCycle (graph_of lists) given1 given2 → AreClosestCommon (graph_of lists) given1 given2 closest) → AreClosestCommon (graph_of lists) set1 set2 closest
  closest_found set1 set2 given1 given2 closest same1 same2 found =
      subst (λ l. AreClosestCommon (graph_of lists) set1 l closest) same2
      (subst (λ l. AreClosestCommon (graph_of lists) l given2 closest) same1 (found (λ a common cycle. falling_acyclic (graph_of lists) k.falls a cycle)))

  pub heads_within : (starts heads : List ℕ) → AreWithin starts → AreMaximalElements (graph_of lists) starts heads → AreWithin heads
  heads_within starts heads inside found = All-from_get_or (λ number. number < length ids) heads 0 (λ i below.
      let head = get_or heads i 0 in
      All-contains (λ number. number < length ids) starts head inside ((found.all head).0 (Contains-get_or heads i 0 below)).0)

  pub closest_within : (set1 set2 closest : List ℕ) → AreWithin set1 → AreClosestCommon (graph_of lists) set1 set2 closest → AreWithin closest
  closest_within set1 set2 closest inside found = All-from_get_or (λ number. number < length ids) closest 0 (λ i below.
      let node = get_or closest i 0 in
      reached_within (graph_of lists) (length ids) (edges_within ids lists k) set1 (λ a among. All-contains (λ number. number < length ids) set1 a inside among) node
      ((found.all node).0 (Contains-get_or closest i 0 below)).0.0)

  -- ---- results over the commits

  module _ (find : List ℕ → Option ℕ) (index : IsIndexOf ids find) (parents : Parents) (has : HasCommits (commits_of ids lists) parents) where
    -- the ids of the numbers in a list are the parents of its commit
    row : (a : ℕ) → a < length ids → map (id_at ids) (graph_of lists a) ≡ parents (id_at ids a)
    row a inside =
        sym (get_or-map (map (id_at ids)) lists a [] [] (omega (arith, k.size, inside)))
        ∙ ap (λ rows. get_or rows a []) (sym has)
        ∙ get_or-map parents ids a [] [] inside

    pub heads_shown : (starts heads : List ℕ) (given result : List (List ℕ)) → map (id_at ids) starts ≡ given → result ≡ map (id_at ids) heads → AreWithin starts
        → AreMaximalElements (graph_of lists) starts heads → AreMaximalNodes parents (Contains given) result
    heads_shown starts heads given result named is inside found =
        subst (AreMaximalNodes parents (Contains given)) (sym is)
        (subst (λ l. AreMaximalNodes parents (Contains l) (map (id_at ids) heads)) named
        (heads_named (graph_of lists) parents (id_at ids) (length ids) index.once (edges_within ids lists k) row starts heads (λ a among. All-contains (λ number. number < length ids) starts a inside among) found))

    pub closest_shown : (set1 set2 closest : List ℕ) (given1 given2 result : List (List ℕ)) → map (id_at ids) set1 ≡ given1 → map (id_at ids) set2 ≡ given2 → result ≡ map (id_at ids) closest → AreWithin set1 → AreWithin set2
        → AreClosestCommon (graph_of lists) set1 set2 closest → AreMaximalNodes parents (IsCommonNode parents given1 given2) result
    closest_shown set1 set2 closest given1 given2 result named1 named2 is inside1 inside2 found =
        subst (AreMaximalNodes parents (IsCommonNode parents given1 given2)) (sym is)
        (subst (λ l. AreMaximalNodes parents (IsCommonNode parents given1 l) (map (id_at ids) closest)) named2
        (subst (λ l. AreMaximalNodes parents (IsCommonNode parents l (map (id_at ids) set2)) (map (id_at ids) closest)) named1
        (closest_named (graph_of lists) parents (id_at ids) (length ids) index.once (edges_within ids lists k) row set1 set2 closest
        (λ a among. All-contains (λ number. number < length ids) set1 a inside1 among) (λ a among. All-contains (λ number. number < length ids) set2 a inside2 among) found)))
