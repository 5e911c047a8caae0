-- A graph of numbered ids: results of walks over the numbers are results over the ids.
use Rattle.std.proofs.Common.{◌≡◌, ◌∙◌, ◌<◌, ℕ, List, [], length, get_or, map, ap, sym, subst, arith, ⊎_elim}
use Rattle.std.specs.Prelude.{All}
use Rattle.std.specs.List.{Contains}
use Rattle.std.specs.List.Sorted.{IsStrictlyIncreasing}
use Rattle.std.proofs.lemmas.Bool.{cases_lt}
use Rattle.std.proofs.lemmas.Grind.{get_or_default_zero}
use Rattle.std.proofs.lemmas.List.{get_or-map, get_or_past, length-map}
use Rattle.std.proofs.lemmas.List.Elements.{Contains-get_or}
use Rattle.jj_dag.specs.CommonNodes.{AreClosestCommon}
use Rattle.jj_dag.specs.Graph.{Graph, AreMaximalElements, IsGreatestTopologicalOrder}
use Rattle.jj_dag.proofs.NamedNodes.{reached_within}
use Rattle.jj_dag.proofs.Relabelled.{Contains-map}
use Rattle.jj_program.specs.declared.listed_graph.ListedGraph.{ListedGraph}
use Rattle.jj_program.specs.GraphCommand.{HasCycle}
use Rattle.jj_program.specs.ListedGraphs.{Represents, named_by, numbered_by}
use Rattle.jj_program.specs.Parts.{AreWithin, id_of}
use Rattle.jj_program.proofs.NumberedWalks.{id_rises, id_within, numbers_within, within_ids}
use Rattle.jj_program.proofs.RenamedGraphs as renamed

-- the list of the number of an id has the numbers of its neighbors
row : (ids : List ℕ) (lists : List (List ℕ)) (shown : Graph) → map (map (id_of ids)) lists ≡ map shown ids → (number : ℕ) → number < length ids
    → map (id_of ids) (get_or lists number []) ≡ shown (id_of ids number)
row ids lists shown same number within =
    let sizes : length lists ≡ length ids = sym (length-map lists (map (id_of ids))) ∙ ap length same ∙ length-map ids shown in
    sym (get_or-map (map (id_of ids)) lists number [] [] (omega (arith, sizes, within)))
    ∙ ap (λ rows. get_or rows number []) same
    ∙ get_or-map shown ids number 0 [] within
    ∙ ap shown (sym (id_within ids number within))

-- edges are between numbers, if all neighbors are numbered
pub lists_within : (ids : List ℕ) (lists : List (List ℕ)) (shown : Graph) → map (map (id_of ids)) lists ≡ map shown ids
    → ((a b : ℕ) → Contains (shown a) b → Contains ids b) → AreWithin ids lists
lists_within ids lists shown same named a b among =
    let sizes : length lists ≡ length ids = sym (length-map lists (map (id_of ids))) ∙ ap length same ∙ length-map ids shown in
    ⊎_elim
    (λ inside.
    let below : a < length ids = omega (arith, sizes, inside) in
    (below, within_ids ids b (named (id_of ids a) (id_of ids b) (subst (λ l. Contains l (id_of ids b)) (row ids lists shown same a below) (Contains-map (id_of ids) (get_or lists a []) b among)))))
    (λ outside. absurd (in_none b (subst (λ l. Contains l b) (get_or_past lists a [] outside) among)))
    (cases_lt a (length lists))
  where
    in_none : (x : ℕ) → Contains [] x → ⊥
    in_none x (k, below, at) = absurd (omega arith)

module _ (listed : ListedGraph) where
  abbrev ids : List ℕ
  ids = named_by listed

  abbrev name : ℕ → ℕ
  name = id_of ids

  rises : (i j : ℕ) → i < j → name i < name j
  rises = id_rises ids listed.numbering.ascending

  -- results of walks are numbers
  pub order_within : (starts order given : List ℕ) → map name starts ≡ given → All (Contains ids) given → IsGreatestTopologicalOrder (numbered_by listed) starts order
      → All (λ number. number < length ids) order
  order_within starts order given same named best k d within =
      reached_within (numbered_by listed) (length ids) listed.within starts (numbers_within ids starts given same named) (get_or order k d)
      ((best.child_first.all (get_or order k d)).0 (Contains-get_or order k d within))

  pub heads_within : (starts heads given : List ℕ) → map name starts ≡ given → All (Contains ids) given → AreMaximalElements (numbered_by listed) starts heads
      → All (λ number. number < length ids) heads
  heads_within starts heads given same named found k d within =
      numbers_within ids starts given same named (get_or heads k d) ((found.all (get_or heads k d)).0 (Contains-get_or heads k d within)).0

  pub common_within : (set1 set2 common given : List ℕ) → map name set1 ≡ given → All (Contains ids) given → AreClosestCommon (numbered_by listed) set1 set2 common
      → All (λ number. number < length ids) common
  common_within set1 set2 common given same named found k d within =
      reached_within (numbered_by listed) (length ids) listed.within set1 (numbers_within ids set1 given same named) (get_or common k d)
      ((found.all (get_or common k d)).0 (Contains-get_or common k d within)).0.0

  -- their ids ascend
  pub ids_ascend : (numbers : List ℕ) → IsStrictlyIncreasing numbers → IsStrictlyIncreasing (map name numbers)
  ids_ascend = renamed.ascending_named name rises

  module _ (shown : Graph) (is : Represents listed shown) where
    rows : (a : ℕ) → a < length ids → map name (numbered_by listed a) ≡ shown (name a)
    rows = row ids listed.graph shown is.lists

    pub cycle_shown : HasCycle (numbered_by listed) → HasCycle shown
    cycle_shown = renamed.cycle_named (numbered_by listed) shown name (length ids) rises listed.within rows

    pub cycle_numbered : HasCycle shown → HasCycle (numbered_by listed)
    cycle_numbered = renamed.cycle_unnamed (numbered_by listed) shown name (length ids) rises listed.within rows (λ c d edge.
        let (number, inside, at) = is.named c d edge in
        (number, inside, id_within ids number inside ∙ sym (get_or_default_zero ids number d inside) ∙ at))

    pub order_shown : (starts order given : List ℕ) → map name starts ≡ given → All (Contains ids) given → IsGreatestTopologicalOrder (numbered_by listed) starts order
        → IsGreatestTopologicalOrder shown given (map name order)
    order_shown starts order given same named best =
        subst (λ (l : List ℕ). IsGreatestTopologicalOrder shown l (map name order)) same
        (renamed.greatest_named (numbered_by listed) shown name (length ids) rises listed.within rows starts (numbers_within ids starts given same named) order best)

    pub heads_shown : (starts heads given : List ℕ) → map name starts ≡ given → All (Contains ids) given → AreMaximalElements (numbered_by listed) starts heads
        → AreMaximalElements shown given (map name heads)
    heads_shown starts heads given same named found =
        subst (λ (l : List ℕ). AreMaximalElements shown l (map name heads)) same
        (renamed.heads_named (numbered_by listed) shown name (length ids) rises listed.within rows starts heads (numbers_within ids starts given same named) found)

    pub common_shown : (set1 set2 common given1 given2 : List ℕ) → map name set1 ≡ given1 → map name set2 ≡ given2 → All (Contains ids) given1 → All (Contains ids) given2
        → AreClosestCommon (numbered_by listed) set1 set2 common → AreClosestCommon shown given1 given2 (map name common)
    common_shown set1 set2 common given1 given2 same1 same2 named1 named2 found =
        subst (λ (l : List ℕ). AreClosestCommon shown l given2 (map name common)) same1
        (subst (λ (l : List ℕ). AreClosestCommon shown (map name set1) l (map name common)) same2
        (renamed.closest_named (numbered_by listed) shown name (length ids) rises listed.within rows set1 set2 common
        (numbers_within ids set1 given1 same1 named1) (numbers_within ids set2 given2 same2 named2) found))
