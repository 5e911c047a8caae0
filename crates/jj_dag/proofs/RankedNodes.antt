-- Ranks of nodes: by their numbers, or by the positions in a postorder.
use Rattle.std.proofs.Common.{◌≡◌, ℕ, zero, suc, ◌+◌, ◌<◌, ◌≤◌, ◌⊎◌, inl, inr, ⊎_elim, List, [], ◌∷◌, length, length-append, get_or, set, reverse, refl, sym, ◌∙◌, ap, subst, arith, eqb, All, Bool, true, false, true≢false, not, Option, None, Some}
use Rattle.std.specs.Option.{is_some}
use Rattle.std.specs.Prelude.{MatchBool, MatchOption}
use Rattle.std.proofs.lemmas.Bool.{cases_eq}
use Rattle.std.proofs.lemmas.Bool.Decides.{Decides-eqb}
use Rattle.std.proofs.lemmas.List.{get_or-append-add, get_or_at, get_or_default, get_or_past, get_or-set_other, get_or-set_same}
use Rattle.std.proofs.lemmas.List.Elements.{All-contains}
use Rattle.std.proofs.lemmas.Map.Keys.{apart_from_distinct}
use Rattle.std.specs.List.{Contains, IsDistinct}
use Rattle.jj_dag.specs.ArrayGraphs.{HasCycle, graph_of}
use Rattle.jj_dag.specs.Graph.{Graph, HasEdge, IsWalkOfLength, StrictlyReaches}
use Rattle.jj_dag.specs.Orders.{IsWholePostorder}
use Rattle.jj_dag.specs.Ranks.{AreRanks, rank_in}
use Rattle.jj_dag.specs.declared.ranks.Ranks.{Ranks}
use Rattle.jj_dag.proofs.Postorders.{Postorder-before, Postorder-once, from_reverse}
use Rattle.jj_dag.proofs.Reaching.{Contains-postorder}

-- a node ranks above all that it strictly reaches
pub ranks_above : (g : Graph) (rank : ℕ → ℕ) → AreRanks g rank → (n a b : ℕ) → IsWalkOfLength g a b (suc n) → rank b < rank a
ranks_above g rank ranks zero a b (c, edge, same) = subst (λ x. rank x < rank a) same (ranks a c edge)
ranks_above g rank ranks (suc n) a b (c, edge, way) =
    let first = ranks a c edge in
    let rest = ranks_above g rank ranks n c b way in
    omega (arith, first, rest)

pub strictly_below : (g : Graph) (rank : ℕ → ℕ) → AreRanks g rank → (a b : ℕ) → StrictlyReaches g a b → rank b < rank a
strictly_below g rank ranks a b (n, way) = ranks_above g rank ranks n a b way

-- so there is no cycle
pub ranked_acyclic : (g : Graph) (rank : ℕ → ℕ) → AreRanks g rank → HasCycle g → ⊥
ranked_acyclic g rank ranks (a, way) = let below = strictly_below g rank ranks a a way in absurd (omega (arith, below))

-- a node with a neighbor has a list
pub has_list : (lists : List (List ℕ)) (a b : ℕ) → HasEdge (graph_of lists) a b → a < length lists
has_list [] a b (k, lt, e) = absurd (omega arith)
has_list (list ∷ lists) zero b edge = omega arith
has_list (list ∷ lists) (suc a) b edge = let rest = has_list lists a b edge in omega (arith, rest)

-- all neighbors of one node more
pub neighbors_more : (g : Graph) (IsRanked : ℕ → ℕ → Type 0) (node : ℕ) (neighbors : List ℕ) → neighbors ≡ g node → ((a b : ℕ) → a < node → HasEdge g a b → IsRanked a b) → All (IsRanked node) neighbors
    → (a b : ℕ) → a < node + 1 → HasEdge g a b → IsRanked a b
neighbors_more g IsRanked node neighbors listed before now a b less edge =
    ⊎_elim
    (λ same.
    let here : Contains neighbors b = subst (λ l. Contains l b) (sym listed) (subst (λ n. HasEdge g n b) same edge) in
    subst (λ n. IsRanked n b) (sym same) (All-contains (IsRanked node) neighbors b now here))
    (λ other. before a b (omega (arith, less, other)) edge)
    (cases_eq a node)

-- ---- positions

other_number : (list : List ℕ) (k index : ℕ) → IsDistinct eqb list → k < index → index < length list → get_or list k 0 ≡ get_or list index 0 → ⊥
other_number list k index once less within same =
    true≢false (sym ((Decides-eqb (get_or list k 0) (get_or list index 0)).1 same) ∙ apart_from_distinct eqb list k index 0 once less within)

abbrev ArePositions : (list positions : List ℕ) (index count : ℕ) → Type 0
ArePositions list positions index count = (k : ℕ) → k < index → get_or list k 0 < count → get_or positions (get_or list k 0) 0 ≡ k + 1

-- the position of one number more
pub position_more : (list positions positions2 : List ℕ) (index count : ℕ) → IsDistinct eqb list → index < length list → length positions ≡ count → get_or list index 0 < count
    → positions2 ≡ set positions (get_or list index 0) (index + 1) → ArePositions list positions index count → ArePositions list positions2 (index + 1) count
position_more list positions positions2 index count once within long small put before k less below =
    let number = get_or list index 0 in
    let room : number < length positions = omega (arith, long, small) in
    ap (λ l. get_or l (get_or list k 0) 0) put
    ∙ ⊎_elim
    (λ same. ap (λ n. get_or (set positions number (index + 1)) (get_or list n 0) 0) same ∙ get_or-set_same positions number (index + 1) 0 room ∙ ap (λ n. n + 1) (sym same))
    (λ other.
    let earlier : k < index = omega (arith, less, other) in
    get_or-set_other positions number (get_or list k 0) (index + 1) 0 (other_number list k index once earlier within) ∙ before k earlier below)
    (cases_eq k index)

-- a number that has no position
pub position_none : (list positions positions2 : List ℕ) (index count : ℕ) → count ≤ get_or list index 0 → positions2 ≡ positions → ArePositions list positions index count → ArePositions list positions2 (index + 1) count
position_none list positions positions2 index count large kept before k less below =
    ap (λ l. get_or l (get_or list k 0) 0) kept
    ∙ ⊎_elim
    (λ same. absurd (let number = ap (λ n. get_or list n 0) same in omega (arith, number, below, large)))
    (λ other. before k (omega (arith, less, other)) below)
    (cases_eq k index)

-- a postorder has each node once
pub distinct_postorder : (g : Graph) (starts order : List ℕ) → IsWholePostorder g starts order → IsDistinct eqb order
unfolding IsDistinct
distinct_postorder g starts order whole = Postorder-once g (reverse starts) [] order (λ a (s, at, way). whole.no_cycle a (s, from_reverse starts s at, way)) whole.postorder tt

-- each node is after its neighbors in a postorder of all, so it ranks above them by its position
pub positions_rank : (lists : List (List ℕ)) (starts order positions : List ℕ) → IsWholePostorder (graph_of lists) starts order → ((k : ℕ) → k < length lists → Contains starts k)
    → length positions ≡ length lists → ArePositions order positions (length order) (length lists) → AreRanks (graph_of lists) (λ node. get_or positions node 0)
positions_rank lists starts order positions whole all long placed a b edge =
    let g = graph_of lists in
    let listed : a < length lists = has_list lists a b edge in
    let at : Contains order a = Contains-postorder g starts order whole.postorder a (a, all a listed, (0, refl)) in
    let (prefix, suffix, split, later) = Postorder-before g starts order whole.postorder a b at edge in
    let (j, within, is) = later in
    let len : length order ≡ length prefix + suc (length suffix) = ap length split ∙ length-append prefix (b ∷ suffix) in
    let first : get_or order (length prefix) 0 ≡ b = ap (λ l. get_or l (length prefix) 0) split ∙ get_or_at prefix b suffix 0 (length prefix) refl in
    let second : get_or order (length prefix + suc j) 0 ≡ a = ap (λ l. get_or l (length prefix + suc j) 0) split ∙ get_or-append-add prefix (b ∷ suffix) (suc j) 0 ∙ get_or_default suffix j 0 a within ∙ is in
    let above : get_or positions a 0 ≡ length prefix + suc j + 1 = ap (λ n. get_or positions n 0) (sym second) ∙ placed (length prefix + suc j) (omega (arith, len, within)) (omega (arith, second, listed)) in
    ⊎_elim
    (λ small.
    let here : get_or positions b 0 ≡ length prefix + 1 = ap (λ n. get_or positions n 0) (sym first) ∙ placed (length prefix) (omega (arith, len)) (omega (arith, first, small)) in
    omega (arith, above, here))
    (λ large. let none : get_or positions b 0 ≡ 0 = get_or_past positions b 0 (omega (arith, long, large)) in omega (arith, above, none))
    (less_or_not b (length lists))
  where
    less_or_not : (x y : ℕ) → (x < y) ⊎ (y ≤ x)
    less_or_not zero zero = inr (omega arith)
    less_or_not zero (suc y) = inl (omega arith)
    less_or_not (suc x) zero = inr (omega arith)
    less_or_not (suc x) (suc y) = ⊎_elim (λ l. inl (omega (arith, l))) (λ r. inr (omega (arith, r))) (less_or_not x y)

-- a graph is ranked, or has a cycle
abbrev pub IsRankedOrCyclic : List (List ℕ) → Option Ranks → Type 0
IsRankedOrCyclic lists ranks = MatchOption ranks (HasCycle (graph_of lists)) (λ r. AreRanks (graph_of lists) (rank_in r))

pub cyclic_or_ranked : (lists : List (List ℕ)) (ranks : Option Ranks) (cyclic : Bool) → is_some ranks ≡ not cyclic → IsRankedOrCyclic lists ranks → MatchBool cyclic (HasCycle (graph_of lists)) (HasCycle (graph_of lists) → ⊥)
cyclic_or_ranked lists None true is k = k
cyclic_or_ranked lists None false is k = absurd (true≢false (sym is))
cyclic_or_ranked lists (Some ranks) true is k = absurd (true≢false is)
cyclic_or_ranked lists (Some ranks) false is k = ranked_acyclic (graph_of lists) (rank_in ranks) k

pub some_ranked : (lists : List (List ℕ)) (option : Option Ranks) (ranks : Ranks) → option ≡ Some ranks → IsRankedOrCyclic lists option → AreRanks (graph_of lists) (rank_in ranks)
some_ranked lists option ranks is k = subst (IsRankedOrCyclic lists) is k
