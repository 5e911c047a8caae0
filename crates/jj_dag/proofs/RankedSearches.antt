-- A search for common nodes that expands the pending node of the greatest rank.
use Rattle.std.proofs.Common.{◌≡◌, ◌⊎◌, inl, inr, ⊎_elim, ℕ, ◌<◌, ◌≤◌, ◌&&◌, ◌||◌, Bool, true, false, not, cond, List, [], ◌∷◌, ◌++◌, map, zero, suc, append-nil, refl, sym, ◌∙◌, ap, subst, arith, eqb, true≢false, All}
use Rattle.std.specs.Prelude.{IsTrue, filter}
use Rattle.std.specs.Bool.{MatchBool}
use Rattle.std.specs.List.{Contains}
use Rattle.std.specs.List.Sorted.{IsPermutation}
use Rattle.std.proofs.lemmas.Bool.Decides.{Decides-eqb}
use Rattle.std.proofs.lemmas.List.{map-append}
use Rattle.std.proofs.lemmas.List.Elements.{All-contains, All-map, Contains-append_left, Contains-append_right, Contains-push}
use Rattle.std.proofs.lemmas.List.Sorted.{Contains-permutation, IsPermutation-sym}
use Rattle.jj_dag.specs.CommonNodes.{AreClosestCommon}
use Rattle.jj_dag.specs.CommonSearch.{IsStarting, sides_of_sets}
use Rattle.jj_dag.specs.Frontiers.{AreRanked, HasNoneOpen, HasOpen, ListsOpen, is_open, left_side, model_of_pairs, right_side}
use Rattle.jj_dag.specs.Graph.{Graph, StrictlyReaches}
use Rattle.jj_dag.specs.NodeStates.{RelaxesNodes, adds_side, becomes_pending, new_state, no_longer_pending, propagated, state_with}
use Rattle.jj_dag.specs.NodeStates.RelaxesNodes.{none, more}
use Rattle.jj_dag.specs.Ranks.{AreRanks}
use Rattle.jj_dag.specs.declared.closest_common.NodeState.{NodeState}
use Rattle.jj_dag.specs.declared.closest_common.Sides.{Sides}
use Rattle.jj_dag.proofs.ClosestCommon.{Contains-filtered, Contains-passed, HoldsMarks, asks, distinct_filter, hands_over, is_false, started_holds}
use Rattle.jj_dag.proofs.CommonStates.{HasNoneAbove, IsOneSided, found_maximal, maximal_found, not_grown_left, not_grown_right}
use Rattle.jj_dag.proofs.Heads.{Contains-from_map, Contains-map}
use Rattle.jj_dag.proofs.Plain.{nothing}
use Rattle.jj_dag.proofs.RankedNodes.{strictly_below}
use Rattle.jj_dag.proofs.Relaxing.{all_handed, sets_marked}
use Rattle.jj_dag.proofs.Walking.{Contains-from_has, has, has-from_Contains}

first_or_rest : {A : Type 0} (x : A) (xs : List A) (a : A) → Contains (x ∷ xs) a → (a ≡ x) ⊎ Contains xs a
first_or_rest x xs a (zero, lt, e) = inl (sym e)
first_or_rest x xs a (suc n, lt, e) = inr (n, omega arith, e)

-- ---- lists of open nodes

side_more : (find find2 : ℕ → NodeState) (before after : NodeState) (node : ℕ) (sides side : Sides) (nodes nodes2 : List ℕ) → before ≡ find node → after ≡ state_with before sides
    → ((i : ℕ) → find2 i ≡ cond (eqb node i) (state_with (find node) sides) (find i)) → ((n : ℕ) → Contains nodes n → Contains nodes2 n)
    → (is_open after side ≡ true → (is_open before side ≡ true) ⊎ Contains nodes2 node) → HasOpen find side nodes → HasOpen find2 side nodes2
side_more find find2 before after node sides side nodes nodes2 was now updates kept added lists n is =
    let P : Bool → Type 0 = λ t. eqb node n ≡ t → is_open (cond t (state_with (find node) sides) (find n)) side ≡ true → Contains nodes2 n in
    elim (eqb node n) as P [
      | true ↦ λ e opened.
          let same : node ≡ n = (Decides-eqb node n).0 e in
          let here : is_open after side ≡ true = ap (λ state. is_open state side) (now ∙ ap (λ state. state_with state sides) was) ∙ opened in
          ⊎_elim
          (λ old. kept n (lists n (ap (λ state. is_open state side) (ap find (sym same) ∙ sym was) ∙ old)))
          (λ new. subst (λ x. Contains nodes2 x) same new)
          (added here)
      | false ↦ λ e opened. kept n (lists n opened)
    ] refl (subst (λ state. is_open state side ≡ true) (updates n) is)

pub listed_more : (find find2 : ℕ → NodeState) (before after : NodeState) (node : ℕ) (sides : Sides) (left left2 right right2 : List ℕ) → before ≡ find node → after ≡ state_with before sides
    → ((i : ℕ) → find2 i ≡ cond (eqb node i) (state_with (find node) sides) (find i))
    → ((n : ℕ) → Contains left n → Contains left2 n) → (is_open after left_side ≡ true → (is_open before left_side ≡ true) ⊎ Contains left2 node)
    → ((n : ℕ) → Contains right n → Contains right2 n) → (is_open after right_side ≡ true → (is_open before right_side ≡ true) ⊎ Contains right2 node)
    → ListsOpen find left right → ListsOpen find2 left2 right2
listed_more find find2 before after node sides left left2 right right2 was now updates kept_left added_left kept_right added_right lists = record {
  from_left = side_more find find2 before after node sides left_side left left2 was now updates kept_left added_left lists.from_left;
  from_right = side_more find find2 before after node sides right_side right right2 was now updates kept_right added_right lists.from_right;
}

-- a node that is no longer pending is not open
pub listed_taken : (find find2 : ℕ → NodeState) (node : ℕ) (left right : List ℕ) → ((i : ℕ) → find2 i ≡ cond (eqb node i) (no_longer_pending (find node)) (find i)) → ListsOpen find left right → ListsOpen find2 left right
listed_taken find find2 node left right updates lists = record { from_left = taken left_side left lists.from_left; from_right = taken right_side right lists.from_right }
  where
    closed : (a b : Bool) → ((a && false) && b) ≡ true → ⊥
    closed true b e = true≢false (sym e)
    closed false b e = true≢false (sym e)

    taken : (side : Sides) (nodes : List ℕ) → HasOpen find side nodes → HasOpen find2 side nodes
    taken side nodes all n is =
        let P : Bool → Type 0 = λ t. is_open (cond t (no_longer_pending (find node)) (find n)) side ≡ true → Contains nodes n in
        elim (eqb node n) as P [
          | true ↦ λ opened. absurd (closed _ _ opened)
          | false ↦ λ opened. all n opened
        ] (subst (λ state. is_open state side ≡ true) (updates n) is)

-- ---- nodes with their ranks

pub nodes_of_pairs : (rank : ℕ → ℕ) (xs : List ℕ) → map (λ entry. entry.1) (map {B = ℕ × ℕ} (λ node. (rank node, node)) xs) ≡ xs
nodes_of_pairs rank [] = refl
nodes_of_pairs rank (x ∷ xs) = ap (λ l. x ∷ l) (nodes_of_pairs rank xs)

pairs_ranked : (rank : ℕ → ℕ) (xs : List ℕ) → AreRanked rank (map (λ node. (rank node, node)) xs)
pairs_ranked rank xs entry h =
    let P : ℕ × ℕ → Type 0 = λ e. e.0 ≡ rank e.1 in
    All-contains P (map (λ node. (rank node, node)) xs) entry (All-map P (λ node. (rank node, node)) xs (λ k d less. refl)) h

abbrev IsNode : ℕ × ℕ → ℕ → Type 0
IsNode entry node = node ≡ entry.1

-- pending entries are old ones or those of the list
pub relaxed_ranked : (rank : ℕ → ℕ) {added : Sides} {find : ℕ → NodeState} {pending : List (ℕ × ℕ)} {xs : List (ℕ × ℕ)} {find2 : ℕ → NodeState} {pending2 : List (ℕ × ℕ)} → RelaxesNodes eqb IsNode added find pending xs find2 pending2
    → AreRanked rank pending → AreRanked rank xs → AreRanked rank pending2
relaxed_ranked rank none before all entry h = before entry h
relaxed_ranked rank {added = added} (more {xs = xs} {find2 = find1} {pending2 = pending1} {pending3 = pending2} x i relaxes is node) before all entry h =
    let earlier = relaxed_ranked rank relaxes before (λ e h. all e (Contains-append_left xs (x ∷ []) e h)) in
    let P : Bool → Type 0 = λ t. MatchBool t (IsPermutation (x ∷ pending1) pending2) (pending2 ≡ pending1) → Contains pending2 entry → entry.0 ≡ rank entry.1 in
    elim (becomes_pending (find1 i) added) as P [
      | true ↦ λ moved at.
          ⊎_elim
          (λ first. subst (λ (e : ℕ × ℕ). e.0 ≡ rank e.1) (sym first) (all x (Contains-push xs x)))
          (λ old. earlier entry old)
          (first_or_rest x pending1 entry (Contains-permutation pending2 (x ∷ pending1) entry (IsPermutation-sym (x ∷ pending1) pending2 moved) at))
      | false ↦ λ same at. earlier entry (subst (λ l. Contains l entry) same at)
    ] node.is_pending h

pub all_ranked : (rank : ℕ → ℕ) {added : Sides} {find : ℕ → NodeState} {pending : List (ℕ × ℕ)} (nodes : List ℕ) {find2 : ℕ → NodeState} {pending2 : List (ℕ × ℕ)} → RelaxesNodes eqb IsNode added find pending (map (λ node. (rank node, node)) nodes) find2 pending2
    → AreRanked rank pending → AreRanked rank pending2
all_ranked rank nodes relaxes before = relaxed_ranked rank relaxes before (pairs_ranked rank nodes)

-- ---- descending ranks

-- a set reaches the node, and it is not pending
abbrev IsDone : NodeState → Type 0
IsDone state = ((state.sides.left || state.sides.right) ≡ true) × (state.is_pending ≡ false)

-- no pending node ranks above one that is done
abbrev IsDescending : (ℕ → ℕ) → (ℕ → NodeState) → Type 0
IsDescending rank find = (c w : ℕ) → IsDone (find c) → (find w).is_pending ≡ true → rank w ≤ rank c

-- those done rank at least as high, and those pending at most
record IsSplit (rank : ℕ → ℕ) (r : ℕ) (find : ℕ → NodeState) : Type 0 where
  done : (c : ℕ) → IsDone (find c) → r ≤ rank c
  is_pending : (w : ℕ) → (find w).is_pending ≡ true → rank w ≤ r

split_descends : (rank : ℕ → ℕ) (r : ℕ) (find : ℕ → NodeState) → IsSplit rank r find → IsDescending rank find
split_descends rank r find k c w done waits =
    let high = k.done c done in
    let low = k.is_pending w waits in
    omega (arith, high, low)

both_false : (a b : Bool) → (a || b) ≡ false → (a ≡ false) × (b ≡ false)
both_false true b e = absurd (true≢false e)
both_false false b e = (refl, e)

-- a node with more sides is done only if it was before
was_done : (state : NodeState) (added : Sides) → IsDone (state_with state added) → IsDone state
was_done state added (sided, rests) =
    let parts = both_false state.is_pending (adds_side state.sides added) rests in
    let left = not_grown_left state.sides.left added.left (added.right && not state.sides.right) parts.1 in
    let right = not_grown_right state.sides.right added.right (added.left && not state.sides.left) parts.1 in
    (sym (ap (λ l. l || (state.sides.right || added.right)) left ∙ ap (λ r. state.sides.left || r) right) ∙ sided, parts.0)

split_more : (rank : ℕ → ℕ) (r : ℕ) (find find2 : ℕ → NodeState) (node : ℕ) (added : Sides) → rank node < r → ((q : ℕ) → find2 q ≡ cond (eqb node q) (state_with (find node) added) (find q)) → IsSplit rank r find → IsSplit rank r find2
split_more rank r find find2 node added low updates k = record {
  done = λ c is.
      let P : Bool → Type 0 = λ t. eqb node c ≡ t → IsDone (cond t (state_with (find node) added) (find c)) → r ≤ rank c in
      elim (eqb node c) as P [
        | true ↦ λ e grown. let high = k.done node (was_done (find node) added grown) in absurd (omega (arith, low, high))
        | false ↦ λ e old. k.done c old
      ] refl (subst IsDone (updates c) is);
  is_pending = λ w is.
      let P : Bool → Type 0 = λ t. eqb node w ≡ t → (cond t (state_with (find node) added) (find w)).is_pending ≡ true → rank w ≤ r in
      elim (eqb node w) as P [
        | true ↦ λ e grown. let same = ap rank ((Decides-eqb node w).0 e) in omega (arith, same, low)
        | false ↦ λ e old. k.is_pending w old
      ] refl (subst (λ (state : NodeState). state.is_pending ≡ true) (updates w) is);
}

split_all : (rank : ℕ → ℕ) (r : ℕ) {added : Sides} {find : ℕ → NodeState} {pending : List (ℕ × ℕ)} {xs : List (ℕ × ℕ)} {find2 : ℕ → NodeState} {pending2 : List (ℕ × ℕ)} → RelaxesNodes eqb IsNode added find pending xs find2 pending2
    → ((x : ℕ × ℕ) → Contains xs x → rank x.1 < r) → IsSplit rank r find → IsSplit rank r find2
split_all rank r none low k = k
split_all rank r {added = added} (more {xs = xs} {find2 = find1} {find3 = find2} x i relaxes is node) low k =
    let earlier = split_all rank r relaxes (λ e h. low e (Contains-append_left xs (x ∷ []) e h)) k in
    split_more rank r find1 find2 i added (subst (λ n. rank n < r) (sym is) (low x (Contains-push xs x))) node.states earlier

-- ---- the search

pub record IsSearchingRanked (g : Graph) (rank : ℕ → ℕ) (set1 set2 : List ℕ) (pending : List (ℕ × ℕ)) (common : List ℕ) (find : ℕ → NodeState) : Type 0 where
  pub m : ℕ → Sides
  pub rooted : Bool
  pub entries : List (ℕ × (ℕ × ℕ))
  pub listed : map (λ entry. entry.1.1) entries ≡ common
  pub marks : HoldsMarks (model_of_pairs g) set1 set2 m pending entries rooted find
  pub descending : IsDescending rank find

module _ (g : Graph) (rank : ℕ → ℕ) (ranks : AreRanks g rank) where
  pub searching_start : (set1 set2 : List ℕ) (pending : List (ℕ × ℕ)) (common : List ℕ) (find : ℕ → NodeState) → common ≡ [] → IsStarting (model_of_pairs g) set1 set2 pending find → IsSearchingRanked g rank set1 set2 pending common find
  searching_start set1 set2 pending common find nothing_found start = record {
    m = sides_of_sets set1 set2;
    rooted = false;
    entries = [];
    listed = sym nothing_found;
    marks = started_holds (model_of_pairs g) set1 set2 pending [] find refl start;
    descending = λ c w done waits.
        let here = start.states.knows c refl in
        let sided : (has set1 c || has set2 c) ≡ true = sym (ap (λ (state : NodeState). state.sides.left || state.sides.right) here) ∙ done.0 in
        let rests : has (map (λ entry. entry.1) pending) c ≡ false = sym (ap (λ (state : NodeState). state.is_pending) here) ∙ done.1 in
        absurd (true≢false (sym sided ∙ sym (start.is_pending c) ∙ rests));
  }

  -- the popped node splits the nodes
  split_popped : {set1 set2 : List ℕ} {m : ℕ → Sides} {pending : List (ℕ × ℕ)} {entries : List (ℕ × (ℕ × ℕ))} {rooted : Bool} (find find2 : ℕ → NodeState) (x : ℕ × ℕ) (pending2 : List (ℕ × ℕ))
      → HoldsMarks (model_of_pairs g) set1 set2 m pending entries rooted find → IsDescending rank find → AreRanked rank pending → IsPermutation pending (x ∷ pending2) → All (λ e. e.0 ≤ x.0) pending2
      → ((i : ℕ) → find2 i ≡ cond (eqb x.1 i) (no_longer_pending (find x.1)) (find i)) → IsSplit rank (rank x.1) find2
  split_popped {pending = pending} find find2 x pending2 marks descending ranked popped top updates =
      let numbers = map (λ (entry : ℕ × ℕ). entry.1) pending in
      let at : Contains pending x = Contains-permutation (x ∷ pending2) pending x (IsPermutation-sym pending (x ∷ pending2) popped) (0, omega arith, refl) in
      let waiting : (find x.1).is_pending ≡ true = ap (λ (state : NodeState). state.is_pending) (marks.states.knows x.1 refl) ∙ has-from_Contains numbers x.1 (Contains-map (λ (entry : ℕ × ℕ). entry.1) pending x at) in
      record {
        done = λ c is.
            let P : Bool → Type 0 = λ t. eqb x.1 c ≡ t → IsDone (cond t (no_longer_pending (find x.1)) (find c)) → rank x.1 ≤ rank c in
            elim (eqb x.1 c) as P [
              | true ↦ λ e now. let same = ap rank ((Decides-eqb x.1 c).0 e) in omega (arith, same)
              | false ↦ λ e old. descending c x.1 old waiting
            ] refl (subst IsDone (updates c) is);
        is_pending = λ w is.
            let P : Bool → Type 0 = λ t. (cond t (no_longer_pending (find x.1)) (find w)).is_pending ≡ true → rank w ≤ rank x.1 in
            elim (eqb x.1 w) as P [
              | true ↦ λ now. absurd (true≢false (sym now))
              | false ↦ λ old.
                  let inside : has numbers w ≡ true = sym (ap (λ (state : NodeState). state.is_pending) (marks.states.knows w refl)) ∙ old in
                  let (e, there, same) = Contains-from_map (λ (entry : ℕ × ℕ). entry.1) pending w (Contains-from_has numbers w inside) in
                  let below : e.0 ≤ x.0 = ⊎_elim (λ first. let equal = ap (λ (entry : ℕ × ℕ). entry.0) first in omega (arith, equal)) (λ rest. All-contains (λ (entry : ℕ × ℕ). entry.0 ≤ x.0) pending2 e top rest)
                  (first_or_rest x pending2 e (Contains-permutation pending (x ∷ pending2) e popped there)) in
                  let here = ranked e there in
                  let first = ranked x at in
                  let moved = ap rank same in
                  omega (arith, below, here, first, moved)
            ] (subst (λ (state : NodeState). state.is_pending ≡ true) (updates w) is);
      }

  -- the popped node is pending before
  pub was_pending : {set1 set2 : List ℕ} {pending : List (ℕ × ℕ)} {common : List ℕ} {find : ℕ → NodeState} (x : ℕ × ℕ) (pending2 : List (ℕ × ℕ)) → IsSearchingRanked g rank set1 set2 pending common find → IsPermutation pending (x ∷ pending2)
      → (find x.1).is_pending ≡ true
  was_pending {pending = pending} x pending2 k popped =
      let at : Contains pending x = Contains-permutation (x ∷ pending2) pending x (IsPermutation-sym pending (x ∷ pending2) popped) (0, omega arith, refl) in
      ap (λ (state : NodeState). state.is_pending) (k.marks.states.knows x.1 refl) ∙ has-from_Contains (map (λ (entry : ℕ × ℕ). entry.1) pending) x.1 (Contains-map (λ (entry : ℕ × ℕ). entry.1) pending x at)

  -- entries that are left are ranked
  pub left_ranked : {pending : List (ℕ × ℕ)} (x : ℕ × ℕ) (pending2 : List (ℕ × ℕ)) → AreRanked rank pending → IsPermutation pending (x ∷ pending2) → AreRanked rank pending2
  left_ranked {pending} x pending2 ranked popped e h = ranked e (Contains-permutation (x ∷ pending2) pending e (IsPermutation-sym pending (x ∷ pending2) popped) (Contains-append_right (x ∷ []) pending2 e h))

  -- the popped node is expanded
  pub searching_more : {set1 set2 : List ℕ} {pending : List (ℕ × ℕ)} {common : List ℕ} {find : ℕ → NodeState} (find2 find3 : ℕ → NodeState) (x : ℕ × ℕ) (sides : Sides) (pending2 pending3 : List (ℕ × ℕ)) (common2 : List ℕ)
      → IsSearchingRanked g rank set1 set2 pending common find → AreRanked rank pending → IsPermutation pending (x ∷ pending2) → All (λ e. e.0 ≤ x.0) pending2 → sides ≡ (find x.1).sides
      → (IsTrue (find x.1).is_pending → (i : ℕ) → find2 i ≡ cond (eqb x.1 i) (no_longer_pending (find x.1)) (find i))
      → RelaxesNodes eqb IsNode (propagated sides) find2 pending2 (map (λ node. (rank node, node)) (g x.1)) find3 pending3 → common2 ≡ cond (sides.left && sides.right) (common ++ x.1 ∷ []) common
      → IsSearchingRanked g rank set1 set2 pending3 common2 find3
  searching_more {set1} {set2} {pending} {common} {find} find2 find3 x sides pending2 pending3 common2 k ranked popped top is updates relaxes kept =
      let w = model_of_pairs g in
      let turn = asks w eqb find2 x x.1 sides (λ a h b edge. refl) (λ i j h h'. refl) (λ a h. refl) (λ a h. refl) k.marks popped (λ h. refl) is updates in
      let listed : map (λ (entry : ℕ × ℕ). entry.1) (map (λ node. (rank node, node)) (g x.1)) ≡ g x.1 = nodes_of_pairs rank (g x.1) in
      let inner = all_handed w set1 set2 k.m x.1 sides k.entries k.rooted [] (λ i j h h'. refl) (λ y i h same. same) (λ a h b edge. refl) relaxes refl turn.2 (append-nil _ ∙ listed) in
      let entries2 = cond (sides.left && sides.right) (k.entries ++ (x.1, x) ∷ []) k.entries in
      record {
        m = inner.0;
        rooted = k.rooted || true;
        entries = entries2;
        listed = both_kept (sides.left && sides.right) k.entries common x k.listed ∙ sym kept;
        marks = hands_over w (k.entries ++ (x.1, x) ∷ []) x x.1 true inner.1 refl refl refl (λ b edge. subst (λ l. Contains l b) (sym listed) edge) (λ e. absurd (true≢false e));
        descending = split_descends rank (rank x.1) find3
            (split_all rank (rank x.1) relaxes (λ e h.
            let edge : Contains (g x.1) e.1 = subst (λ l. Contains l e.1) listed (Contains-map (λ (entry : ℕ × ℕ). entry.1) (map (λ node. (rank node, node)) (g x.1)) e h) in
            ranks x.1 e.1 edge)
            (split_popped find find2 x pending2 k.marks k.descending ranked popped top (updates (was_pending x pending2 k popped))));
      }
    where
      both_kept : (t : Bool) (entries : List (ℕ × (ℕ × ℕ))) (found : List ℕ) (y : ℕ × ℕ) → map (λ entry. entry.1.1) entries ≡ found → map (λ (entry : ℕ × (ℕ × ℕ)). entry.1.1) (cond t (entries ++ (y.1, y) ∷ []) entries) ≡ cond t (found ++ y.1 ∷ []) found
      both_kept true entries found y e = map-append (λ (entry : ℕ × (ℕ × ℕ)). entry.1.1) entries ((y.1, y) ∷ []) ∙ ap (λ l. l ++ y.1 ∷ []) e
      both_kept false entries found y e = e

  -- ---- the end

  closed_below : (reached waits below : Bool) → ((reached && waits) && not below) ≡ false → reached ≡ true → waits ≡ true → below ≡ true
  closed_below reached waits true e r v = refl
  closed_below true true false e r v = absurd (true≢false e)
  closed_below true false false e r v = absurd (true≢false (sym v))
  closed_below false waits false e r v = absurd (true≢false (sym r))

  one_sided : {set1 set2 : List ℕ} {m : ℕ → Sides} {pending : List (ℕ × ℕ)} {entries : List (ℕ × (ℕ × ℕ))} {rooted : Bool} {find : ℕ → NodeState} → HoldsMarks (model_of_pairs g) set1 set2 m pending entries rooted find
      → HasNoneOpen find left_side ⊎ (HasNoneOpen find right_side ⊎ (pending ≡ [])) → IsOneSided g set1 set2 m (map (λ entry. entry.1) pending)
  one_sided {m = m} {pending = pending} {find = find} marks stop =
      let numbers = map (λ (entry : ℕ × ℕ). entry.1) pending in
      let state : (w : ℕ) → Contains numbers w → find w ≡ record { sides = m w; is_pending = true } = λ w h. marks.states.knows w refl ∙ ap (λ t. record { sides = m w; is_pending = t }) (has-from_Contains numbers w h) in
      ⊎_elim
      (λ none_left. inl (λ w h is. closed_below ((m w).left || false) true (m w).below (sym (ap (λ s. is_open s left_side) (state w h)) ∙ none_left w) (ap (λ t. t || false) is) refl))
      (λ rest. ⊎_elim
      (λ none_right. inr (λ w h is. closed_below (m w).right true (m w).below (sym (ap (λ s. is_open s right_side) (state w h)) ∙ none_right w) is refl))
      (λ empty. inl (λ w h is. absurd (nothing w (subst (λ l. Contains (map (λ (entry : ℕ × ℕ). entry.1) l) w) empty h))))
      rest)
      stop

  pub searched_ranked : {set1 set2 : List ℕ} {pending : List (ℕ × ℕ)} {common : List ℕ} {find : ℕ → NodeState} → IsSearchingRanked g rank set1 set2 pending common find
      → HasNoneOpen find left_side ⊎ (HasNoneOpen find right_side ⊎ (pending ≡ [])) → AreClosestCommon g set1 set2 (filter (λ node. not (find node).sides.below) common)
  searched_ranked {set1} {set2} {pending} {common} {find} k stop =
      let numbers = map (λ (entry : ℕ × ℕ). entry.1) pending in
      let passes : ℕ → Bool = λ node. not (find node).sides.below in
      let same : (a : ℕ) → (find a).sides.below ≡ (k.m a).below = λ a. ap (λ (state : NodeState). state.sides.below) (k.marks.states.knows a refl) in
      let above : HasNoneAbove g set1 set2 k.m numbers = λ a w sided closed open_now way.
      let rests : (find a).is_pending ≡ false = ap (λ (state : NodeState). state.is_pending) (k.marks.states.knows a refl) ∙ not_in numbers a closed in
      let waits : (find w).is_pending ≡ true = ap (λ (state : NodeState). state.is_pending) (k.marks.states.knows w refl) ∙ has-from_Contains numbers w open_now in
      let marked : ((find a).sides.left || (find a).sides.right) ≡ true = ap (λ (state : NodeState). state.sides.left || state.sides.right) (k.marks.states.knows a refl) ∙ either (k.m a).left (k.m a).right sided in
      let low = k.descending a w (marked, rests) waits in
      let high = strictly_below g rank ranks w a way in
      absurd (omega (arith, low, high)) in
      let acyclic : (a : ℕ) → StrictlyReaches g a a → ⊥ = λ a way. let high = strictly_below g rank ranks a a way in absurd (omega (arith, high)) in
      let found : map (λ (entry : ℕ × (ℕ × ℕ)). entry.1.1) k.entries ≡ common = k.listed in
      subst (λ l. AreClosestCommon g set1 set2 (filter passes l)) found (record {
        all = λ a. (
          (λ h. let r = Contains-filtered passes _ a h in found_maximal g set1 set2 k.marks.marking above a r.0 (sym (same a) ∙ is_false (find a).sides.below r.1)),
          (λ h.
              let r = maximal_found g set1 set2 k.marks.marking above (one_sided k.marks stop) acyclic a h in
              Contains-passed passes _ a r.0 (ap not (same a ∙ r.1))),
        );
        once = distinct_filter passes _ k.marks.marking.once;
      })
    where
      not_in : (xs : List ℕ) (a : ℕ) → (Contains xs a → ⊥) → has xs a ≡ false
      not_in xs a lacks =
          let P : Bool → Type 0 = λ t. has xs a ≡ t → t ≡ false in
          elim (has xs a) as P [ true ↦ λ e. absurd (lacks (Contains-from_has xs a e)) | false ↦ λ e. refl ] refl

      either : (l r : Bool) → (l ≡ true) ⊎ (r ≡ true) → (l || r) ≡ true
      either true r h = refl
      either false r h = ⊎_elim (λ e. absurd (true≢false (sym e))) (λ e. e) h

-- the states of both sets, from which the search starts
pub searching_sets : (g : Graph) (rank : ℕ → ℕ) (set1 set2 : List ℕ) {find find1 find2 : ℕ → NodeState} {pending pending1 pending2 : List (ℕ × ℕ)} → pending ≡ [] → ((i : ℕ) → find i ≡ new_state)
    → RelaxesNodes eqb IsNode left_side find pending (map (λ node. (rank node, node)) set1) find1 pending1 → RelaxesNodes eqb IsNode right_side find1 pending1 (map (λ node. (rank node, node)) set2) find2 pending2
    → IsStarting (model_of_pairs g) set1 set2 pending2 find2
searching_sets g rank set1 set2 {find2 = find2} {pending2 = pending2} nobody unknown left right =
    subst (λ l. IsStarting (model_of_pairs g) l set2 pending2 find2) (nodes_of_pairs rank set1)
    (subst (λ l. IsStarting (model_of_pairs g) (map (λ (entry : ℕ × ℕ). entry.1) (map (λ node. (rank node, node)) set1)) l pending2 find2) (nodes_of_pairs rank set2)
    (sets_marked (model_of_pairs g) (λ i j h h'. refl) (λ x i h same. same) nobody unknown left right (λ a h. refl) (λ a h. refl)))
