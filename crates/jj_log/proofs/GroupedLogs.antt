-- A grouped order of the nodes of a log is a log with branches together.
use Rattle.std.proofs.Common.{◌≡◌, ◌⊎◌, inl, inr, ◌∙◌, ℕ, zero, suc, ◌<◌, ◌==◌, Bool, true, false, true≢false, not, ◌&&◌, ◌||◌, None, List, [], ◌∷◌, ◌++◌, map, reverse, refl, sym, ap, subst, arith, eqb, ⊎_elim, append-nil, append_assoc}
use Rattle.std.specs.List.{Contains, IsDistinct, find, list_any}
use Rattle.std.specs.Prelude.{MatchOption, ⊤}
use Rattle.std.proofs.lemmas.Bool.{or_cases, or_left, or_right}
use Rattle.std.proofs.lemmas.Bool.Decides.{Decides-eqb}
use Rattle.std.proofs.lemmas.List.{map-append, reverse-append}
use Rattle.std.proofs.lemmas.List.Elements.{Contains-append_cases, Contains-append_left, Contains-append_right}
use Rattle.jj_dag.specs.Graph.{IsWalkOfLength, Precedes, StrictlyReaches}
use Rattle.jj_walks.specs.declared.graph.GraphEdge.{GraphEdge}
use Rattle.jj_walks.specs.declared.graph.GraphEdgeType.{GraphEdgeType}
use Rattle.jj_walks.specs.declared.graph.GraphEdgeType.TheVariants.{Missing, Direct, Indirect}
use Rattle.jj_walks.specs.Grouped.{AreReadChildFirst, Entry, is_in_graph, leads_to, targets_of}
use Rattle.jj_walks.specs.GroupedOrders.{AreApart, AreGrouped, IsGroupedOrder, IsWhole, MayFollow, has_node, is_ready}
use Rattle.jj_walks.proofs.Expanding.{at_first, first_or_rest, in_map, in_rest, in_reverse}
use Rattle.jj_log.specs.Edges.{IsOfType, LeadsTo, parent, over}
use Rattle.jj_log.specs.Logs.{IsGroupedLog, IsLastReady, IsLog, IsReady, LogNode, numbers_of}
use Rattle.jj_log.specs.Numbers.{is_elided, is_visible, parents_of}
use Rattle.jj_log.specs.declared.commits.NumberedCommit.{NumberedCommit}
use Rattle.jj_log.proofs.Lists.{false_from, nothing}
use Rattle.jj_log.proofs.NearTargets.{visible_listed}
use Rattle.jj_log.proofs.NodeOrders.{HasNoRepeat, all_at, and_both, any_in, back_in_map, before_turned, distinct_turned, map_turned, no_repeat, not_again, not_before, split_at, turned_twice, unturned}
use Rattle.jj_log.proofs.ReadyTargets.{all_from, find_last, newest_two, target_led_to, target_listed}

abbrev pub Node : Type 0
Node = Entry ℕ ℕ

abbrev pub entry_of : LogNode → Node
entry_of p = record { id = p.0; node = p.0; edges = p.1 }

-- the entries of nodes, the last first
abbrev pub entries_of : List LogNode → List Node
entries_of nodes = reverse (map entry_of nodes)

abbrev number : LogNode → ℕ
number p = p.0

-- ---- edges

leads_target : (edges : List (GraphEdge ℕ)) (i : ℕ) → list_any (leads_to eqb i) edges ≡ true → (edge : GraphEdge ℕ) × Contains edges edge × (is_in_graph edge.edge_type ≡ true) × (edge.target ≡ i)
leads_target [] i h = absurd cc
leads_target (x ∷ edges) i h =
    ⊎_elim (λ here. let both = and_both (is_in_graph x.edge_type) (x.target == i) here in (x, at_first x edges, both.0, (Decides-eqb x.target i).0 both.1))
    (λ there. let (e, at, present, same) = leads_target edges i there in (e, in_rest x edges e at, present, same)) (or_cases (leads_to eqb i x) (list_any (leads_to eqb i) edges) h)

and_intro : (a b : Bool) → a ≡ true → b ≡ true → (a && b) ≡ true
and_intro true b h k = k
and_intro false b h k = absurd cc

module _ (commits : List NumberedCommit) where
  visible_of : (n t : ℕ) (ty : GraphEdgeType) → IsOfType commits (parents_of commits n) ty t → is_in_graph ty ≡ true → is_visible commits t ≡ true
  visible_of n t Missing k h = absurd cc
  visible_of n t Direct k h = k.0
  visible_of n t Indirect k h = k.0

  in_graph_of : (n t : ℕ) (ty : GraphEdgeType) → IsOfType commits (parents_of commits n) ty t → is_visible commits t ≡ true → is_in_graph ty ≡ true
  in_graph_of n t Missing k h = let less = visible_listed commits t h in absurd (omega (arith, less, k))
  in_graph_of n t Direct k h = refl
  in_graph_of n t Indirect k h = refl

  leads_path : (t n : ℕ) → LeadsTo commits t n → StrictlyReaches (parents_of commits) n t
  leads_path t n (parent at visible) = (0, (t, at, refl))
  leads_path t n (over {m = m} at elided more) = let (steps, path) = leads_path t m more in (suc steps, (m, at, path))

  -- a commit that is visible is not left out, and one with parents is either
  pub visible_kept : (n : ℕ) → is_visible commits n ≡ true → is_elided commits n ≡ false
  visible_kept n h = kept commits n h
    where
      kept : (cs : List NumberedCommit) (k : ℕ) → is_visible cs k ≡ true → is_elided cs k ≡ false
      kept [] k s = absurd cc
      kept (c ∷ cs) zero s = by_case c.is_elided s
        where
          by_case : (b : Bool) → not b ≡ true → b ≡ false
          by_case true e = absurd cc
          by_case false e = refl
      kept (c ∷ cs) (suc k) s = kept cs k s

  kept_visible : (n x : ℕ) → is_elided commits n ≡ false → Contains (parents_of commits n) x → is_visible commits n ≡ true
  kept_visible n x h at = visible commits n h at
    where
      visible : (cs : List NumberedCommit) (k : ℕ) → is_elided cs k ≡ false → Contains (parents_of cs k) x → is_visible cs k ≡ true
      visible [] k s at2 = nothing at2
      visible (c ∷ cs) zero s at2 = ap not s
      visible (c ∷ cs) (suc k) s at2 = visible cs k s at2

  -- the first visible commit of a walk to a visible commit
  hop : (k a b : ℕ) → is_visible commits b ≡ true → IsWalkOfLength (parents_of commits) a b (suc k)
      → (t : ℕ) × LeadsTo commits t a × (is_visible commits t ≡ true) × ((t ≡ b) ⊎ ((j : ℕ) × (j < k) × IsWalkOfLength (parents_of commits) t b (suc j)))
  hop zero a b visible (c, at, same) =
      (b, parent (subst (Contains (parents_of commits a)) same at) (visible_kept b visible), visible, inl refl)
  hop (suc k) a b visible (c, at, (d, next, walk)) = by_case (is_elided commits c) refl (hop k c b visible (d, next, walk))
    where
      by_case : (e : Bool) → is_elided commits c ≡ e
          → ((t : ℕ) × LeadsTo commits t c × (is_visible commits t ≡ true) × ((t ≡ b) ⊎ ((j : ℕ) × (j < k) × IsWalkOfLength (parents_of commits) t b (suc j))))
          → (t : ℕ) × LeadsTo commits t a × (is_visible commits t ≡ true) × ((t ≡ b) ⊎ ((j : ℕ) × (j < suc k) × IsWalkOfLength (parents_of commits) t b (suc j)))
      by_case false e further = (c, parent at e, kept_visible c d e next, inr (k, omega arith, (d, next, walk)))
      by_case true e (t, leads, is, rest) = (t, over at e leads, is, ⊎_elim inl (λ (j, less, w). inr (j, omega (arith, less), w)) rest)

  module _ (read : List LogNode) (log : IsLog commits read) where
    leads_in : (x : LogNode) → Contains read x → (i : ℕ) → list_any (leads_to eqb i) x.1 ≡ true → LeadsTo commits i x.0 × (is_visible commits i ≡ true)
    leads_in x here i h =
        let (edge, at, present, same) = leads_target x.1 i h in
        let k = log.edges x here in (
          subst (λ t. LeadsTo commits t x.0) same ((k.targets.all edge.target).0 (in_map (λ e. e.target) x.1 edge at)),
          subst (λ t. is_visible commits t ≡ true) same (visible_of x.0 edge.target edge.edge_type (k.types edge at) present),
        )

    leads_out : (x : LogNode) → Contains read x → (i : ℕ) → LeadsTo commits i x.0 → is_visible commits i ≡ true → list_any (leads_to eqb i) x.1 ≡ true
    leads_out x here i leads visible =
        let k = log.edges x here in
        let (edge, at, same) = back_in_map (λ e. e.target) x.1 i ((k.targets.all i).1 leads) in
        any_in (leads_to eqb i) x.1 edge at
        (and_intro (is_in_graph edge.edge_type) (edge.target == i) (in_graph_of x.0 edge.target edge.edge_type (k.types edge at) (subst (λ t. is_visible commits t ≡ true) (sym same) visible)) ((Decides-eqb edge.target i).1 same))

    once : HasNoRepeat (numbers_of read)
    once = no_repeat (numbers_of read) log.once

    visible_read : (x : LogNode) → Contains read x → is_visible commits x.0 ≡ true
    visible_read x here = (log.all x.0).0 (in_map number read x here)

    -- none has an edge to itself or an earlier one
    no_edge : (front back : List LogNode) (x y : LogNode) → read ≡ front ++ x ∷ back → Contains (front ++ x ∷ []) y → list_any (leads_to eqb y.0) x.1 ≡ false
    no_edge front back x y split earlier = false_from (list_any (leads_to eqb y.0) x.1) (λ h.
        let here : Contains read x = subst (λ (l : List LogNode). Contains l x) (sym split) (Contains-append_right front (x ∷ back) x (at_first x back)) in
        let (leads, visible) = leads_in x here y.0 h in
        let (front2, back2, split2, after) = log.before x.0 y.0 (visible_read x here) visible (leads_path y.0 x.0 leads) in
        let by_ids : numbers_of read ≡ numbers_of front ++ x.0 ∷ numbers_of back = ap numbers_of split ∙ map-append number front (x ∷ back) in
        let among : Contains (numbers_of front ++ x.0 ∷ []) y.0 = subst (λ (l : List ℕ). Contains l y.0) (map-append number front (x ∷ [])) (in_map number (front ++ x ∷ []) y earlier) in
        not_again (numbers_of front) (numbers_of back) front2 back2 x.0 y.0 (subst (λ (l : List ℕ). HasNoRepeat l) by_ids once) (sym by_ids ∙ split2) after among)

    abbrev AreSound : List Node → Type 0
    AreSound l = AreApart eqb l × AreReadChildFirst eqb l

    pushed : (front : List LogNode) (x : LogNode) → entries_of (front ++ x ∷ []) ≡ entry_of x ∷ entries_of front
    pushed front x = ap reverse (map-append entry_of front (x ∷ [])) ∙ reverse-append (map entry_of front) (entry_of x ∷ [])

    newest_of : (nodes : List LogNode) → entries_of nodes ≡ map entry_of (reverse nodes)
    newest_of nodes = sym (map_turned entry_of nodes)

    has_id : (newest : List LogNode) (i : ℕ) → has_node eqb (map entry_of newest) i ≡ true → Contains (numbers_of newest) i
    has_id [] i h = absurd cc
    has_id (x ∷ newest) i h =
        ⊎_elim (λ here. subst (λ z. Contains (x.0 ∷ numbers_of newest) z) ((Decides-eqb x.0 i).0 here) (at_first x.0 (numbers_of newest)))
        (λ there. in_rest x.0 (numbers_of newest) i (has_id newest i there)) (or_cases (x.0 == i) (has_node eqb (map entry_of newest) i) h)

    id_has : (newest : List LogNode) (i : ℕ) → Contains (numbers_of newest) i → has_node eqb (map entry_of newest) i ≡ true
    id_has [] i h = nothing h
    id_has (x ∷ newest) i h =
        ⊎_elim (λ here. or_left (x.0 == i) (has_node eqb (map entry_of newest) i) ((Decides-eqb x.0 i).1 here))
        (λ there. or_right (x.0 == i) (has_node eqb (map entry_of newest) i) (id_has newest i there)) (first_or_rest x.0 (numbers_of newest) i h)

    are_sound : (front back : List LogNode) → read ≡ front ++ back → AreSound (entries_of front) → AreSound (entries_of read)
    are_sound front [] split k = subst (λ (l : List LogNode). AreSound (entries_of l)) (sym (split ∙ append-nil front)) k
    are_sound front (x ∷ back) split k =
        let by_ids : numbers_of read ≡ numbers_of front ++ x.0 ∷ numbers_of back = ap numbers_of split ∙ map-append number front (x ∷ back) in
        let new : has_node eqb (entries_of front) x.0 ≡ false = false_from (has_node eqb (entries_of front) x.0) (λ has.
        let earlier = has_id (reverse front) x.0 (subst (λ (l : List Node). has_node eqb l x.0 ≡ true) (newest_of front) has) in
        not_before (numbers_of front) (numbers_of back) x.0 (subst (λ (l : List ℕ). HasNoRepeat l) by_ids once)
        (unturned (numbers_of front) x.0 (subst (λ (l : List ℕ). Contains l x.0) (map_turned number front) earlier))) in
        let childless : (f : Node) → Contains (entry_of x ∷ entries_of front) f → list_any (leads_to eqb f.id) x.1 ≡ false = λ f inside.
        let at = back_in_map entry_of (front ++ x ∷ []) f (unturned (map entry_of (front ++ x ∷ [])) f (subst (λ (l : List Node). Contains l f) (sym (pushed front x)) inside)) in
        subst (λ (e : Node). list_any (leads_to eqb e.id) x.1 ≡ false) at.2 (no_edge front back x at.0 split at.1) in
        let sound : AreSound (entry_of x ∷ entries_of front) = ((new, k.0), (childless, k.1)) in
        are_sound (front ++ x ∷ []) back (split ∙ sym (append_assoc front (x ∷ []) back)) (subst (λ (l : List Node). AreSound l) (sym (pushed front x)) sound)

    pub are_whole : IsWhole eqb (entries_of read)
    are_whole =
        let sound = are_sound [] read refl (tt, tt) in
        record {
          apart = sound.0;
          child_first = sound.1;
          closed = λ e i inside leads.
              let at = back_in_map entry_of read e (unturned (map entry_of read) e inside) in
              let (way, visible) = leads_in at.0 at.1 i (subst (λ (f : Node). list_any (leads_to eqb i) f.edges ≡ true) (sym at.2) leads) in
              subst (λ (l : List Node). has_node eqb l i ≡ true) (sym (newest_of read))
              (id_has (reverse read) i (subst (λ (l : List ℕ). Contains l i) (sym (map_turned number read)) (in_reverse (numbers_of read) i ((log.all i).1 visible))));
        }

    -- ---- a grouped order of them is a log

    abbrev AreGroupedHere : List LogNode → Type 0
    AreGroupedHere newest = AreGrouped eqb (entries_of read) (map entry_of newest)

    was_read : (x : LogNode) → Contains (entries_of read) (entry_of x) → Contains read x
    was_read x inside =
        let at = back_in_map entry_of read (entry_of x) (unturned (map entry_of read) (entry_of x) inside) in
        subst (λ (y : LogNode). Contains read y) (ap (λ (e : Node). (e.node, e.edges)) at.2) at.1

    all_read : (newest : List LogNode) → AreGroupedHere newest → (x : LogNode) → Contains newest x → Contains read x
    all_read [] k x h = nothing h
    all_read (y ∷ newest) k x h = ⊎_elim (λ here. subst (λ (z : LogNode). Contains read z) here (was_read y k.0.node)) (λ there. all_read newest k.1 x there) (first_or_rest y newest x h)

    grouped_once : (newest : List LogNode) → AreGroupedHere newest → HasNoRepeat (numbers_of newest)
    grouped_once [] k = tt
    grouped_once (x ∷ newest) k = (λ again. true≢false (sym (id_has newest x.0 again) ∙ k.0.new), grouped_once newest k.1)

    grouped_rest : (newer older : List LogNode) → AreGroupedHere (newer ++ older) → AreGroupedHere older
    grouped_rest [] older k = k
    grouped_rest (x ∷ newer) older k = grouped_rest newer older k.1

    -- a commit with an edge to another one is older
    child_older : (older : List LogNode) (a b : LogNode) → MayFollow eqb (entries_of read) (map entry_of older) (entry_of b) → Contains read a → LeadsTo commits b.0 a.0 → is_visible commits b.0 ≡ true → Contains (numbers_of older) a.0
    child_older older a b may here leads visible =
        let ready : (not (list_any (leads_to eqb b.0) a.1) || has_node eqb (map entry_of older) a.0) ≡ true =
        all_at (λ (e : Node). not (list_any (leads_to eqb b.0) e.edges) || has_node eqb (map entry_of older) e.id) (entries_of read) (entry_of a) may.ready (in_reverse (map entry_of read) (entry_of a) (in_map entry_of read a here)) in
        let yes = leads_out a here b.0 leads visible in
        has_id older a.0 (⊎_elim (λ never. absurd (true≢false (sym never ∙ ap not yes))) (λ has. has) (or_cases (not (list_any (leads_to eqb b.0) a.1)) (has_node eqb (map entry_of older) a.0) ready))

    read_of : (i : ℕ) → is_visible commits i ≡ true → (x : LogNode) × Contains read x × (x.0 ≡ i)
    read_of i h = back_in_map number read i ((log.all i).1 h)

    ancestor_older : (n k : ℕ) → k < n → (newer older : List LogNode) (a b : LogNode) → AreGroupedHere (newer ++ b ∷ older) → Contains read a → is_visible commits b.0 ≡ true → IsWalkOfLength (parents_of commits) a.0 b.0 (suc k) → Contains (numbers_of older) a.0
    ancestor_older zero k less newer older a b g here visible walk = absurd (omega (arith, less))
    ancestor_older (suc n) k less newer older a b g here visible walk =
        let (t, leads, is, rest) = hop k a.0 b.0 visible walk in
        let g2 = grouped_rest newer (b ∷ older) g in
        ⊎_elim
        (λ same. child_older older a b g2.0 here (subst (λ z. LeadsTo commits z a.0) same leads) visible)
        (λ (j, fewer, more).
        let c = read_of t is in
        let at = back_in_map number older c.0.0 (ancestor_older n j (omega (arith, less, fewer)) newer older c.0 b g c.1 visible (subst (λ z. IsWalkOfLength (parents_of commits) z b.0 (suc j)) (sym c.2) more)) in
        let spot = split_at older at.0 at.1 in
        let g3 = grouped_rest spot.0 (at.0 ∷ spot.1) (subst (λ (l : List LogNode). AreGroupedHere l) spot.2 g2.1) in
        let to : at.0.0 ≡ t = at.2 ∙ c.2 in
        let found = child_older spot.1 a at.0 g3.0 here (subst (λ z. LeadsTo commits z a.0) (sym to) leads) (subst (λ z. is_visible commits z ≡ true) (sym to) is) in
        subst (λ (l : List LogNode). Contains (numbers_of l) a.0) (sym spot.2)
        (subst (λ (l : List ℕ). Contains l a.0) (sym (map-append number spot.0 (at.0 ∷ spot.1))) (Contains-append_right (numbers_of spot.0) (at.0.0 ∷ numbers_of spot.1) a.0 (in_rest at.0.0 (numbers_of spot.1) a.0 found))))
        rest

    module _ (order : List LogNode) (grouped : IsGroupedOrder eqb (entries_of read) None (entries_of order)) where
      newest_grouped : AreGroupedHere (reverse order)
      newest_grouped = subst (λ (l : List Node). AreGrouped eqb (entries_of read) l) (newest_of order) grouped.grouped

      in_read : (x : LogNode) → Contains order x → Contains read x
      in_read x h = all_read (reverse order) newest_grouped x (in_reverse order x h)

      in_order : (x : LogNode) → Contains read x → Contains order x
      in_order x h =
          let at = back_in_map entry_of order (entry_of x) (unturned (map entry_of order) (entry_of x) (grouped.all (entry_of x) (in_reverse (map entry_of read) (entry_of x) (in_map entry_of read x h)))) in
          subst (λ (y : LogNode). Contains order y) (ap (λ (e : Node). (e.node, e.edges)) at.2) at.1

      visible_there : (i : ℕ) → Contains (numbers_of order) i → is_visible commits i ≡ true
      visible_there i h = let at = back_in_map number order i h in subst (λ z. is_visible commits z ≡ true) at.2 (visible_read at.0 (in_read at.0 at.1))

      visible_back : (i : ℕ) → is_visible commits i ≡ true → Contains (numbers_of order) i
      visible_back i h = let at = read_of i h in subst (λ z. Contains (numbers_of order) z) at.2 (in_map number order at.0 (in_order at.0 at.1))

      numbers_turned : reverse (numbers_of (reverse order)) ≡ numbers_of order
      numbers_turned = ap reverse (map_turned number order) ∙ turned_twice (numbers_of order)

      before : (a b : ℕ) → is_visible commits a ≡ true → is_visible commits b ≡ true → StrictlyReaches (parents_of commits) a b → Precedes (numbers_of order) a b
      before a b first second (steps, path) =
          let from = read_of a first in
          let to = back_in_map number order b (visible_back b second) in
          let spot = split_at (reverse order) to.0 (in_reverse order to.0 to.1) in
          let older = ancestor_older (suc steps) steps (omega arith) spot.0 spot.1 from.0 to.0 (subst (λ (l : List LogNode). AreGroupedHere l) spot.2 newest_grouped) from.1 (subst (λ z. is_visible commits z ≡ true) (sym to.2) second)
          (subst (λ z. IsWalkOfLength (parents_of commits) from.0.0 z (suc steps)) (sym to.2) (subst (λ z. IsWalkOfLength (parents_of commits) z b (suc steps)) (sym from.2) path)) in
          let found : Precedes (reverse (numbers_of spot.0 ++ to.0.0 ∷ numbers_of spot.1)) from.0.0 to.0.0 = before_turned (numbers_of spot.0) (numbers_of spot.1) from.0.0 to.0.0 older in
          let whole : reverse (numbers_of spot.0 ++ to.0.0 ∷ numbers_of spot.1) ≡ numbers_of order =
          ap reverse (sym (map-append number spot.0 (to.0 ∷ spot.1)) ∙ ap numbers_of (sym spot.2)) ∙ numbers_turned in
          subst (λ z. Precedes (numbers_of order) a z) to.2 (subst (λ z. Precedes (numbers_of order) z to.0.0) from.2 (subst (λ (l : List ℕ). Precedes l from.0.0 to.0.0) whole found))

      is_log : IsLog commits order
      is_log = record {
        all = λ n. (visible_there n, visible_back n);
        once = subst (IsDistinct eqb) numbers_turned (distinct_turned (numbers_of (reverse order)) (grouped_once (reverse order) newest_grouped));
        edges = λ x h. log.edges x (in_read x h);
        before = before;
      }

      -- ---- branches are together

      module _ (first : List LogNode) (node : LogNode) where
        abbrev older : List LogNode
        older = node ∷ reverse first

        abbrev earlier : List ℕ
        earlier = numbers_of first ++ node.0 ∷ []

        to_older : (n : ℕ) → Contains earlier n → Contains (numbers_of older) n
        to_older n h =
            ⊎_elim (λ before. in_rest node.0 (numbers_of (reverse first)) n (subst (λ (l : List ℕ). Contains l n) (sym (map_turned number first)) (in_reverse (numbers_of first) n before)))
            (λ own. ⊎_elim (λ same. subst (λ z. Contains (numbers_of older) z) same (at_first node.0 (numbers_of (reverse first)))) (λ none. nothing none) (first_or_rest node.0 [] n own)) (Contains-append_cases (numbers_of first) (node.0 ∷ []) n h)

        to_earlier : (n : ℕ) → Contains (numbers_of older) n → Contains earlier n
        to_earlier n h =
            ⊎_elim (λ same. subst (λ z. Contains earlier z) same (Contains-append_right (numbers_of first) (node.0 ∷ []) node.0 (at_first node.0 [])))
            (λ before. Contains-append_left (numbers_of first) (node.0 ∷ []) n (unturned (numbers_of first) n (subst (λ (l : List ℕ). Contains l n) (map_turned number first) before))) (first_or_rest node.0 (numbers_of (reverse first)) n h)

        abbrev may_come : ℕ → Bool
        may_come t = is_ready eqb (entries_of read) (map entry_of older) t

        abbrev no_child_left : ℕ → Node → Bool
        no_child_left t e = not (list_any (leads_to eqb t) e.edges) || has_node eqb (map entry_of older) e.id

        ready_to_come : (t : ℕ) → IsReady order earlier t → may_come t ≡ true
        ready_to_come t ready = all_from (no_child_left t) (entries_of read) (λ e inside.
            let at = back_in_map entry_of read e (unturned (map entry_of read) e inside) in
            subst (λ (f : Node). no_child_left t f ≡ true) at.2 (by_case at.0 at.1 (list_any (leads_to eqb t) at.0.1) refl))
          where
            by_case : (x : LogNode) → Contains read x → (b : Bool) → list_any (leads_to eqb t) x.1 ≡ b → no_child_left t (entry_of x) ≡ true
            by_case x here true e = or_right (not (list_any (leads_to eqb t) x.1)) (has_node eqb (map entry_of older) x.0) (id_has older x.0 (to_older x.0 (ready x (in_order x here) (target_listed x.1 t e))))
            by_case x here false e = or_left (not (list_any (leads_to eqb t) x.1)) (has_node eqb (map entry_of older) x.0) (ap not e)

        come_ready : (t : ℕ) → may_come t ≡ true → IsReady order earlier t
        come_ready t may x here leads =
            let all = all_at (no_child_left t) (entries_of read) (entry_of x) may (in_reverse (map entry_of read) (entry_of x) (in_map entry_of read x (in_read x here))) in
            let child = target_led_to x.1 t leads in
            to_earlier x.0 (has_id older x.0 (⊎_elim (λ never. absurd (true≢false (sym never ∙ ap not child))) (λ has. has) (or_cases (not (list_any (leads_to eqb t) x.1)) (has_node eqb (map entry_of older) x.0) all)))

        follows : (after : List LogNode) (next : LogNode) → order ≡ first ++ node ∷ next ∷ after → (target : ℕ) → IsLastReady order earlier (targets_of node.1) target → next.0 ≡ target
        follows after next split target last =
            let newest : reverse order ≡ reverse after ++ next ∷ older = ap reverse split ∙ newest_two first after node next in
            let may = (grouped_rest (reverse after) (next ∷ older) (subst (λ (l : List LogNode). AreGroupedHere l) newest newest_grouped)).0 in
            let found = ap (λ l. find may_come (reverse l)) last.split
            ∙ find_last may_come last.before last.after target (λ u h. false_from (may_come u) (λ has. last.last u (unturned last.after u h) (come_ready u has))) (ready_to_come target last.ready) in
            sym ((Decides-eqb target next.0).0 (subst (λ o. MatchOption o ⊤ (λ i. eqb i next.0 ≡ true)) found may.follows))

      pub grouped_log : IsGroupedLog commits order
      grouped_log = record { log = is_log; together = λ first after node next. follows first node after next }
