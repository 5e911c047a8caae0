-- The candidates of a grouped graph, before a node is yielded, include the branch that leads to an
-- id.
use Rattle.std.proofs.Common.{arith, ◌≡◌, ℕ, zero, suc, ◌+◌, ◌<◌, Bool, true, false, not, cond, ◌||◌, ◌&&◌, ◌⊎◌, inl, inr, Option, Some, is_some, List, [], ◌∷◌, ◌++◌, find, count_by, refl, sym, ◌∙◌, ap, subst, true≢false, ⊎_elim}
use Rattle.std.specs.Cmp.{IsEquivalence}
use Rattle.std.specs.HashMap.Eq.{lookup_congr}
use Rattle.std.specs.List.{Contains, list_any, sum_by}
use Rattle.std.specs.VecDeque.{deque_items}
use Rattle.std.proofs.lemmas.List.Sums.{sum_by-cons}
use Rattle.std.proofs.lemmas.Bool.{and_from, or_cases, or_left, or_right}
use Rattle.jj_walks.specs.declared.graph.GraphEdge.{GraphEdge}
use Rattle.jj_walks.specs.declared.candidates.Candidates.{Candidates}
use Rattle.jj_walks.specs.Candidates.{count_of, has_id, is_listed}
use Rattle.jj_walks.specs.Branches.{AreCounts, Climbs, IsFirstBranch, IsUntaken, KeepsBranch, TakesHead, Unblocks, has_child}
use Rattle.jj_walks.specs.ListsByKey.{items_of}
use Rattle.jj_walks.specs.Grouped.{AreReadChildFirst, Entry, Yielded, History, IsIdWalkOfLength, Prioritized, ReachesId, Read, first_prioritized, yielded_nodes, has_edge, pending_nodes, pending_at, is_required, leads_to, read_nodes}
use Rattle.jj_walks.specs.PendingNodes.{KeepsHistory}
use Rattle.jj_walks.proofs.CandidateLists.{and_left, and_right}
use Rattle.jj_walks.proofs.Histories.{cons-cases, cons-first, cons-later}
use Rattle.jj_walks.proofs.HistoryLists.{congr-right}
use Rattle.jj_walks.proofs.KeptHistories.{has_id-append, positive-count}
use Rattle.jj_dag.proofs.Plain.{no-false}

no-push : {A : Type 0} (xs : List A) (x : A) → [] ≡ xs ++ x ∷ [] → ⊥
no-push [] x e = cc
no-push (y ∷ ys) x e = cc

abbrev one-if : Bool → ℕ
one-if b = cond b 1 0

module _ {ID : Type 0} {eq : ID → ID → Bool} (laws : IsEquivalence eq) where
  way-more : (edge more : ID → ID → Bool) → ((i j : ID) → edge i j ≡ true → more i j ≡ true) → (from to : ID) (steps : ℕ) → IsIdWalkOfLength eq edge from to steps → IsIdWalkOfLength eq more from to steps
  way-more edge more grows from to zero w = w
  way-more edge more grows from to (suc steps) w = (w.0, grows from w.0 w.1, way-more edge more grows w.0 to steps w.2)

  pub reaches-more : (edge more : ID → ID → Bool) → ((i j : ID) → edge i j ≡ true → more i j ≡ true) → (from to : ID) → ReachesId eq edge from to → ReachesId eq more from to
  reaches-more edge more grows from to r = (r.0, way-more edge more grows from to r.0 r.1)

  has-last : (ids : List ID) (x i : ID) → has_id eq (ids ++ x ∷ []) i ≡ (has_id eq ids i || (eq x i || false))
  has-last ids x i = has_id-append eq ids (x ∷ []) i

  counted-any : (j : ID) (edges : List (GraphEdge ID)) → 0 < count_by (leads_to eq j) edges → list_any (leads_to eq j) edges ≡ true
  counted-any j [] h = absurd (omega arith)
  counted-any j (x ∷ edges) h = go (counted-any j edges) (leads_to eq j x) refl
    where
      whole : count_by (leads_to eq j) (x ∷ edges) ≡ one-if (leads_to eq j x) + count_by (leads_to eq j) edges
      whole = sum_by-cons (λ y. cond (leads_to eq j y) 1 0) x edges

      go : (0 < count_by (leads_to eq j) edges → list_any (leads_to eq j) edges ≡ true) → (b : Bool) → leads_to eq j x ≡ b → (b || list_any (leads_to eq j) edges) ≡ true
      go rest true is = refl
      go rest false is = let none : one-if (leads_to eq j x) ≡ 0 = ap one-if is in rest (omega (arith, whole, none))

  module _ (edge : ID → ID → Bool) (required : ID) where
    -- the last candidate is blocked
    pub climbs-blocked : (rest blocked : List ID) (x : ID) (lists : ID → ID → Bool) → ((j : ID) → eq x j ≡ true → (i : ID) × (edge i j ≡ true)) → Climbs eq edge required (rest ++ x ∷ []) blocked lists
        → Climbs eq edge required rest (blocked ++ x ∷ []) lists
    climbs-blocked rest blocked x lists child k = record {
      replaced = k.replaced;
      alike = k.alike;
      reaches = λ i l. k.reaches i (sym (moved i) ∙ l);
      has_child = λ j h. ⊎_elim (λ b. k.has_child j b) (λ e. child j (⊎_elim (λ a. a) (λ a. no-false a) (or_cases (eq x j) false e)))
          (or_cases (has_id eq blocked j) (eq x j || false) (sym (has-last blocked x j) ∙ h));
      sound = k.sound;
      whole = λ j i e. ap (λ b. lists j i || (b || k.replaced i)) (moved i) ∙ k.whole j i e;
      required_is = ap (λ b. b || k.replaced required) (moved required) ∙ k.required_is;
      next = λ j g. let n = k.next j g in (n.0, n.1, ap (λ b. b || k.replaced n.0) (moved n.0) ∙ n.2);
    }
      where
        turn : (r b e : Bool) → (r || (b || e)) ≡ ((r || e) || b)
        turn true b e = refl
        turn false true true = refl
        turn false true false = refl
        turn false false true = refl
        turn false false false = refl

        moved : (i : ID) → is_listed eq rest (blocked ++ x ∷ []) i ≡ is_listed eq (rest ++ x ∷ []) blocked i
        moved i = ap (λ b. has_id eq rest i || b) (has-last blocked x i) ∙ turn (has_id eq rest i) (has_id eq blocked i) (eq x i || false) ∙ ap (λ b. b || has_id eq blocked i) (sym (has-last rest x i))

    -- the last blocked id is replaced by its children
    climbs-replaced : (free blocked : List ID) (parent : ID) (lists more : ID → ID → Bool) → ((i : ID) → has_id eq free i ≡ lists parent i) → ((j i : ID) → more j i ≡ (not (eq parent j) && lists j i))
        → ((j i : ID) → eq parent j ≡ true → lists j i ≡ lists parent i) → Climbs eq edge required [] (blocked ++ parent ∷ []) lists → Climbs eq edge required free blocked more
    climbs-replaced free blocked parent lists more ids left same k = record {
      replaced = λ i. k.replaced i || eq parent i;
      alike = λ i j e. ap (λ b. b || eq parent i) (k.alike i j e) ∙ ap (λ b. k.replaced j || b) (congr-right laws i j parent e);
      reaches = λ i l. ⊎_elim (λ f. up i (k.sound parent i (sym (ids i) ∙ f))) (λ b. k.reaches i (was i (or_left (has_id eq blocked i) (eq parent i || false) b)))
          (or_cases (has_id eq free i) (has_id eq blocked i) l);
      has_child = λ j h. k.has_child j (has-last blocked parent j ∙ or_left (has_id eq blocked j) (eq parent j || false) h);
      sound = λ j i l. k.sound j i (and_right (not (eq parent j)) (lists j i) (sym (left j i) ∙ l));
      whole = λ j i e. parts j i e (eq parent j) refl;
      required_is = kept required k.required_is;
      next = λ j g. ⊎_elim (λ r. let n = k.next j r in (n.0, n.1, kept n.0 n.2))
          (λ e. let c = k.has_child j (has-last blocked parent j ∙ or_right (has_id eq blocked j) (eq parent j || false) (or_left (eq parent j) false e)) in (c.0, c.1, opened j c.0 c.1 e))
          (or_cases (k.replaced j) (eq parent j) g);
    }
      where
        was : (i : ID) → (has_id eq blocked i || (eq parent i || false)) ≡ true → is_listed eq [] (blocked ++ parent ∷ []) i ≡ true
        was i e = has-last blocked parent i ∙ e

        up : (i : ID) → edge i parent ≡ true → ReachesId eq edge i required
        up i e = let above = k.reaches parent (was parent (or_right (has_id eq blocked parent) (eq parent parent || false) (or_left (eq parent parent) false (laws.refl parent)))) in (suc above.0, (parent, e, above.1))

        still : (f b e r : Bool) → ((b || (e || false)) || r) ≡ true → ((f || b) || (r || e)) ≡ true
        still true b e r h = refl
        still false true e r h = refl
        still false false true true h = refl
        still false false true false h = refl
        still false false false true h = refl
        still false false false false h = h

        kept : (i : ID) → (is_listed eq [] (blocked ++ parent ∷ []) i || k.replaced i) ≡ true → (is_listed eq free blocked i || (k.replaced i || eq parent i)) ≡ true
        kept i e = still (has_id eq free i) (has_id eq blocked i) (eq parent i) (k.replaced i) (ap (λ b. b || k.replaced i) (sym (has-last blocked parent i)) ∙ e)

        opened : (j i : ID) → edge i j ≡ true → eq parent j ≡ true → (is_listed eq free blocked i || (k.replaced i || eq parent i)) ≡ true
        opened j i e p = ⊎_elim (λ l. or_left (is_listed eq free blocked i) (k.replaced i || eq parent i) (or_left (has_id eq free i) (has_id eq blocked i) (ids i ∙ sym (same j i p) ∙ l)))
            (λ n. kept i n) (or_cases (lists j i) (is_listed eq [] (blocked ++ parent ∷ []) i || k.replaced i) (k.whole j i e))

        parts : (j i : ID) → edge i j ≡ true → (b : Bool) → eq parent j ≡ b → (more j i || (is_listed eq free blocked i || (k.replaced i || eq parent i))) ≡ true
        parts j i e true p = or_right (more j i) (is_listed eq free blocked i || (k.replaced i || eq parent i)) (opened j i e p)
        parts j i e false p = ⊎_elim (λ l. or_left (more j i) (is_listed eq free blocked i || (k.replaced i || eq parent i)) (left j i ∙ ap (λ b. not b && lists j i) p ∙ l))
            (λ n. or_right (more j i) (is_listed eq free blocked i || (k.replaced i || eq parent i)) (kept i n)) (or_cases (lists j i) (is_listed eq [] (blocked ++ parent ∷ []) i || k.replaced i) (k.whole j i e))

    -- the first head is the only candidate
    climbs-head : (head : ID) (lists : ID → ID → Bool) → eq head required ≡ true → ((j i : ID) → lists j i ≡ edge i j) → Climbs eq edge required (head ∷ []) [] lists
    climbs-head head lists e children = record {
      replaced = λ _. false;
      alike = λ _ _ _. refl;
      reaches = λ i l. (0, sym (laws.congr head i required (one (eq head i) l)) ∙ e);
      has_child = λ j h. no-false h;
      sound = λ j i l. sym (children j i) ∙ l;
      whole = λ j i l. or_left (lists j i) (is_listed eq (head ∷ []) [] i || false) (children j i ∙ l);
      required_is = ap (λ b. ((b || false) || false) || false) e;
      next = λ j g. no-false g;
    }
      where
        one : (b : Bool) → ((b || false) || false) ≡ true → b ≡ true
        one true h = refl
        one false h = h

    module _ (count : ID → Option ℕ) (counts : AreCounts eq edge count required) where
      climbs-none : (lists : ID → ID → Bool) → Climbs eq edge required [] [] lists → ⊥
      climbs-none lists k = counts.founded k.replaced k.alike k.next required k.required_is

      -- there is always a candidate left
      pub branch-ended : (s : Candidates ID) → s.ids.items ≡ [] → s.blocked.items ≡ [] → deque_items s.heads ≡ [] → IsFirstBranch eq edge required s → ⊥
      branch-ended s ids blocked heads (inl (head, rest, e, u)) = let nothing : [] ≡ head ∷ rest = sym heads ∙ u.heads in cc
      branch-ended s ids blocked heads (inr k) = climbs-none (has_child eq s.children) (rw (ids, blocked) at k)

      pub branch-refilled : (s t : Candidates ID) → s.ids.items ≡ [] → Unblocks eq s t ⊎ TakesHead eq s t → IsFirstBranch eq edge required s → Climbs eq edge required t.ids.items t.blocked.items (has_child eq t.children)
      branch-refilled s t none (inl u) (inl (head, rest, e, w)) = absurd (no-push t.blocked.items u.parent (sym w.blocked ∙ u.blocked))
      branch-refilled s t none (inl u) (inr k) =
          let old : Climbs eq edge required [] (t.blocked.items ++ u.parent ∷ []) (has_child eq s.children) = rw (none, u.blocked) at k in
          climbs-replaced t.ids.items t.blocked.items u.parent (has_child eq s.children) (has_child eq t.children) u.ids u.children
          (λ j i same. ap (λ o. has_id eq (items_of o) i) (sym (lookup_congr eq laws.congr s.children.entries u.parent j same))) old
      branch-refilled s t none (inr u) (inl (head, rest, e, w)) =
          let first : u.head ∷ deque_items t.heads ≡ head ∷ rest = sym u.heads ∙ w.heads in
          let same : u.head ≡ head = cc in
          rw (u.ids, u.blocked) (climbs-head u.head (has_child eq t.children) (ap (λ x. eq x required) same ∙ e) (λ j i. ap (λ m. has_child eq m j i) u.children ∙ w.children j i))
      branch-refilled s t none (inr u) (inr k) = absurd (climbs-none (has_child eq s.children) (rw (none, u.none) at k))

      -- a candidate that reaches the required id is counted
      pub branch-counted : (s : Candidates ID) (rest : List ID) (x : ID) → s.ids.items ≡ rest ++ x ∷ [] → IsFirstBranch eq edge required s → is_some (count x) ≡ true
      branch-counted s rest x top (inl (head, others, e, w)) = absurd (no-push rest x (sym w.ids ∙ top))
      branch-counted s rest x top (inr k) = counts.known x (k.reaches x (or_left (has_id eq s.ids.items x) (has_id eq s.blocked.items x)
          (ap (λ l. has_id eq l x) top ∙ has-last rest x x ∙ or_right (has_id eq rest x) (eq x x || false) (or_left (eq x x) false (laws.refl x)))))

    pub branch-candidate : (s : Candidates ID) (rest : List ID) (x : ID) → s.ids.items ≡ rest ++ x ∷ [] → IsFirstBranch eq edge required s → Climbs eq edge required (rest ++ x ∷ []) s.blocked.items (has_child eq s.children)
    branch-candidate s rest x top (inl (head, others, e, w)) = absurd (no-push rest x (sym w.ids ∙ top))
    branch-candidate s rest x top (inr k) = rw top at k

    -- a candidate reaches the required id
    pub climbs-reaches : (rest blocked : List ID) (x : ID) (lists : ID → ID → Bool) → Climbs eq edge required (rest ++ x ∷ []) blocked lists → ReachesId eq edge x required
    climbs-reaches rest blocked x lists k = k.reaches x (or_left (has_id eq (rest ++ x ∷ []) x) (has_id eq blocked x)
        (has-last rest x x ∙ or_right (has_id eq rest x) (eq x x || false) (or_left (eq x x) false (laws.refl x))))

    -- more heads change nothing
    pub branch-heads : (s t : Candidates ID) (more : List ID) → t.ids.items ≡ s.ids.items → t.blocked ≡ s.blocked → t.children ≡ s.children → deque_items t.heads ≡ deque_items s.heads ++ more → IsFirstBranch eq edge required s → IsFirstBranch eq edge required t
    branch-heads s t more ids blocked children heads (inl (head, rest, e, u)) = inl (
      head,
      rest ++ more,
      e,
      record {
        ids = ids ∙ u.ids;
        blocked = ap (λ v. v.items) blocked ∙ u.blocked;
        heads = heads ∙ ap (λ l. l ++ more) u.heads;
        children = λ j i. ap (λ m. has_child eq m j i) children ∙ u.children j i;
      },
    )
    branch-heads s t more ids blocked children heads (inr k) = inr (rw (ids, blocked, children) k)

    -- the last candidate has a child, and is blocked
    pub branch-blocked : (s t : Candidates ID) (x : ID) → s.ids.items ≡ t.ids.items ++ x ∷ [] → t.blocked.items ≡ s.blocked.items ++ x ∷ [] → t.children ≡ s.children
        → ((j : ID) → eq x j ≡ true → (i : ID) × (edge i j ≡ true)) → IsFirstBranch eq edge required s → IsFirstBranch eq edge required t
    branch-blocked s t x ids blocked children child k =
        inr (rw (blocked, children) (climbs-blocked t.ids.items s.blocked.items x (has_child eq s.children) child (branch-candidate s t.ids.items x ids k)))

  -- one more node was read
  pub branch-grown : (edge grown : ID → ID → Bool) (required : ID) (s t : Candidates ID) (more : List ID) (from : ID) (leads : ID → Bool)
      → ((i j : ID) → grown i j ≡ ((eq from i && leads j) || edge i j)) → ((j i : ID) → has_child eq t.children j i ≡ (has_child eq s.children j i || (leads j && eq from i)))
      → t.ids ≡ s.ids → t.blocked ≡ s.blocked → deque_items t.heads ≡ deque_items s.heads ++ more → IsFirstBranch eq edge required s → IsFirstBranch eq grown required t
  branch-grown edge grown required s t more from leads grows children ids blocked heads (inl (head, rest, e, u)) = inl (
    head,
    rest ++ more,
    e,
    record {
      ids = ap (λ v. v.items) ids ∙ u.ids;
      blocked = ap (λ v. v.items) blocked ∙ u.blocked;
      heads = heads ∙ ap (λ l. l ++ more) u.heads;
      children = λ j i. children j i ∙ ap (λ b. b || (leads j && eq from i)) (u.children j i) ∙ turn (edge i j) (leads j) (eq from i) ∙ sym (grows i j);
    },
  )
    where
      turn : (a b d : Bool) → (a || (b && d)) ≡ ((d && b) || a)
      turn true true true = refl
      turn true true false = refl
      turn true false true = refl
      turn true false false = refl
      turn false true true = refl
      turn false true false = refl
      turn false false true = refl
      turn false false false = refl
  branch-grown edge grown required s t more from leads grows children ids blocked heads (inr k) = inr (rw (ids, blocked) (record {
    replaced = k.replaced;
    alike = k.alike;
    reaches = λ i l. let r = k.reaches i l in (r.0, way-more edge grown kept i required r.0 r.1);
    has_child = λ j h. let c = k.has_child j h in (c.0, kept c.0 j c.1);
    sound = λ j i l. ⊎_elim (λ a. kept i j (k.sound j i a)) (λ a. grows i j ∙ or_left (eq from i && leads j) (edge i j) (and_from (eq from i) (leads j) (and_right (leads j) (eq from i) a) (and_left (leads j) (eq from i) a)))
        (or_cases (has_child eq s.children j i) (leads j && eq from i) (sym (children j i) ∙ l));
    whole = λ j i e. ⊎_elim
        (λ a. or_left (has_child eq t.children j i) (known i) (children j i ∙ or_right (has_child eq s.children j i) (leads j && eq from i) (and_from (leads j) (eq from i) (and_right (eq from i) (leads j) a) (and_left (eq from i) (leads j) a))))
        (λ a. ⊎_elim (λ l. or_left (has_child eq t.children j i) (known i) (children j i ∙ or_left (has_child eq s.children j i) (leads j && eq from i) l)) (λ n. or_right (has_child eq t.children j i) (known i) n)
        (or_cases (has_child eq s.children j i) (known i) (k.whole j i a)))
        (or_cases (eq from i && leads j) (edge i j) (sym (grows i j) ∙ e));
    required_is = k.required_is;
    next = λ j g. let n = k.next j g in (n.0, kept n.0 j n.1, n.2);
  }))
    where
      kept : (i j : ID) → edge i j ≡ true → grown i j ≡ true
      kept i j e = grows i j ∙ or_right (eq from i && leads j) (edge i j) e

      known : ID → Bool
      known i = is_listed eq s.ids.items s.blocked.items i || k.replaced i

module _ {N ID : Type 0} {eq : ID → ID → Bool} (laws : IsEquivalence eq) where
  pending-read : (h : History N ID) → yielded_nodes h ≡ [] → pending_nodes eq h ≡ read_nodes h
  pending-read [] none = refl
  pending-read (Prioritized i ∷ h) none = pending-read h none
  pending-read (Read e ∷ h) none = ap (λ l. e ∷ l) (pending-read h none)
  pending-read (Yielded e ∷ h) none = cc

  first-required : (h : History N ID) (required : ID) → yielded_nodes h ≡ [] → first_prioritized h ≡ Some required → is_required eq h required ≡ true
  first-required [] required none first = cc
  first-required (Prioritized i ∷ []) required none first = let same : i ≡ required = cc in or_left (eq i required) false (ap (λ x. eq x required) same ∙ laws.refl required)
  first-required (Prioritized i ∷ event ∷ h) required none first = or_right (eq i required) (is_required eq (event ∷ h) required) (first-required (event ∷ h) required none first)
  first-required (Read e ∷ h) required none first = or_right (list_any (leads_to eq required) e.edges) (is_required eq h required) (first-required h required none first)
  first-required (Yielded e ∷ h) required none first = cc

  pub edge-entry : (es : List (Entry N ID)) (i j : ID) → has_edge eq es i j ≡ true → (c : Entry N ID) × Contains es c × (eq c.id i ≡ true) × (list_any (leads_to eq j) c.edges ≡ true)
  edge-entry [] i j e = no-false e
  edge-entry (f ∷ es) i j e = ⊎_elim
      (λ a. (f, cons-first es f f refl, and_left (eq f.id i) (list_any (leads_to eq j) f.edges) a, and_right (eq f.id i) (list_any (leads_to eq j) f.edges) a))
      (λ a. let c = edge-entry es i j a in (c.0, cons-later es f c.0 c.1, c.2, c.3))
      (or_cases (eq f.id i && list_any (leads_to eq j) f.edges) (has_edge eq es i j) e)

  edge-found : (es : List (Entry N ID)) (i j : ID) → has_edge eq es i j ≡ true → is_some (find (λ e. eq e.id i) es) ≡ true
  edge-found [] i j e = no-false e
  edge-found (f ∷ es) i j e = go (edge-found es i j) (eq f.id i) refl
    where
      go : (has_edge eq es i j ≡ true → is_some (find (λ e. eq e.id i) es) ≡ true) → (b : Bool) → eq f.id i ≡ b → is_some (cond b (Some f) (find (λ e. eq e.id i) es)) ≡ true
      go rest true is = refl
      go rest false is = rest (sym (ap (λ b. (b && list_any (leads_to eq j) f.edges) || has_edge eq es i j) is) ∙ e)

  pub edge-counted : (j : ID) (es : List (Entry N ID)) → 0 < sum_by (λ e. count_by (leads_to eq j) e.edges) es → (i : ID) × (has_edge eq es i j ≡ true)
  edge-counted j [] h = absurd (omega arith)
  edge-counted j (f ∷ es) h = go (edge-counted j es) (list_any (leads_to eq j) f.edges) refl
    where
      whole : sum_by (λ e. count_by (leads_to eq j) e.edges) (f ∷ es) ≡ count_by (leads_to eq j) f.edges + sum_by (λ e. count_by (leads_to eq j) e.edges) es
      whole = sum_by-cons (λ e. count_by (leads_to eq j) e.edges) f es

      zero-or : (n : ℕ) → (0 < n → list_any (leads_to eq j) f.edges ≡ true) → list_any (leads_to eq j) f.edges ≡ false → n ≡ 0
      zero-or zero any none = refl
      zero-or (suc n) any none = absurd (true≢false (sym (any (omega arith)) ∙ none))

      go : (0 < sum_by (λ e. count_by (leads_to eq j) e.edges) es → (i : ID) × (has_edge eq es i j ≡ true)) → (b : Bool) → list_any (leads_to eq j) f.edges ≡ b → (i : ID) × (has_edge eq (f ∷ es) i j ≡ true)
      go below true is = (f.id, or_left (eq f.id f.id && list_any (leads_to eq j) f.edges) (has_edge eq es f.id j) (and_from (eq f.id f.id) (list_any (leads_to eq j) f.edges) (laws.refl f.id) is))
      go below false is =
          let none : count_by (leads_to eq j) f.edges ≡ 0 = zero-or (count_by (leads_to eq j) f.edges) (counted-any laws j f.edges) is in
          let rest = below (omega (arith, whole, none, h)) in
          (rest.0, or_right (eq f.id rest.0 && list_any (leads_to eq j) f.edges) (has_edge eq es rest.0 j) rest.1)

  edge-alike : (es : List (Entry N ID)) (x y j : ID) → eq x y ≡ true → has_edge eq es x j ≡ has_edge eq es y j
  edge-alike [] x y j e = refl
  edge-alike (f ∷ es) x y j e =
      ap (λ b. (b && list_any (leads_to eq j) f.edges) || has_edge eq es x j) (congr-right laws x y f.id e) ∙ ap (λ b. (eq f.id y && list_any (leads_to eq j) f.edges) || b) (edge-alike es x y j e)

  way-alike : (es : List (Entry N ID)) (x y to : ID) (steps : ℕ) → eq x y ≡ true → IsIdWalkOfLength eq (has_edge eq es) y to steps → IsIdWalkOfLength eq (has_edge eq es) x to steps
  way-alike es x y to zero e w = laws.congr x y to e ∙ w
  way-alike es x y to (suc steps) e w = (w.0, edge-alike es x y w.0 e ∙ w.1, w.2)

  -- equal ids reach the same
  pub reaches-alike : (es : List (Entry N ID)) (x y to : ID) → eq x y ≡ true → ReachesId eq (has_edge eq es) y to → ReachesId eq (has_edge eq es) x to
  reaches-alike es x y to e r = (r.0, way-alike es x y to r.0 e r.1)

  -- nodes read in topological order have no cycle
  pub circle-free : (es : List (Entry N ID)) → AreReadChildFirst eq es → (is_in : ID → Bool)
      → ((f : Entry N ID) → Contains es f → is_in f.id ≡ true → (c : Entry N ID) × Contains es c × (list_any (leads_to eq f.id) c.edges ≡ true) × (is_in c.id ≡ true))
      → (f : Entry N ID) → Contains es f → is_in f.id ≡ true → ⊥
  circle-free [] order is_in closed f (i, less, e) within = absurd (omega arith)
  circle-free (e ∷ es) (first, order) is_in closed f at within =
      let below = circle-free es order is_in (λ f at within. older f (cons-later es e f at) within) in
      ⊎_elim
      (λ same. let c = older e (cons-first es e e refl) (ap (λ x. is_in x.id) same ∙ within) in below c.0 c.1 c.3)
      (λ later. below f later within) (cons-cases es e f at)
    where
      older : (f : Entry N ID) → Contains (e ∷ es) f → is_in f.id ≡ true → (c : Entry N ID) × Contains es c × (list_any (leads_to eq f.id) c.edges ≡ true) × (is_in c.id ≡ true)
      older f at within =
          let c = closed f at within in
          (c.0, ⊎_elim (λ same. no-false (sym (first f at) ∙ ap (λ x. list_any (leads_to eq f.id) x.edges) same ∙ c.2)) (λ later. later) (cons-cases es e c.0 c.1), c.2, c.3)

  -- the stored state counts the edges of the nodes that were read
  pub counts-are : (h : History N ID) (node_at : ID → Option (N × List (GraphEdge ID))) (count : ID → Option ℕ) (ids heads : List ID) (required : ID) → ((x y : ID) → eq x y ≡ true → count x ≡ count y)
      → yielded_nodes h ≡ [] → AreReadChildFirst eq (read_nodes h) → first_prioritized h ≡ Some required → KeepsHistory eq h node_at count ids heads → AreCounts eq (has_edge eq (read_nodes h)) count required
  counts-are h node_at count ids heads required alike none order first k = record {
    known = λ i r. counted i r.0 r.1;
    child = λ j pos. let more : 0 < count_of (count j) = positive-count (count j) pos in let edges = k.counts j in
        edge-counted j (read_nodes h) (subst (λ (l : List (Entry N ID)). 0 < sum_by (λ e. count_by (leads_to eq j) e.edges) l) all (omega (arith, more, edges)));
    founded = λ is_in same closed j within. let c = above is_in same closed j within in circle-free (read_nodes h) order is_in (λ f at in_f. above is_in same closed f.id in_f) c.0 c.1 c.3;
  }
    where
      all : pending_nodes eq h ≡ read_nodes h
      all = pending-read h none

      counted : (i : ID) (steps : ℕ) → IsIdWalkOfLength eq (has_edge eq (read_nodes h)) i required steps → is_some (count i) ≡ true
      counted i zero e = ap is_some (alike i required e) ∙ k.known required ∙ or_left (is_required eq h required) (is_some (pending_at eq h required)) (first-required h required none first)
      counted i (suc steps) (j, e, way) = k.known i ∙ or_right (is_required eq h i) (is_some (pending_at eq h i)) (ap (λ (l : List (Entry N ID)). is_some (find (λ e. eq e.id i) l)) all ∙ edge-found (read_nodes h) i j e)

      above : (is_in : ID → Bool) → ((i j : ID) → eq i j ≡ true → is_in i ≡ is_in j) → ((j : ID) → is_in j ≡ true → (i : ID) × (has_edge eq (read_nodes h) i j ≡ true) × (is_in i ≡ true))
          → (j : ID) → is_in j ≡ true → (c : Entry N ID) × Contains (read_nodes h) c × (list_any (leads_to eq j) c.edges ≡ true) × (is_in c.id ≡ true)
      above is_in same closed j within =
          let i = closed j within in
          let c = edge-entry (read_nodes h) i.0 j i.1 in
          (c.0, c.1, c.3, same c.0.id i.0 c.2 ∙ i.2)

  -- an id was prioritized
  pub branch-prioritized : (h : History N ID) (s t : Candidates ID) (i copy : ID) → eq copy i ≡ true → t.ids ≡ s.ids → t.blocked ≡ s.blocked → t.children ≡ s.children → deque_items t.heads ≡ deque_items s.heads ++ copy ∷ []
      → KeepsBranch eq h s → KeepsBranch eq (Prioritized i ∷ h) t
  branch-prioritized [] s t i copy same ids blocked children heads k = record {
    begun = λ e. cc;
    first = λ none order required first.
        let w : i ≡ required = cc in
        let u = k.begun refl in
        inl (
          copy,
          [],
          ap (λ x. eq copy x) (sym w) ∙ same,
          record {
            ids = ap (λ v. v.items) ids ∙ u.ids;
            blocked = ap (λ v. v.items) blocked ∙ u.blocked;
            heads = heads ∙ ap (λ l. l ++ copy ∷ []) u.heads;
            children = λ j q. ap (λ m. has_child eq m j q) children ∙ u.children j q;
          },
        );
  }
  branch-prioritized (event ∷ h) s t i copy same ids blocked children heads k = record {
    begun = λ e. cc;
    first = λ none order required first. branch-heads laws (has_edge eq (read_nodes (event ∷ h))) required s t (copy ∷ []) (ap (λ v. v.items) ids) blocked children heads (k.first none order required first);
  }

  -- a node was read
  pub branch-read : (h : History N ID) (s t : Candidates ID) (e : Entry N ID) (more : List ID) → t.ids ≡ s.ids → t.blocked ≡ s.blocked → deque_items t.heads ≡ deque_items s.heads ++ more
      → ((j i : ID) → has_child eq t.children j i ≡ (has_child eq s.children j i || (list_any (leads_to eq j) e.edges && eq e.id i))) → KeepsBranch eq h s → KeepsBranch eq (Read e ∷ h) t
  branch-read h s t e more ids blocked heads children k = record {
    begun = λ e. cc;
    first = λ none order required first. branch-grown laws (has_edge eq (read_nodes h)) (has_edge eq (read_nodes (Read e ∷ h))) required s t more e.id (λ j. list_any (leads_to eq j) e.edges)
        (λ i j. refl) children ids blocked heads (k.first none order.1 required first);
  }

  -- a node was yielded
  pub branch-gave : (h : History N ID) (t : Candidates ID) (e : Entry N ID) → KeepsBranch eq (Yielded e ∷ h) t
  branch-gave h t e = record { begun = λ e. cc; first = λ none order required first. cc }

-- a list with a candidate is not the initial one
pub untaken-none : {ID A : Type 0} {eq : ID → ID → Bool} {edge : ID → ID → Bool} {listed : List ID} (s : Candidates ID) (rest : List ID) (x : ID) → s.ids.items ≡ rest ++ x ∷ [] → IsUntaken eq edge listed s → A
untaken-none s rest x top u = absurd (no-push rest x (sym u.ids ∙ top))

-- if there are more, there was a candidate
pub untaken-refilled : {ID A : Type 0} {eq : ID → ID → Bool} {edge : ID → ID → Bool} (s t : Candidates ID) → Unblocks eq s t ⊎ TakesHead eq s t → IsUntaken eq edge [] s → A
untaken-refilled s t (inl u) k = absurd (no-push t.blocked.items u.parent (sym k.blocked ∙ u.blocked))
untaken-refilled s t (inr u) k = let nothing : [] ≡ u.head ∷ deque_items t.heads = sym k.heads ∙ u.heads in cc
