-- Whole histories of a grouped graph.
use Rattle.std.proofs.Common.{arith, ◌≡◌, ℕ, zero, suc, ◌==◌, Bool, true, false, not, cond, ◌||◌, ◌&&◌, ◌⊎◌, inl, inr, Option, None, Some, is_some, MatchOption, List, [], ◌∷◌, ◌++◌, map, filter, find, reverse, refl, sym, ◌∙◌, ap, subst, true≢false, ⊎_elim}
use Rattle.std.specs.Prelude.{⊤}
use borrow.Author.Tests.{eq-eqb}
use Rattle.std.specs.Cmp.{IsEquivalence}
use Rattle.std.specs.List.{Contains, list_all, list_any}
use Rattle.std.proofs.lemmas.List.{reverse-append}
use Rattle.std.proofs.lemmas.Bool.{or_cases, or_left, or_right}
use Rattle.jj_walks.specs.declared.graph.GraphEdge.{GraphEdge}
use Rattle.jj_walks.specs.Grouped.{AreReadChildFirst, Entry, Yielded, History, IsHistory, Prioritized, ReachesId, Read, pending_in_degree, first_prioritized, yielded_nodes, has_edge, pending_nodes, pending_at, is_unblocked, is_in_graph, is_required, last_edges, last_unblocked, leads_to, read_nodes, targets_of}
use Rattle.jj_walks.specs.GroupedOrders.{AreApart, AreGrouped, IsGroupedOrder, IsOldest, IsWhole, has_node, is_ready, newest_edges, prioritized_ids, PrioritizesFirst}
use Rattle.jj_walks.proofs.Branches.{circle-free, edge-counted, edge-entry, reaches-more}
use Rattle.jj_walks.proofs.CandidateLists.{and_left, and_right}
use Rattle.jj_walks.proofs.Histories.{cons-cases, cons-first, cons-later, edge-counts, none-found, read-yielded, read-yielded_or_held}
use Rattle.jj_walks.proofs.HistoryLists.{congr-right, find-others, find-passes}
use Rattle.jj_dag.proofs.Plain.{no-false}

nothing : {A B : Type 0} {x : A} → Contains [] x → B
nothing (i, less, e) = absurd (omega arith)

module _ {A : Type 0} where
  pub append-cases : (xs ys : List A) (x : A) → Contains (xs ++ ys) x → Contains xs x ⊎ Contains ys x
  append-cases [] ys x k = inr k
  append-cases (y ∷ xs) ys x k = ⊎_elim (λ e. inl (cons-first xs y x e)) (λ l. ⊎_elim (λ a. inl (cons-later xs y x a)) (λ a. inr a) (append-cases xs ys x l)) (cons-cases (xs ++ ys) y x k)

  all-from : (p : A → Bool) (xs : List A) → ((x : A) → Contains xs x → p x ≡ true) → list_all p xs ≡ true
  all-from p [] k = refl
  all-from p (x ∷ xs) k = ap (λ b. b && list_all p xs) (k x (cons-first xs x x refl)) ∙ all-from p xs (λ y m. k y (cons-later xs x y m))

  all-at : (p : A → Bool) (xs : List A) (x : A) → list_all p xs ≡ true → Contains xs x → p x ≡ true
  all-at p [] x k m = nothing m
  all-at p (y ∷ xs) x k m = ⊎_elim (λ e. ap p (sym e) ∙ and_left (p y) (list_all p xs) k) (λ l. all-at p xs x (and_right (p y) (list_all p xs) k) l) (cons-cases xs y x m)

  any-at : (p : A → Bool) (xs : List A) (x : A) → Contains xs x → p x ≡ true → list_any p xs ≡ true
  any-at p [] x m e = nothing m
  any-at p (y ∷ xs) x m e = ⊎_elim (λ s. or_left (p y) (list_any p xs) (ap p s ∙ e)) (λ l. or_right (p y) (list_any p xs) (any-at p xs x l e)) (cons-cases xs y x m)

  any-from : (p : A → Bool) (xs : List A) → list_any p xs ≡ true → (x : A) × Contains xs x × (p x ≡ true)
  any-from p [] e = no-false e
  any-from p (y ∷ xs) e = ⊎_elim (λ a. (y, cons-first xs y y refl, a)) (λ a. let r = any-from p xs a in (r.0, cons-later xs y r.0 r.1, r.2)) (or_cases (p y) (list_any p xs) e)

  filtered : (p : A → Bool) (xs : List A) (x : A) → Contains (filter p xs) x → Contains xs x
  filtered p [] x m = m
  filtered p (y ∷ xs) x m = go (filtered p xs x) (p y) m
    where
      go : (Contains (filter p xs) x → Contains xs x) → (b : Bool) → Contains (cond b (y ∷ filter p xs) (filter p xs)) x → Contains (y ∷ xs) x
      go rest true m = ⊎_elim (λ e. cons-first xs y x e) (λ l. cons-later xs y x (rest l)) (cons-cases (filter p xs) y x m)
      go rest false m = cons-later xs y x (rest m)

  pub found-in : (p : A → Bool) (xs : List A) (x : A) → find p xs ≡ Some x → Contains xs x
  found-in p [] x e = cc
  found-in p (y ∷ xs) x e = go (found-in p xs x) (p y) e
    where
      go : (find p xs ≡ Some x → Contains xs x) → (b : Bool) → cond b (Some y) (find p xs) ≡ Some x → Contains (y ∷ xs) x
      go rest true e = cons-first xs y x (cc)
      go rest false e = cons-later xs y x (rest e)

  -- the first that passes the weaker test passes the stronger: it is the first of both
  find-both : (p q : A → Bool) (xs : List A) → ((x : A) → Contains xs x → p x ≡ true → q x ≡ true) → MatchOption (find q xs) ⊤ (λ x. p x ≡ true) → find p xs ≡ find q xs
  find-both p q [] within k = refl
  find-both p q (y ∷ xs) within k = go (find-both p q xs (λ x m. within x (cons-later xs y x m))) (p y) refl (q y) refl k
    where
      go : (MatchOption (find q xs) ⊤ (λ x. p x ≡ true) → find p xs ≡ find q xs) → (a : Bool) → p y ≡ a → (b : Bool) → q y ≡ b → MatchOption (cond b (Some y) (find q xs)) ⊤ (λ x. p x ≡ true) → cond a (Some y) (find p xs) ≡ cond b (Some y) (find q xs)
      go rest true pa true qb k = refl
      go rest true pa false qb k = absurd (true≢false (sym (within y (cons-first xs y y refl) pa) ∙ qb))
      go rest false pa true qb k = absurd (true≢false (sym k ∙ pa))
      go rest false pa false qb k = rest k

  unturned : (xs : List A) (x : A) → Contains (reverse xs) x → Contains xs x
  unturned [] x m = m
  unturned (y ∷ xs) x m = ⊎_elim (λ a. cons-later xs y x (unturned xs x a)) (λ a. ⊎_elim (λ e. cons-first xs y x e) (λ n. nothing n) (cons-cases [] y x a))
      (append-cases (reverse xs) (y ∷ []) x (subst (λ (l : List A). Contains l x) (reverse-append (y ∷ []) xs) m))

false-from : (b : Bool) → (b ≡ true → ⊥) → b ≡ false
false-from true k = absurd (k refl)
false-from false k = refl

module _ {ID : Type 0} {eq : ID → ID → Bool} (laws : IsEquivalence eq) where
  leads-alike : (i j : ID) (edges : List (GraphEdge ID)) → eq i j ≡ true → list_any (leads_to eq i) edges ≡ list_any (leads_to eq j) edges
  leads-alike i j [] e = refl
  leads-alike i j (x ∷ edges) e = ap (λ b. (is_in_graph x.edge_type && b) || list_any (leads_to eq i) edges) (congr-right laws i j x.target e) ∙ ap (λ b. leads_to eq j x || b) (leads-alike i j edges e)

  target-leads : (edges : List (GraphEdge ID)) (t : ID) → Contains (targets_of edges) t → list_any (leads_to eq t) edges ≡ true
  target-leads [] t m = nothing m
  target-leads (x ∷ edges) t m = go (target-leads edges t) (is_in_graph x.edge_type) refl m
    where
      go : (Contains (targets_of edges) t → list_any (leads_to eq t) edges ≡ true) → (b : Bool) → is_in_graph x.edge_type ≡ b
          → Contains (map (λ e. e.target) (cond b (x ∷ filter (λ e. is_in_graph e.edge_type) edges) (filter (λ e. is_in_graph e.edge_type) edges))) t → (leads_to eq t x || list_any (leads_to eq t) edges) ≡ true
      go rest true shown m = ⊎_elim (λ s. or_left (leads_to eq t x) (list_any (leads_to eq t) edges) (ap (λ b. b && eq x.target t) shown ∙ ap (λ y. eq y t) s ∙ laws.refl t))
          (λ l. or_right (leads_to eq t x) (list_any (leads_to eq t) edges) (rest l)) (cons-cases (targets_of edges) x.target t m)
      go rest false shown m = or_right (leads_to eq t x) (list_any (leads_to eq t) edges) (rest m)

module _ {N ID : Type 0} {eq : ID → ID → Bool} (laws : IsEquivalence eq) where
  pub apart-rest : (xs ys : List (Entry N ID)) → AreApart eq (xs ++ ys) → AreApart eq ys
  apart-rest [] ys k = k
  apart-rest (x ∷ xs) ys k = apart-rest xs ys k.1

  append-later : (xs ys : List (Entry N ID)) (y : Entry N ID) → Contains ys y → Contains (xs ++ ys) y
  append-later [] ys y m = m
  append-later (x ∷ xs) ys y m = cons-later (xs ++ ys) x y (append-later xs ys y m)

  -- none has an edge to an older node
  order-later : (xs ys : List (Entry N ID)) (x y : Entry N ID) → AreReadChildFirst eq (xs ++ ys) → Contains xs x → Contains ys y → list_any (leads_to eq y.id) x.edges ≡ false
  order-later [] ys x y k m n = nothing m
  order-later (z ∷ xs) ys x y k m n = ⊎_elim (λ e. ap (λ w. list_any (leads_to eq y.id) w.edges) (sym e) ∙ k.0 y (append-later (z ∷ xs) ys y n)) (λ l. order-later xs ys x y k.1 l n) (cons-cases xs z x m)

  no-loop : (xs : List (Entry N ID)) (x : Entry N ID) → AreReadChildFirst eq xs → Contains xs x → list_any (leads_to eq x.id) x.edges ≡ false
  no-loop [] x k m = nothing m
  no-loop (z ∷ xs) x k m = ⊎_elim (λ e. ap (λ w. list_any (leads_to eq w.id) w.edges) (sym e) ∙ k.0 z (cons-first xs z z refl)) (λ l. no-loop xs x k.1 l) (cons-cases xs z x m)

  has-alike : (es : List (Entry N ID)) (i j : ID) → eq i j ≡ true → has_node eq es i ≡ has_node eq es j
  has-alike [] i j e = refl
  has-alike (f ∷ es) i j e = ap (λ b. b || has_node eq es i) (congr-right laws i j f.id e) ∙ ap (λ b. eq f.id j || b) (has-alike es i j e)

  ready-alike : (nodes yielded : List (Entry N ID)) (i j : ID) → eq i j ≡ true → is_ready eq nodes yielded i ≡ is_ready eq nodes yielded j
  ready-alike [] yielded i j e = refl
  ready-alike (f ∷ nodes) yielded i j e =
      ap (λ b. (not b || has_node eq yielded f.id) && is_ready eq nodes yielded i) (leads-alike laws i j f.edges e) ∙ ap (λ b. (not (list_any (leads_to eq j) f.edges) || has_node eq yielded f.id) && b) (ready-alike nodes yielded i j e)

  found-node : (es : List (Entry N ID)) (f : Entry N ID) (i : ID) → Contains es f → eq f.id i ≡ true → find (λ e. eq e.id i) es ≡ None → ⊥
  found-node es f i m e none = true≢false (sym e ∙ none-found laws i es f none m)

  pub pending-read : (h : History N ID) (e : Entry N ID) → Contains (pending_nodes eq h) e → Contains (read_nodes h) e
  pending-read [] e m = m
  pending-read (Prioritized i ∷ h) e m = pending-read h e m
  pending-read (Read f ∷ h) e m = ⊎_elim (λ s. cons-first (read_nodes h) f e s) (λ l. cons-later (read_nodes h) f e (pending-read h e l)) (cons-cases (pending_nodes eq h) f e m)
  pending-read (Yielded f ∷ h) e m = pending-read h e (filtered (λ g. not (eq f.id g.id)) (pending_nodes eq h) e m)

  yielded-read : (h : History N ID) (e : Entry N ID) → IsHistory eq h → Contains (yielded_nodes h) e → Contains (read_nodes h) e
  yielded-read [] e k m = m
  yielded-read (Prioritized i ∷ h) e k m = yielded-read h e k m
  yielded-read (Read f ∷ h) e k m = cons-later (read_nodes h) f e (yielded-read h e k.1 m)
  yielded-read (Yielded f ∷ h) e k m = ⊎_elim (λ s. pending-read h e (found-in (λ g. eq g.id f.id) (pending_nodes eq h) e (k.0.pending ∙ ap (λ x. Some x) s))) (λ l. yielded-read h e k.1 l) (cons-cases (yielded_nodes h) f e m)

  none-after : (b : Bool) (o : Option (Entry N ID)) → (b ≡ true) ⊎ (o ≡ None) → cond b None o ≡ None
  none-after true o k = refl
  none-after false o (inl e) = no-false e
  none-after false o (inr e) = e

  -- a yielded node is no longer pending
  yielded-gone : (h : History N ID) (e : Entry N ID) → AreApart eq (read_nodes h) → IsHistory eq h → Contains (yielded_nodes h) e → pending_at eq h e.id ≡ None
  yielded-gone [] e apart k m = nothing m
  yielded-gone (Prioritized i ∷ h) e apart k m = yielded-gone h e apart k m
  yielded-gone (Read f ∷ h) e apart k m =
      let other : eq f.id e.id ≡ false = false-from (eq f.id e.id) (λ s. true≢false (sym (any-at (λ g. eq g.id f.id) (read_nodes h) e (yielded-read h e k.1 m) (laws.symm e.id f.id ∙ s)) ∙ apart.0)) in
      ap (λ b. cond b (Some f) (pending_at eq h e.id)) other ∙ yielded-gone h e apart.1 k.1 m
  yielded-gone (Yielded f ∷ h) e apart k m =
      find-others eq laws f.id e.id (pending_nodes eq h) ∙ none-after (eq f.id e.id) (pending_at eq h e.id)
      (⊎_elim (λ s. inl (ap (λ x. eq f.id x.id) (sym s) ∙ laws.refl f.id)) (λ l. inr (yielded-gone h e apart k.1 l)) (cons-cases (yielded_nodes h) f e m))

  newest-last : (h : History N ID) → last_edges h ≡ newest_edges (yielded_nodes h)
  newest-last [] = refl
  newest-last (Prioritized i ∷ h) = newest-last h
  newest-last (Read e ∷ h) = newest-last h
  newest-last (Yielded e ∷ h) = refl

  -- an edge that was read makes its target required until it is yielded
  read-required : (h : History N ID) (c : Entry N ID) (t : ID) → Contains (read_nodes h) c → list_any (leads_to eq t) c.edges ≡ true → ((f : Entry N ID) → Contains (yielded_nodes h) f → eq f.id t ≡ false) → is_required eq h t ≡ true
  read-required [] c t m e none = nothing m
  read-required (Prioritized i ∷ h) c t m e none = or_right (eq i t) (is_required eq h t) (read-required h c t m e none)
  read-required (Read f ∷ h) c t m e none = ⊎_elim (λ s. or_left (list_any (leads_to eq t) f.edges) (is_required eq h t) (ap (λ x. list_any (leads_to eq t) x.edges) s ∙ e))
      (λ l. or_right (list_any (leads_to eq t) f.edges) (is_required eq h t) (read-required h c t l e none)) (cons-cases (read_nodes h) f c m)
  read-required (Yielded f ∷ h) c t m e none =
      ap (λ b. not b && is_required eq h t) (none f (cons-first (yielded_nodes h) f f refl)) ∙ read-required h c t m e (λ g n. none g (cons-later (yielded_nodes h) f g n))

  -- a node that leads to a yielded node was yielded before
  grouped-children : (nodes yielded : List (Entry N ID)) (f c : Entry N ID) → AreGrouped eq nodes yielded → Contains yielded f → Contains nodes c → list_any (leads_to eq f.id) c.edges ≡ true → has_node eq yielded c.id ≡ true
  grouped-children nodes [] f c k m n e = nothing m
  grouped-children nodes (g ∷ yielded) f c k m n e = ⊎_elim
      (λ s. or_right (eq g.id c.id) (has_node eq yielded c.id) (implied (list_any (leads_to eq g.id) c.edges) (has_node eq yielded c.id) (ap (λ x. list_any (leads_to eq x.id) c.edges) s ∙ e) (all-at (λ d. not (list_any (leads_to eq g.id) d.edges) || has_node eq yielded d.id) nodes c k.0.ready n)))
      (λ l. or_right (eq g.id c.id) (has_node eq yielded c.id) (grouped-children nodes yielded f c k.1 l n e)) (cons-cases yielded g f m)
    where
      implied : (a b : Bool) → a ≡ true → (not a || b) ≡ true → b ≡ true
      implied true b e k = k
      implied false b e k = no-false e

  module _ (nodes : List (Entry N ID)) (apart : AreApart eq nodes) (order : AreReadChildFirst eq nodes) where
    grouped-ready : (h : History N ID) (newer : List (Entry N ID)) (i : ID) (e : Entry N ID) → nodes ≡ newer ++ read_nodes h → IsHistory eq h → Contains (read_nodes h) e → eq e.id i ≡ true → pending_in_degree eq h i ≡ 0
        → is_ready eq nodes (yielded_nodes h) i ≡ true
    grouped-ready h newer i e all k m same none = all-from (λ c. not (list_any (leads_to eq i) c.edges) || has_node eq (yielded_nodes h) c.id) nodes (λ c n. one c n (list_any (leads_to eq i) c.edges) refl)
      where
        yielded : (c : Entry N ID) → Contains nodes c → list_any (leads_to eq i) c.edges ≡ true → has_node eq (yielded_nodes h) c.id ≡ true
        yielded c n leads = ⊎_elim
            (λ new. no-false (sym (order-later newer (read_nodes h) c e (subst (λ (l : List (Entry N ID)). AreReadChildFirst eq l) all order) new m) ∙ leads-alike laws e.id i c.edges same ∙ leads))
            (λ old. ⊎_elim (λ g. any-at (λ x. eq x.id c.id) (yielded_nodes h) c g (laws.refl c.id)) (λ a. let pos = edge-counts laws i (pending_nodes eq h) c a leads in absurd (omega (arith, pos, none))) (read-yielded_or_held laws h k c old))
            (append-cases newer (read_nodes h) c (subst (λ (l : List (Entry N ID)). Contains l c) all n))

        one : (c : Entry N ID) → Contains nodes c → (b : Bool) → list_any (leads_to eq i) c.edges ≡ b → (not (list_any (leads_to eq i) c.edges) || has_node eq (yielded_nodes h) c.id) ≡ true
        one c n true leads = or_right (not (list_any (leads_to eq i) c.edges)) (has_node eq (yielded_nodes h) c.id) (yielded c n leads)
        one c n false leads = or_left (not (list_any (leads_to eq i) c.edges)) (has_node eq (yielded_nodes h) c.id) (ap not leads)

    -- a ready target of the last node is unblocked
    grouped-free : (h : History N ID) (newer : List (Entry N ID)) (t : ID) → nodes ≡ newer ++ read_nodes h → IsHistory eq h → AreGrouped eq nodes (yielded_nodes h) → Contains (targets_of (newest_edges (yielded_nodes h))) t
        → is_ready eq nodes (yielded_nodes h) t ≡ true → is_unblocked eq h t ≡ true
    grouped-free h newer t all k grouped target ready = ap (λ b. b && (pending_in_degree eq h t == 0)) (or_left (is_required eq h t) (is_some (pending_at eq h t)) (required (yielded_nodes h) refl grouped target)) ∙ eq-eqb (pending_in_degree eq h t) 0 childless
      where
        in-nodes : (c : Entry N ID) → Contains (read_nodes h) c → Contains nodes c
        in-nodes c m = subst (λ (l : List (Entry N ID)). Contains l c) (sym all) (append-later newer (read_nodes h) c m)

        read-apart : AreApart eq (read_nodes h)
        read-apart = apart-rest newer (read_nodes h) (subst (λ (l : List (Entry N ID)). AreApart eq l) all apart)

        required : (yielded : List (Entry N ID)) → yielded_nodes h ≡ yielded → AreGrouped eq nodes yielded → Contains (targets_of (newest_edges yielded)) t → is_required eq h t ≡ true
        required [] same g m = nothing m
        required (a ∷ older) same g m =
            let leads : list_any (leads_to eq t) a.edges ≡ true = target-leads laws a.edges t m in
            let was : Contains (read_nodes h) a = yielded-read h a k (subst (λ (l : List (Entry N ID)). Contains l a) (sym same) (cons-first older a a refl)) in
            read-required h a t was leads (λ f n. false-from (eq f.id t) (λ e.
            let to_f : list_any (leads_to eq f.id) a.edges ≡ true = leads-alike laws f.id t a.edges e ∙ leads in
            ⊎_elim (λ s. true≢false (sym (ap (λ x. list_any (leads_to eq x.id) a.edges) s ∙ to_f) ∙ no-loop nodes a order (in-nodes a was)))
            (λ l. true≢false (sym (grouped-children nodes older f a g.1 l (in-nodes a was) to_f) ∙ g.0.new))
            (cons-cases older a f (subst (λ (l : List (Entry N ID)). Contains l f) same n))))

        childless : pending_in_degree eq h t ≡ 0
        childless = go (pending_in_degree eq h t) refl
          where
            go : (n : ℕ) → pending_in_degree eq h t ≡ n → pending_in_degree eq h t ≡ 0
            go zero e = e
            go (suc n) e =
                let more = edge-counted laws t (pending_nodes eq h) (omega (arith, e)) in
                let c = edge-entry laws (pending_nodes eq h) more.0 t more.1 in
                let n = in-nodes c.0 (pending-read h c.0 c.1) in
                let was = all-at (λ d. not (list_any (leads_to eq t) d.edges) || has_node eq (yielded_nodes h) d.id) nodes c.0 ready n in
                let yielded = any-from (λ x. eq x.id c.0.id) (yielded_nodes h) (⊎_elim (λ no. absurd (true≢false (sym no ∙ ap not c.3))) (λ yes. yes) (or_cases (not (list_any (leads_to eq t) c.0.edges)) (has_node eq (yielded_nodes h) c.0.id) was)) in
                let gone : pending_at eq h yielded.0.id ≡ None = yielded-gone h yielded.0 read-apart k yielded.1 in
                absurd (found-node (pending_nodes eq h) c.0 yielded.0.id c.1 (laws.symm c.0.id yielded.0.id ∙ yielded.2) gone)

    -- each node was yielded in its order
    pub grouped-history : (h : History N ID) (newer : List (Entry N ID)) → nodes ≡ newer ++ read_nodes h → IsHistory eq h → AreGrouped eq nodes (yielded_nodes h)
    grouped-history [] newer all k = tt
    grouped-history (Prioritized i ∷ h) newer all k = grouped-history h newer all k
    grouped-history (Read e ∷ h) newer all k = grouped-history h (newer ++ e ∷ []) (all ∙ sym (push newer)) k.1
      where
        push : (xs : List (Entry N ID)) → (xs ++ e ∷ []) ++ read_nodes h ≡ xs ++ e ∷ read_nodes h
        push [] = refl
        push (x ∷ xs) = ap (λ l. x ∷ l) (push xs)
    grouped-history (Yielded e ∷ h) newer all k =
        let before = grouped-history h newer all k.1 in
        let at : Contains (pending_nodes eq h) e = found-in (λ g. eq g.id e.id) (pending_nodes eq h) e k.0.pending in
        let was : Contains (read_nodes h) e = pending-read h e at in
        let read_apart = apart-rest newer (read_nodes h) (subst (λ (l : List (Entry N ID)). AreApart eq l) all apart) in
        let ready = grouped-ready h newer e.id e all k.1 was (laws.refl e.id) k.0.childless in (
          record {
            node = subst (λ (l : List (Entry N ID)). Contains l e) (sym all) (append-later newer (read_nodes h) e was);
            new = false-from (has_node eq (yielded_nodes h) e.id) (λ y. let d = any-from (λ x. eq x.id e.id) (yielded_nodes h) y in
                found-node (pending_nodes eq h) e d.0.id at (laws.symm e.id d.0.id ∙ d.2) (yielded-gone h d.0 read_apart k.1 d.1));
            ready = ready;
            follows = follows before ready;
          },
          before,
        )
      where
        turned : List ID
        turned = reverse (targets_of (newest_edges (yielded_nodes h)))

        same : last_unblocked eq h ≡ find (is_unblocked eq h) (reverse (targets_of (newest_edges (yielded_nodes h))))
        same = ap (λ l. find (is_unblocked eq h) (reverse (targets_of l))) (newest-last h)

        known : MatchOption (find (is_unblocked eq h) (reverse (targets_of (newest_edges (yielded_nodes h))))) ⊤ (λ i. eq i e.id ≡ true)
        known = subst (λ (o : Option ID). MatchOption o ⊤ (λ i. eq i e.id ≡ true)) same k.0.follows

        follows : AreGrouped eq nodes (yielded_nodes h) → is_ready eq nodes (yielded_nodes h) e.id ≡ true → MatchOption (find (is_ready eq nodes (yielded_nodes h)) (reverse (targets_of (newest_edges (yielded_nodes h))))) ⊤ (λ i. eq i e.id ≡ true)
        follows before ready =
            subst (λ (o : Option ID). MatchOption o ⊤ (λ i. eq i e.id ≡ true)) (sym (find-both (is_ready eq nodes (yielded_nodes h)) (is_unblocked eq h) (reverse (targets_of (newest_edges (yielded_nodes h))))
            (λ t m r. grouped-free h newer t all k.1 before (unturned (targets_of (newest_edges (yielded_nodes h))) t m) r)
            (weaker (find (is_unblocked eq h) (reverse (targets_of (newest_edges (yielded_nodes h))))) known))) known
          where
            weaker : (o : Option ID) → MatchOption o ⊤ (λ i. eq i e.id ≡ true) → MatchOption o ⊤ (λ i. is_ready eq nodes (yielded_nodes h) i ≡ true)
            weaker None m = tt
            weaker (Some i) m = ready-alike nodes (yielded_nodes h) i e.id m ∙ ready

  -- an id is required since it was prioritized or an edge to it was read
  required-from : (h : History N ID) (i : ID) → is_required eq h i ≡ true → ((j : ID) × Contains (prioritized_ids h) j × (eq j i ≡ true)) ⊎ ((c : Entry N ID) × Contains (read_nodes h) c × (list_any (leads_to eq i) c.edges ≡ true))
  required-from [] i w = no-false w
  required-from (Prioritized j ∷ h) i w = ⊎_elim (λ e. inl (j, cons-first (prioritized_ids h) j j refl, e))
      (λ l. ⊎_elim (λ (k, m, e). inl (k, cons-later (prioritized_ids h) j k m, e)) (λ c. inr c) (required-from h i l)) (or_cases (eq j i) (is_required eq h i) w)
  required-from (Read e ∷ h) i w = ⊎_elim (λ a. inr (e, cons-first (read_nodes h) e e refl, a))
      (λ l. ⊎_elim (λ p. inl p) (λ (c, m, a). inr (c, cons-later (read_nodes h) e c m, a)) (required-from h i l)) (or_cases (list_any (leads_to eq i) e.edges) (is_required eq h i) w)
  required-from (Yielded e ∷ h) i w = required-from h i (and_right (not (eq e.id i)) (is_required eq h i) w)

  -- no id is required after its node was yielded
  yielded-unwanted : (h : History N ID) (f : Entry N ID) (i : ID) → IsHistory eq h → PrioritizesFirst h → AreReadChildFirst eq (read_nodes h) → Contains (yielded_nodes h) f → eq f.id i ≡ true → is_required eq h i ≡ true → ⊥
  yielded-unwanted [] f i k first order m e w = no-false w
  yielded-unwanted (Prioritized j ∷ h) f i k first order m e w = nothing (subst (λ (l : List (Entry N ID)). Contains l f) first.0 (yielded-read h f k m))
  yielded-unwanted (Read c ∷ h) f i k first order m e w = ⊎_elim
      (λ a. true≢false (sym (leads-alike laws f.id i c.edges e ∙ a) ∙ order.0 f (cons-later (read_nodes h) c f (yielded-read h f k.1 m))))
      (λ l. yielded-unwanted h f i k.1 first order.1 m e l) (or_cases (list_any (leads_to eq i) c.edges) (is_required eq h i) w)
  yielded-unwanted (Yielded c ∷ h) f i k first order m e w = ⊎_elim
      (λ s. true≢false (sym (and_left (not (eq c.id i)) (is_required eq h i) w) ∙ ap not (ap (λ x. eq x.id i) s ∙ e)))
      (λ l. yielded-unwanted h f i k.1 first order l e (and_right (not (eq c.id i)) (is_required eq h i) w)) (cons-cases (yielded_nodes h) c f m)

  some-pending : (h : History N ID) (f : Entry N ID) (i : ID) → Contains (pending_nodes eq h) f → eq f.id i ≡ true → is_some (pending_at eq h i) ≡ true
  some-pending h f i m e = go (pending_at eq h i) refl
    where
      go : (o : Option (Entry N ID)) → pending_at eq h i ≡ o → is_some o ≡ true
      go None none = absurd (found-node (pending_nodes eq h) f i m e none)
      go (Some x) some = refl

  -- once the input is read, each required node is pending
  pub none-missing : (h : History N ID) (i : ID) → IsHistory eq h → PrioritizesFirst h → IsWhole eq (read_nodes h) → ((j : ID) → Contains (prioritized_ids h) j → has_node eq (read_nodes h) j ≡ true)
      → is_required eq h i ≡ true → pending_at eq h i ≡ None → ⊥
  none-missing h i k first whole among required none =
      let known : has_node eq (read_nodes h) i ≡ true = ⊎_elim (λ (j, m, e). sym (has-alike (read_nodes h) j i e) ∙ among j m) (λ (c, m, e). whole.closed c i m e) (required-from h i required) in
      let f = any-from (λ e. eq e.id i) (read_nodes h) known in
      ⊎_elim (λ g. yielded-unwanted h f.0 i k first whole.child_first g f.2 required) (λ a. found-node (pending_nodes eq h) f.0 i a f.2 none) (read-yielded_or_held laws h k f.0 f.1)

  -- a node that is read is not pending
  pub none-twice : (h : History N ID) (e : Entry N ID) → has_node eq (read_nodes h) e.id ≡ false → is_some (pending_at eq h e.id) ≡ true → ⊥
  none-twice h e apart some = go (pending_at eq h e.id) refl some
    where
      go : (o : Option (Entry N ID)) → pending_at eq h e.id ≡ o → is_some o ≡ true → ⊥
      go None at s = no-false s
      go (Some f) at s = true≢false (sym (any-at (λ x. eq x.id e.id) (read_nodes h) f (pending-read h f (found-in (λ x. eq x.id e.id) (pending_nodes eq h) f at)) (find-passes eq (λ x. eq x.id e.id) (pending_nodes eq h) f at)) ∙ apart)

  -- some pending node has no pending child
  pub none-stuck : (h : History N ID) → AreReadChildFirst eq (read_nodes h) → (pending_nodes eq h ≡ [] → ⊥) → ((i : ID) → is_some (pending_at eq h i) ≡ true → pending_in_degree eq h i ≡ 0 → ⊥) → ⊥
  none-stuck h order some stuck = start (pending_nodes eq h) refl
    where
      above : (i : ID) → is_some (pending_at eq h i) ≡ true → (c : Entry N ID) × Contains (pending_nodes eq h) c × (list_any (leads_to eq i) c.edges ≡ true)
      above i s = go (pending_in_degree eq h i) refl
        where
          go : (n : ℕ) → pending_in_degree eq h i ≡ n → (c : Entry N ID) × Contains (pending_nodes eq h) c × (list_any (leads_to eq i) c.edges ≡ true)
          go zero e = absurd (stuck i s e)
          go (suc n) e =
              let more = edge-counted laws i (pending_nodes eq h) (omega (arith, e)) in
              let c = edge-entry laws (pending_nodes eq h) more.0 i more.1 in
              (c.0, c.1, c.3)

      start : (l : List (Entry N ID)) → pending_nodes eq h ≡ l → ⊥
      start [] e = some e
      start (f ∷ l) e =
          let at : Contains (pending_nodes eq h) f = subst (λ (x : List (Entry N ID)). Contains x f) (sym e) (cons-first l f f refl) in
          circle-free laws (read_nodes h) order (λ i. is_some (pending_at eq h i))
          (λ g m s. let c = above g.id s in (c.0, pending-read h c.0 c.1, c.2, some-pending h c.0 c.0.id c.1 (laws.refl c.0.id)))
          f (pending-read h f at) (some-pending h f f.id at (laws.refl f.id))

  -- the first reaches the required id
  first-reaches : (h : History N ID) (e : Entry N ID) (i : ID) → IsHistory eq h → AreReadChildFirst eq (read_nodes h) → IsOldest (yielded_nodes h) e → first_prioritized h ≡ Some i → ReachesId eq (has_edge eq (read_nodes h)) e.id i
  first-reaches [] e i k order oldest first = absurd oldest
  first-reaches (Prioritized j ∷ []) e i k order oldest first = absurd oldest
  first-reaches (Prioritized j ∷ event ∷ h) e i k order oldest first = first-reaches (event ∷ h) e i k order oldest first
  first-reaches (Read f ∷ h) e i k order oldest first =
      reaches-more laws (has_edge eq (read_nodes h)) (has_edge eq (read_nodes (Read f ∷ h))) (λ x y a. or_right (eq f.id x && list_any (leads_to eq y) f.edges) (has_edge eq (read_nodes h) x y) a) e.id i
      (first-reaches h e i k.1 order.1 oldest first)
  first-reaches (Yielded f ∷ h) e i k order oldest first = go (yielded_nodes h) refl oldest (λ o. first-reaches h e i k.1 order o first)
    where
      go : (yielded : List (Entry N ID)) → yielded_nodes h ≡ yielded → IsOldest (f ∷ yielded) e → (IsOldest (yielded_nodes h) e → ReachesId eq (has_edge eq (read_nodes h)) e.id i) → ReachesId eq (has_edge eq (read_nodes h)) e.id i
      go [] none same below = subst (λ (x : Entry N ID). ReachesId eq (has_edge eq (read_nodes h)) x.id i) same (k.0.first none order i first)
      go (g ∷ yielded) more o below = below (subst (λ (l : List (Entry N ID)). IsOldest l e) (sym more) o)

  -- a whole run yields a grouped order
  pub grouped-order : (h : History N ID) → IsHistory eq h → IsWhole eq (read_nodes h) → pending_nodes eq h ≡ [] → IsGroupedOrder eq (read_nodes h) (first_prioritized h) (yielded_nodes h)
  grouped-order h k whole none = record {
    all = λ e m. read-yielded laws h k none e m;
    grouped = grouped-history (read_nodes h) whole.apart whole.child_first h [] refl k;
    first = λ e i oldest first. first-reaches h e i k whole.child_first oldest first;
  }
