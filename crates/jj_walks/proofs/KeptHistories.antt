-- Maps and lists that represent a history, as it grows.
use Rattle.std.proofs.Common.{arith, ◌≡◌, ℕ, ◌+◌, ◌-◌, ◌<◌, Bool, true, false, not, cond, ◌||◌, ◌&&◌, ◌==◌, ◌⊎◌, inl, inr, Option, None, Some, is_some, MatchOption, List, [], ◌∷◌, ◌++◌, map, filter, find, reverse, length, count_by, refl, sym, ◌∙◌, ap, subst, true≢false, append_assoc, append-nil, ⊎_elim}
use Rattle.std.specs.Prelude.{⊤}
use Rattle.std.proofs.lemmas.Bool.Decides.{nat_tests}
use borrow.Author.Tests.{eqb-true, eqb-false, eq-eqb}
use Rattle.std.specs.Cmp.{IsEquivalence}
use Rattle.std.specs.Option.{option_map}
use Rattle.std.specs.List.{list_any, list_all}
use Rattle.std.proofs.lemmas.List.{reverse-append, same_from_push}
use Rattle.std.proofs.lemmas.List.Elements.{AllZip-push}
use Rattle.std.proofs.lemmas.List.Sums.{sum_by-cons}
use Rattle.std.proofs.lemmas.List.Folds.{list_any-append}
use Rattle.jj_walks.specs.declared.graph.GraphEdge.{GraphEdge}
use Rattle.jj_walks.specs.Candidates.{AreSameIds, AreToFollow, count_of, has_id, is_listed, is_positive, is_zero}
use Rattle.jj_walks.specs.Grouped.{Entry, History, Prioritized, Read, Yielded, IsOfFirstBranch, pending_in_degree, yielded_nodes, pending_nodes, pending_at, is_unblocked, is_known, is_in_graph, is_required, last_edges, last_unblocked, leads_to, targets_of}
use Rattle.std.specs.HashMap.{hash_map_len}
use Rattle.std.specs.Map.{lookup}
use Rattle.std.specs.Global.{Global}
use Rattle.std.specs.declared.vec.Vec.{Vec}
use Rattle.std.proofs.lemmas.Bool.{or_cases, or_left, or_right}
use Rattle.jj_walks.specs.declared.pending_nodes.PendingNodes.{PendingNodes}
use Rattle.jj_walks.specs.PendingNodes.{Keeps, KeepsHistory, item_of, listed_item}
use Rattle.jj_walks.proofs.CandidateLists.{and_left, and_right, last-or-none, list_all-append, listed-passed}
use Rattle.jj_walks.proofs.HistoryLists.{congr-right, find-passes, find-congr, find-others, edges-of_found, edges-others, pending-unique}

zero-is : (c : Option ℕ) → is_zero c ≡ (is_some c && (count_of c == 0))
zero-is None = refl
zero-is (Some n) = refl

positive-is : (c : Option ℕ) → is_positive c ≡ not (count_of c == 0)
positive-is None = refl
positive-is (Some n) = refl

pub or_true : (a : Bool) → (a || true) ≡ true
or_true true = refl
or_true false = refl

abbrev count_one : Bool → ℕ
count_one b = cond b 1 0

pub none-mapped : {A B : Type 0} (f : A → B) (o : Option A) → option_map f o ≡ None → o ≡ None
none-mapped f None e = refl
none-mapped f (Some x) e = cc

pub zero-from : (c : Option ℕ) → is_some c ≡ true → count_of c ≡ 0 → is_zero c ≡ true
zero-from None s z = absurd (true≢false (sym s))
zero-from (Some n) s z = eq-eqb n 0 z

zero-some : (c : Option ℕ) → is_zero c ≡ true → is_some c ≡ true
zero-some None e = absurd (true≢false (sym e))
zero-some (Some n) e = refl

zero-count : (c : Option ℕ) → is_zero c ≡ true → count_of c ≡ 0
zero-count None e = refl
zero-count (Some n) e = eqb-true n 0 e

counted-some : (c : Option ℕ) → 0 < count_of c → is_some c ≡ true
counted-some None h = absurd (omega arith)
counted-some (Some n) h = refl

pub positive-count : (c : Option ℕ) → is_positive c ≡ true → 0 < count_of c
positive-count None e = absurd (true≢false (sym e))
positive-count (Some n) e = grind (arith, nat_tests)

positive-from : (c : Option ℕ) → 0 < count_of c → is_positive c ≡ true
positive-from None h = absurd (omega arith)
positive-from (Some n) h = grind (arith, nat_tests)

module _ {ID : Type 0} where
  all-more : (p q : ID → Bool) (xs : List ID) → ((x : ID) → p x ≡ true → q x ≡ true) → list_all p xs ≡ true → list_all q xs ≡ true
  all-more p q [] k e = refl
  all-more p q (x ∷ xs) k e =
      ap (λ b. b && list_all q xs) (k x (and_left (p x) (list_all p xs) e)) ∙ all-more p q xs k (and_right (p x) (list_all p xs) e)

  module _ (eq : ID → ID → Bool) where
    pub has_id-append : (xs ys : List ID) (i : ID) → has_id eq (xs ++ ys) i ≡ (has_id eq xs i || has_id eq ys i)
    has_id-append xs ys i = list_any-append (λ j. eq j i) xs ys

    -- after more events, an id with a pending child still has one
    follows-more : (counts more : ID → Option ℕ) (targets found : List ID) → ((i : ID) → is_some (counts i) ≡ true → is_some (more i) ≡ true) → ((i : ID) → is_positive (counts i) ≡ true → is_positive (more i) ≡ true)
        → AreToFollow eq counts targets found → AreToFollow eq more targets found
    follows-more counts more targets found some positive k = record {
      older = k.older;
      pending = k.pending;
      passed = k.passed;
      candidates = k.candidates;
      targets = k.targets;
      known = all-more (λ i. is_some (counts i)) (λ i. is_some (more i)) k.pending some k.known;
      blocked = all-more (λ i. is_positive (counts i)) (λ i. is_positive (more i)) k.passed positive k.blocked;
    }

    pub leads-none : (q : ID) (edges : List (GraphEdge ID)) → list_any (leads_to eq q) edges ≡ true → 0 < count_by (leads_to eq q) edges
    leads-none q [] e = absurd (true≢false (sym e))
    leads-none q (x ∷ edges) e = go (leads-none q edges) (leads_to eq q x) refl e
      where
        whole : count_by (leads_to eq q) (x ∷ edges) ≡ count_one (leads_to eq q x) + count_by (leads_to eq q) edges
        whole = sum_by-cons (λ y. cond (leads_to eq q y) 1 0) x edges

        go : (list_any (leads_to eq q) edges ≡ true → 0 < count_by (leads_to eq q) edges) → (b : Bool) → leads_to eq q x ≡ b → (b || list_any (leads_to eq q) edges) ≡ true → 0 < count_by (leads_to eq q) (x ∷ edges)
        go rest true is k = let one : count_one (leads_to eq q x) ≡ 1 = ap count_one is in omega (arith, whole, one)
        go rest false is k = let below = rest k in omega (arith, whole, below)

    listed-heads : (ids heads more : List ID) (i : ID) → is_listed eq ids heads i ≡ true → is_listed eq ids (heads ++ more) i ≡ true
    listed-heads ids heads more i k =
        ⊎_elim (λ a. or_left (has_id eq ids i) (has_id eq (heads ++ more) i) a)
        (λ a. or_right (has_id eq ids i) (has_id eq (heads ++ more) i) (has_id-append heads more i ∙ or_left (has_id eq heads i) (has_id eq more i) a))
        (or_cases (has_id eq ids i) (has_id eq heads i) k)

module _ {ID : Type 0} {eq : ID → ID → Bool} (laws : IsEquivalence eq) where
  find-same : (p q : ID → Bool) (xs : List ID) → ((x : ID) → p x ≡ q x) → find p xs ≡ find q xs
  find-same p q [] k = refl
  find-same p q (x ∷ xs) k = ap (λ b. cond b (Some x) (find p xs)) (k x) ∙ ap (λ o. cond (q x) (Some x) o) (find-same p q xs k)

  all-reverse : (p : ID → Bool) (xs : List ID) → list_all p xs ≡ true → list_all p (reverse xs) ≡ true
  all-reverse p [] e = e
  all-reverse p (x ∷ xs) e =
      ap (list_all p) (reverse-append (x ∷ []) xs) ∙ list_all-append p (reverse xs) (x ∷ [])
      ∙ ap (λ b. b && (p x && true)) (all-reverse p xs (and_right (p x) (list_all p xs) e)) ∙ ap (λ b. b && true) (and_left (p x) (list_all p xs) e)

  same-reverse : (xs ys : List ID) → AreSameIds eq xs ys → AreSameIds eq (reverse xs) (reverse ys)
  same-reverse [] [] k = k
  same-reverse [] (y ∷ ys) k = absurd k
  same-reverse (x ∷ xs) [] k = absurd k
  same-reverse (x ∷ xs) (y ∷ ys) k =
      let longer = AllZip-push (λ i j. eq i j ≡ true) (reverse xs) (reverse ys) x y (same-reverse xs ys k.1) k.0 in
      rw (reverse-append (x ∷ []) xs, reverse-append (y ∷ []) ys) longer

  has_same : (xs ys : List ID) (q : ID) → AreSameIds eq xs ys → has_id eq xs q ≡ has_id eq ys q
  has_same [] [] q k = refl
  has_same [] (y ∷ ys) q k = absurd k
  has_same (x ∷ xs) [] q k = absurd k
  has_same (x ∷ xs) (y ∷ ys) q k = ap (λ b. b || has_id eq xs q) (laws.congr x y q k.0) ∙ ap (λ b. eq y q || b) (has_same xs ys q k.1)

  all_same : (p : ID → Bool) (xs ys : List ID) → ((x y : ID) → eq x y ≡ true → p x ≡ p y) → AreSameIds eq xs ys → list_all p xs ≡ list_all p ys
  all_same p [] [] alike k = refl
  all_same p [] (y ∷ ys) alike k = absurd k
  all_same p (x ∷ xs) [] alike k = absurd k
  all_same p (x ∷ xs) (y ∷ ys) alike k = ap (λ b. b && list_all p xs) (alike x y k.0) ∙ ap (λ b. p y && b) (all_same p xs ys alike k.1)

  -- an id to which edges lead is one of their targets
  target-has : (q : ID) (edges : List (GraphEdge ID)) → 0 < count_by (leads_to eq q) edges → has_id eq (targets_of edges) q ≡ true
  target-has q [] h = absurd (omega arith)
  target-has q (x ∷ edges) h = go (target-has q edges) (is_in_graph x.edge_type) refl (eq x.target q) refl
    where
      whole : count_by (leads_to eq q) (x ∷ edges) ≡ count_one (leads_to eq q x) + count_by (leads_to eq q) edges
      whole = sum_by-cons (λ y. cond (leads_to eq q y) 1 0) x edges

      targets : targets_of (x ∷ edges) ≡ cond (is_in_graph x.edge_type) (x.target ∷ targets_of edges) (targets_of edges)
      targets = one (is_in_graph x.edge_type)
        where
          one : (b : Bool) → map (λ e. e.target) (cond b (x ∷ filter (λ e. is_in_graph e.edge_type) edges) (filter (λ e. is_in_graph e.edge_type) edges)) ≡ cond b (x.target ∷ targets_of edges) (targets_of edges)
          one true = refl
          one false = refl

      go : (0 < count_by (leads_to eq q) edges → has_id eq (targets_of edges) q ≡ true) → (b : Bool) → is_in_graph x.edge_type ≡ b → (d : Bool) → eq x.target q ≡ d → has_id eq (targets_of (x ∷ edges)) q ≡ true
      go rest true shown true here =
          ap (λ l. has_id eq l q) (targets ∙ ap (λ b. cond b (x.target ∷ targets_of edges) (targets_of edges)) shown) ∙ ap (λ b. b || has_id eq (targets_of edges) q) here
      go rest true shown false other =
          let none : count_one (leads_to eq q x) ≡ 0 = ap (λ b. count_one (b && eq x.target q)) shown ∙ ap count_one other in
          ap (λ l. has_id eq l q) (targets ∙ ap (λ b. cond b (x.target ∷ targets_of edges) (targets_of edges)) shown) ∙ or_right (eq x.target q) (has_id eq (targets_of edges) q) (rest (omega (arith, whole, none)))
      go rest false shown d e =
          let none : count_one (leads_to eq q x) ≡ 0 = ap (λ b. count_one (b && eq x.target q)) shown in
          ap (λ l. has_id eq l q) (targets ∙ ap (λ b. cond b (x.target ∷ targets_of edges) (targets_of edges)) shown) ∙ rest (omega (arith, whole, none))

  -- a property of every id to which edges lead is one of their targets
  targets-all : (p : ID → Bool) (edges : List (GraphEdge ID)) → ((q : ID) → 0 < count_by (leads_to eq q) edges → p q ≡ true) → list_all p (targets_of edges) ≡ true
  targets-all p [] k = refl
  targets-all p (x ∷ edges) k = go (targets-all p edges (λ q h. let w = whole q in k q (omega (arith, w, h)))) (is_in_graph x.edge_type) refl
    where
      whole : (q : ID) → count_by (leads_to eq q) (x ∷ edges) ≡ count_one (leads_to eq q x) + count_by (leads_to eq q) edges
      whole q = sum_by-cons (λ y. cond (leads_to eq q y) 1 0) x edges

      targets : (b : Bool) → map (λ e. e.target) (cond b (x ∷ filter (λ e. is_in_graph e.edge_type) edges) (filter (λ e. is_in_graph e.edge_type) edges)) ≡ cond b (x.target ∷ targets_of edges) (targets_of edges)
      targets true = refl
      targets false = refl

      go : list_all p (targets_of edges) ≡ true → (b : Bool) → is_in_graph x.edge_type ≡ b → list_all p (targets_of (x ∷ edges)) ≡ true
      go rest true shown =
          let one : count_one (leads_to eq x.target x) ≡ 1 = ap (λ b. count_one (b && eq x.target x.target)) shown ∙ ap count_one (laws.refl x.target) in
          let w = whole x.target in
          ap (list_all p) (targets (is_in_graph x.edge_type) ∙ ap (λ b. cond b (x.target ∷ targets_of edges) (targets_of edges)) shown)
          ∙ ap (λ b. b && list_all p (targets_of edges)) (k x.target (omega (arith, w, one))) ∙ rest
      go rest false shown = ap (list_all p) (targets (is_in_graph x.edge_type) ∙ ap (λ b. cond b (x.target ∷ targets_of edges) (targets_of edges)) shown) ∙ rest

  module _ (count : ID → Option ℕ) (alike : (x y : ID) → eq x y ≡ true → count x ≡ count y) where
    -- those with a pending child are skipped
    find-blocked : (ts ps qs : List ID) → AreSameIds eq ts (ps ++ qs) → list_all (λ i. is_positive (count i)) ps ≡ true
        → (us : List ID) × AreSameIds eq us qs × (find (λ i. is_zero (count i)) ts ≡ find (λ i. is_zero (count i)) us)
    find-blocked ts [] qs k all = (ts, k, refl)
    find-blocked [] (p ∷ ps) qs k all = absurd k
    find-blocked (t ∷ ts) (p ∷ ps) qs k all =
        let below = find-blocked ts ps qs k.1 (and_right (is_positive (count p)) (list_all (λ i. is_positive (count i)) ps) all) in
        let no_zero : is_zero (count t) ≡ false = ap is_zero (alike t p k.0) ∙ not_zero (count p) (and_left (is_positive (count p)) (list_all (λ i. is_positive (count i)) ps) all) in
        (below.0, below.1, ap (λ b. cond b (Some t) (find (λ i. is_zero (count i)) ts)) no_zero ∙ below.2)
      where
        not_zero : (o : Option ℕ) → is_positive o ≡ true → is_zero o ≡ false
        not_zero None e = absurd (true≢false (sym e))
        not_zero (Some n) e = not_true (n == 0) e
          where
            not_true : (b : Bool) → not b ≡ true → b ≡ false
            not_true true e = sym e
            not_true false e = refl

    -- the last candidate is the last unblocked target, if one is unblocked
    last-found : (targets rest : List ID) (i : ID) → is_zero (count i) ≡ true → AreToFollow eq count targets (rest ++ i ∷ [])
        → MatchOption (find (λ t. is_zero (count t)) (reverse targets)) ⊤ (λ t. eq t i ≡ true)
    last-found targets rest i zero k = go (last-or-none k.pending)
      where
        P : Option ID → Type 0
        P = λ o. MatchOption o ⊤ (λ t. eq t i ≡ true)

        turned : AreSameIds eq (reverse targets) (reverse k.passed ++ reverse k.pending)
        turned = rw (← reverse-append k.pending k.passed) (same-reverse targets (k.pending ++ k.passed) k.targets)

        left : (us : List ID) × AreSameIds eq us (reverse k.pending) × (find (λ i. is_zero (count i)) (reverse targets) ≡ find (λ i. is_zero (count i)) us)
        left = find-blocked (reverse targets) (reverse k.passed) (reverse k.pending) turned (all-reverse (λ i. is_positive (count i)) k.passed k.blocked)

        top : (us : List ID) (y : ID) (ys : List ID) → y ≡ i → AreSameIds eq us (y ∷ ys) → P (find (λ t. is_zero (count t)) us)
        top [] y ys e s = absurd s
        top (u ∷ us) y ys e s = subst P (sym (ap (λ b. cond b (Some u) (find (λ t. is_zero (count t)) us)) (ap is_zero (alike u y s.0) ∙ ap (λ z. is_zero (count z)) e ∙ zero))) (subst (λ z. eq u z ≡ true) e s.0)

        none : (us : List ID) → AreSameIds eq us [] → P (find (λ t. is_zero (count t)) us)
        none [] s = tt
        none (u ∷ us) s = absurd s

        go : (k.pending ≡ []) ⊎ ((front : List ID) × (y : ID) × (k.pending ≡ front ++ y ∷ [])) → P (find (λ t. is_zero (count t)) (reverse targets))
        go (inl e) = subst P (sym left.2) (none left.0 (subst (λ (l : List ID). AreSameIds eq left.0 l) (ap reverse e) left.1))
        go (inr (front, y, e)) =
            let both = same_from_push rest (k.older ++ front) i y (k.candidates ∙ ap (λ l. k.older ++ l) e ∙ sym (append_assoc k.older front (y ∷ []))) in
            subst P (sym left.2) (top left.0 y (reverse front) (sym both.1) (subst (λ (l : List ID). AreSameIds eq left.0 l) (ap reverse e ∙ reverse-append front (y ∷ [])) left.1))

module _ {N ID : Type 0} {eq : ID → ID → Bool} (laws : IsEquivalence eq) where
  -- an id was prioritized
  pub keeps-prioritized : (h : History N ID) (node_at : ID → Option (N × List (GraphEdge ID))) (count more : ID → Option ℕ) (ids heads heads2 : List ID) (i copy : ID) → eq i copy ≡ true
      → ((q : ID) → is_some (more q) ≡ (eq i q || is_some (count q))) → ((q : ID) → count_of (more q) ≡ count_of (count q)) → heads2 ≡ heads ++ copy ∷ []
      → KeepsHistory eq h node_at count ids heads → KeepsHistory eq (Prioritized i ∷ h) node_at more ids heads2
  keeps-prioritized h node_at count more ids heads heads2 i copy same known counts pushed k = record {
    is_history = k.is_history;
    nodes = k.nodes;
    known = λ q. known q ∙ ap (λ b. eq i q || b) (k.known q) ∙ sym (or_assoc (eq i q) (is_required eq h q) (is_some (pending_at eq h q)));
    counts = λ q. counts q ∙ k.counts q;
    listed = λ q zero. rw pushed (go q (eq i q) refl zero);
    follows = follows-more eq count more (targets_of (last_edges h)) ids (λ q e. known q ∙ or_right (eq i q) (is_some (count q)) e)
        (λ q e. positive-is (more q) ∙ ap (λ n. not (n == 0)) (counts q) ∙ sym (positive-is (count q)) ∙ e) k.follows;
  }
    where
      or_assoc : (a b d : Bool) → ((a || b) || d) ≡ (a || (b || d))
      or_assoc true b d = refl
      or_assoc false b d = refl

      go : (q : ID) (b : Bool) → eq i q ≡ b → is_zero (more q) ≡ true → is_listed eq ids (heads ++ copy ∷ []) q ≡ true
      go q true e zero = or_right (has_id eq ids q) (has_id eq (heads ++ copy ∷ []) q)
          (has_id-append eq heads (copy ∷ []) q ∙ or_right (has_id eq heads q) (has_id eq (copy ∷ []) q) (ap (λ b. b || false) (sym (laws.congr i copy q same) ∙ e)))
      go q false e zero =
          let here : is_zero (count q) ≡ true =
          zero-is (count q) ∙ ap (λ b. b && (count_of (count q) == 0)) (sym (known q ∙ ap (λ b. b || is_some (count q)) e)) ∙ ap (λ n. is_some (more q) && (n == 0)) (sym (counts q)) ∙ sym (zero-is (more q)) ∙ zero in
          listed-heads eq ids heads (copy ∷ []) q (k.listed q here)

  -- a node was read
  pub keeps-read : (h : History N ID) (node_at nodes2 : ID → Option (N × List (GraphEdge ID))) (count more : ID → Option ℕ) (ids heads heads2 : List ID) (e : Entry N ID) → node_at e.id ≡ None
      → ((q : ID) → nodes2 q ≡ cond (eq e.id q) (Some (item_of e)) (node_at q))
      → ((q : ID) → is_some (more q) ≡ (eq e.id q || (list_any (leads_to eq q) e.edges || is_some (count q))))
      → ((q : ID) → count_of (more q) ≡ count_of (count q) + count_by (leads_to eq q) e.edges)
      → ((q : ID) → is_listed eq ids heads q ≡ true → is_listed eq ids heads2 q ≡ true)
      → ((q : ID) → eq e.id q ≡ true → (list_any (leads_to eq q) e.edges || is_some (count q)) ≡ true ⊎ (is_listed eq ids heads2 q ≡ true))
      → KeepsHistory eq h node_at count ids heads → KeepsHistory eq (Read e ∷ h) nodes2 more ids heads2
  keeps-read h node_at nodes2 count more ids heads heads2 e absent nodes known counts kept head k = record {
    is_history = (none-mapped item_of (pending_at eq h e.id) (sym (k.nodes e.id) ∙ absent), k.is_history);
    nodes = λ q. nodes q ∙ ap (cond (eq e.id q) (Some (item_of e))) (k.nodes q) ∙ node (eq e.id q) (pending_at eq h q);
    known = λ q. known q ∙ ap (λ b. eq e.id q || (list_any (leads_to eq q) e.edges || b)) (k.known q) ∙ test (eq e.id q) (list_any (leads_to eq q) e.edges) (is_required eq h q) (pending_at eq h q);
    counts = λ q. let whole = sum_by-cons (λ f. count_by (leads_to eq q) f.edges) e (pending_nodes eq h) in let a = counts q in let b = k.counts q in omega (arith, whole, a, b);
    listed = λ q zero. known_listed q zero (eq e.id q) refl;
    follows = follows-more eq count more (targets_of (last_edges h)) ids
        (λ q s. known q ∙ or_right (eq e.id q) (list_any (leads_to eq q) e.edges || is_some (count q)) (or_right (list_any (leads_to eq q) e.edges) (is_some (count q)) s))
        (λ q s. let a = counts q in let b = positive-count (count q) s in positive-from (more q) (omega (arith, a, b))) k.follows;
  }
    where
      node : (b : Bool) (o : Option (Entry N ID)) → cond b (Some (item_of e)) (option_map item_of o) ≡ option_map item_of (cond b (Some e) o)
      node true o = refl
      node false o = refl

      test : (b a w : Bool) (o : Option (Entry N ID)) → (b || (a || (w || is_some o))) ≡ ((a || w) || is_some (cond b (Some e) o))
      test true a w o = sym (or_true (a || w))
      test false true w o = refl
      test false false w o = refl

      before_listed : (q : ID) → is_zero (more q) ≡ true → (list_any (leads_to eq q) e.edges || is_some (count q)) ≡ true → is_listed eq ids heads2 q ≡ true
      before_listed q zero some =
          let none = zero-count (more q) zero in
          let a = counts q in
          ⊎_elim (λ any. let pos = leads-none eq q e.edges any in absurd (omega (arith, none, a, pos)))
          (λ was. let z : count_of (count q) ≡ 0 = omega (arith, none, a) in kept q (k.listed q (zero-from (count q) was z)))
          (or_cases (list_any (leads_to eq q) e.edges) (is_some (count q)) some)

      known_listed : (q : ID) → is_zero (more q) ≡ true → (b : Bool) → eq e.id q ≡ b → is_listed eq ids heads2 q ≡ true
      known_listed q zero true same = ⊎_elim (before_listed q zero) (λ l. l) (head q same)
      known_listed q zero false other = before_listed q zero (ap (λ b. b || (list_any (leads_to eq q) e.edges || is_some (count q))) (sym other) ∙ sym (known q) ∙ zero-some (more q) zero)

  -- a node was yielded
  pub keeps-gave : (h : History N ID) (node_at nodes2 : ID → Option (N × List (GraphEdge ID))) (count more : ID → Option ℕ) (rest added heads : List ID) (i : ID) (e : Entry N ID)
      → ((x y : ID) → eq x y ≡ true → count x ≡ count y) → pending_at eq h i ≡ Some e → is_zero (count i) ≡ true
      → ((q : ID) → nodes2 q ≡ cond (eq i q) None (node_at q))
      → ((q : ID) → is_some (more q) ≡ is_some (cond (eq i q) None (count q)))
      → ((q : ID) → count_of (more q) ≡ count_of (cond (eq i q) None (count q)) - count_by (leads_to eq q) e.edges)
      → AreSameIds eq (targets_of e.edges) added
      → (yielded_nodes h ≡ [] → IsOfFirstBranch eq h e) → KeepsHistory eq h node_at count (rest ++ i ∷ []) heads → KeepsHistory eq (Yielded e ∷ h) nodes2 more (rest ++ added) heads
  keeps-gave h node_at nodes2 count more rest added heads i e alike at zero nodes known counts pushed first k = record {
    is_history = (record { pending = here; childless = sym (k.counts e.id) ∙ ap count_of (alike e.id i same) ∙ zero-count (count i) zero; follows = next; first = first }, k.is_history);
    nodes = λ q. nodes q ∙ ap (cond (eq i q) None) (k.nodes q) ∙ node (eq i q) (pending_at eq h q) ∙ ap (option_map item_of) (sym (after q));
    known = λ q. known q ∙ test (eq i q) (count q) (is_required eq h q) (pending_at eq h q) (k.known q) ∙ ap (λ b. (not b && is_required eq h q) || is_some (cond (eq i q) None (pending_at eq h q))) (sym (other q)) ∙ ap (λ o. (not (eq e.id q) && is_required eq h q) || is_some o) (sym (after q));
    counts = λ q. counts q ∙ left q (eq i q) refl;
    listed = λ q none. listed q none (eq i q) refl;
    follows = record {
      older = rest;
      pending = added;
      passed = [];
      candidates = refl;
      targets = rw append-nil pushed;
      known = sym (all_same laws (λ q. is_some (more q)) (targets_of e.edges) added some_alike pushed) ∙ targets-all laws (λ q. is_some (more q)) e.edges target_known;
      blocked = refl;
    };
  }
    where
      same : eq e.id i ≡ true
      same = find-passes eq (λ f. eq f.id i) (pending_nodes eq h) e at

      here : pending_at eq h e.id ≡ Some e
      here = find-congr eq laws e.id i (pending_nodes eq h) same ∙ at

      other : (q : ID) → eq e.id q ≡ eq i q
      other q = laws.congr e.id i q same

      after : (q : ID) → find (λ f. eq f.id q) (filter (λ f. not (eq e.id f.id)) (pending_nodes eq h)) ≡ cond (eq i q) None (pending_at eq h q)
      after q = find-others eq laws e.id q (pending_nodes eq h) ∙ ap (λ b. cond b None (pending_at eq h q)) (other q)

      free : (q : ID) → is_unblocked eq h q ≡ is_zero (count q)
      free q = ap (λ b. b && (pending_in_degree eq h q == 0)) (sym (k.known q)) ∙ ap (λ n. is_some (count q) && (n == 0)) (sym (k.counts q)) ∙ sym (zero-is (count q))

      next : MatchOption (last_unblocked eq h) ⊤ (λ t. eq t e.id ≡ true)
      next =
          let found = last-found laws count alike (targets_of (last_edges h)) rest i zero k.follows in
          let P : Option ID → Type 0 = λ o. MatchOption o ⊤ (λ t. eq t e.id ≡ true) in
          subst P (sym (find-same laws (is_unblocked eq h) (λ t. is_zero (count t)) (reverse (targets_of (last_edges h))) free)) (weaker (find (λ t. is_zero (count t)) (reverse (targets_of (last_edges h)))) found)
        where
          weaker : (o : Option ID) → MatchOption o ⊤ (λ t. eq t i ≡ true) → MatchOption o ⊤ (λ t. eq t e.id ≡ true)
          weaker None m = tt
          weaker (Some t) m = congr-right laws e.id i t same ∙ m

      node : (b : Bool) (o : Option (Entry N ID)) → cond b None (option_map item_of o) ≡ option_map item_of (cond b None o)
      node true o = refl
      node false o = refl

      test : (b : Bool) (o : Option ℕ) (w : Bool) (f : Option (Entry N ID)) → is_some o ≡ (w || is_some f) → is_some (cond b None o) ≡ ((not b && w) || is_some (cond b None f))
      test true o w f e = refl
      test false o w f e = e

      sum : (q : ID) → pending_in_degree eq (Yielded e ∷ h) q + count_by (leads_to eq q) e.edges ≡ pending_in_degree eq h q
      sum q = edges-others eq laws q e.id (pending_nodes eq h) e (pending-unique eq laws h k.is_history) here

      left : (q : ID) (b : Bool) → eq i q ≡ b → count_of (cond (eq i q) None (count q)) - count_by (leads_to eq q) e.edges ≡ pending_in_degree eq (Yielded e ∷ h) q
      left q true is =
          let a : count_of (cond (eq i q) None (count q)) ≡ 0 = ap (λ b. count_of (cond b None (count q))) is in
          let b : pending_in_degree eq h q ≡ 0 = sym (k.counts q) ∙ ap count_of (sym (alike i q is)) ∙ zero-count (count i) zero in
          let s = sum q in
          omega (arith, a, b, s)
      left q false is =
          let a : count_of (cond (eq i q) None (count q)) ≡ pending_in_degree eq h q = ap (λ b. count_of (cond b None (count q))) is ∙ k.counts q in
          let s = sum q in
          omega (arith, a, s)

      added_listed : (q : ID) → has_id eq added q ≡ true → is_listed eq (rest ++ added) heads q ≡ true
      added_listed q a = or_left (has_id eq (rest ++ added) q) (has_id eq heads q) (has_id-append eq rest added q ∙ or_right (has_id eq rest q) (has_id eq added q) a)

      rest_listed : (q : ID) → is_listed eq rest heads q ≡ true → is_listed eq (rest ++ added) heads q ≡ true
      rest_listed q a =
          ⊎_elim (λ r. or_left (has_id eq (rest ++ added) q) (has_id eq heads q) (has_id-append eq rest added q ∙ or_left (has_id eq rest q) (has_id eq added q) r))
          (λ r. or_right (has_id eq (rest ++ added) q) (has_id eq heads q) r)
          (or_cases (has_id eq rest q) (has_id eq heads q) a)

      listed : (q : ID) → is_zero (more q) ≡ true → (b : Bool) → eq i q ≡ b → is_listed eq (rest ++ added) heads q ≡ true
      listed q none true is = absurd (true≢false (sym (zero-some (more q) none) ∙ known q ∙ ap (λ b. is_some (cond b None (count q))) is))
      listed q none false is =
          let was : is_some (count q) ≡ true = sym (ap (λ b. is_some (cond b None (count q))) is) ∙ sym (known q) ∙ zero-some (more q) none in
          let c : count_of (count q) - count_by (leads_to eq q) e.edges ≡ 0 = sym (ap (λ b. count_of (cond b None (count q)) - count_by (leads_to eq q) e.edges) is) ∙ sym (counts q) ∙ zero-count (more q) none in
          cases (count_of (count q) == 0) refl was c
        where
          cases : (b : Bool) → (count_of (count q) == 0) ≡ b → is_some (count q) ≡ true → count_of (count q) - count_by (leads_to eq q) e.edges ≡ 0 → is_listed eq (rest ++ added) heads q ≡ true
          cases true m was c = rest_listed q (listed-passed eq rest (rest ++ i ∷ []) heads i q refl (λ a. true≢false (sym a ∙ is)) (k.listed q (zero-from (count q) was (eqb-true (count_of (count q)) 0 m))))
          cases false m was c = let n = eqb-false (count_of (count q)) 0 m in added_listed q (sym (has_same laws (targets_of e.edges) added q pushed) ∙ target-has laws q e.edges (omega (arith, n, c)))

      target_known : (q : ID) → 0 < count_by (leads_to eq q) e.edges → is_some (more q) ≡ true
      target_known q pos =
          let below = edges-of_found eq q (λ f. eq f.id e.id) (pending_nodes eq h) e here in
          let counted : 0 < count_of (count q) = let c = k.counts q in omega (arith, pos, below, c) in
          known q ∙ cases (eq i q) refl counted
        where
          cases : (b : Bool) → eq i q ≡ b → 0 < count_of (count q) → is_some (cond (eq i q) None (count q)) ≡ true
          cases true is c = let z : count_of (count q) ≡ 0 = ap count_of (sym (alike i q is)) ∙ zero-count (count i) zero in absurd (omega (arith, z, c))
          cases false is c = ap (λ b. is_some (cond b None (count q))) is ∙ counted-some (count q) c

      some_alike : (x y : ID) → eq x y ≡ true → is_some (more x) ≡ is_some (more y)
      some_alike x y e = known x ∙ ap (λ b. is_some (cond b None (count x))) (congr-right laws x y i e) ∙ ap (λ o. is_some (cond (eq i y) None o)) (alike x y e) ∙ sym (known y)

-- candidates were skipped
pub keeps-taken : {N ID : Type 0} (eq : ID → ID → Bool) (h : History N ID) (node_at : ID → Option (N × List (GraphEdge ID))) (count : ID → Option ℕ) (ids ids2 heads heads2 : List ID)
    → ((i : ID) → is_zero (count i) ≡ true → is_listed eq ids heads i ≡ true → is_listed eq ids2 heads2 i ≡ true) → ((targets : List ID) → AreToFollow eq count targets ids → AreToFollow eq count targets ids2)
    → KeepsHistory eq h node_at count ids heads → KeepsHistory eq h node_at count ids2 heads2
keeps-taken eq h node_at count ids ids2 heads heads2 listed follows k = record {
  is_history = k.is_history;
  nodes = k.nodes;
  known = k.known;
  counts = k.counts;
  listed = λ i zero. listed i zero (k.listed i zero);
  follows = follows (targets_of (last_edges h)) k.follows;
}

-- if no candidate and no head is left, no id is unblocked
pub none-free : {N ID : Type 0} (eq : ID → ID → Bool) (h : History N ID) (node_at : ID → Option (N × List (GraphEdge ID))) (count : ID → Option ℕ) (ids heads : List ID)
    → ids ≡ [] → heads ≡ [] → KeepsHistory eq h node_at count ids heads → (i : ID) → is_known eq h i ≡ true → pending_in_degree eq h i ≡ 0 → ⊥
none-free eq h node_at count ids heads no_ids no_heads k i known zero =
    true≢false (sym (k.listed i (zero-from (count i) (k.known i ∙ known) (k.counts i ∙ zero))) ∙ ap (λ l. is_listed eq l heads i) no_ids ∙ ap (λ l. is_listed eq [] l i) no_heads)

-- an id that is counted and not pending is required
pub unread-required : {N ID : Type 0} (eq : ID → ID → Bool) (h : History N ID) (node_at : ID → Option (N × List (GraphEdge ID))) (count : ID → Option ℕ) (ids heads : List ID) (i : ID)
    → is_zero (count i) ≡ true → node_at i ≡ None → KeepsHistory eq h node_at count ids heads → (is_required eq h i ≡ true) × (pending_at eq h i ≡ None)
unread-required eq h node_at count ids heads i zero absent k =
    let none : pending_at eq h i ≡ None = none-mapped item_of (pending_at eq h i) (sym (k.nodes i) ∙ absent) in
    (⊎_elim (λ a. a) (λ a. absurd (true≢false (sym a ∙ ap is_some none))) (or_cases (is_required eq h i) (is_some (pending_at eq h i)) (sym (k.known i) ∙ zero-some (count i) zero)), none)

-- a list of heads grows, and so do its members
pub listed-more : {ID : Type 0} (eq : ID → ID → Bool) (ids heads more : List ID) (i : ID) → (has_id eq heads i ≡ true → has_id eq more i ≡ true) → is_listed eq ids heads i ≡ true → is_listed eq ids more i ≡ true
listed-more eq ids heads more i kept k =
    ⊎_elim (λ a. or_left (has_id eq ids i) (has_id eq more i) a) (λ a. or_right (has_id eq ids i) (has_id eq more i) (kept a)) (or_cases (has_id eq ids i) (has_id eq heads i) k)

-- the id was known or is a head
pub head-listed : {ID : Type 0} (eq : ID → ID → Bool) (ids heads : List ID) (i : ID) (known : Bool) → (known || has_id eq heads i) ≡ true → (known ≡ true) ⊎ (is_listed eq ids heads i ≡ true)
head-listed eq ids heads i known e = ⊎_elim (λ a. inl a) (λ a. inr (or_right (has_id eq ids i) (has_id eq heads i) a)) (or_cases known (has_id eq heads i) e)

-- a map with one more key
pub mapped-put : {A B : Type 0} (f : A → B) (b : Bool) (x : A) (new old : Option A) → new ≡ cond b (Some x) old → option_map f new ≡ cond b (Some (f x)) (option_map f old)
mapped-put f true x new old e = ap (option_map f) e
mapped-put f false x new old e = ap (option_map f) e

pub mapped-out : {A B : Type 0} (f : A → B) (b : Bool) (new old : Option A) → new ≡ cond b None old → option_map f new ≡ cond b None (option_map f old)
mapped-out f true new old e = ap (option_map f) e
mapped-out f false new old e = ap (option_map f) e

pub some-mapped : {A B : Type 0} (f : A → B) (x : B) (o : Option A) → Some x ≡ option_map f o → (a : A) × (o ≡ Some a) × (x ≡ f a)
some-mapped f x None e = cc
some-mapped f x (Some a) e = (a, refl, cc)

no-entries : {A B : Type 0} (es : List (A × B)) → length es ≡ 0 → es ≡ []
no-entries [] e = refl
no-entries (x ∷ es) e = cc

module _ {N ID : Type 0} {eq : ID → ID → Bool} (laws : IsEquivalence eq) (h : History N ID) (s : PendingNodes N ID) (k : Keeps eq h s) where
  -- if the map is empty, nothing is pending
  pub nothing-pending : hash_map_len s.nodes ≡ 0 → pending_nodes eq h ≡ []
  nothing-pending none = go (pending_nodes eq h) (λ i. none-mapped item_of (find (λ e. eq e.id i) (pending_nodes eq h)) (sym (k.history.nodes i) ∙ ap (λ es. option_map listed_item (lookup (eq i) es)) (no-entries s.nodes.entries none)))
    where
      go : (es : List (Entry N ID)) → ((i : ID) → find (λ e. eq e.id i) es ≡ None) → es ≡ []
      go [] f = refl
      go (e ∷ es) f = let here : cond (eq e.id e.id) (Some e) (find (λ x. eq x.id e.id) es) ≡ None = f e.id in absurd (differ (ap (λ b. cond b (Some e) (find (λ x. eq x.id e.id) es)) (sym (laws.refl e.id)) ∙ here))
        where
          differ : {A : Type 0} {x : A} → Some x ≡ None → ⊥
          differ d = cc

  -- if nothing is pending, the map is empty
  pub nothing-kept : pending_nodes eq h ≡ [] → hash_map_len s.nodes ≡ 0
  nothing-kept none = go s.nodes.entries (λ i. none-mapped listed_item (lookup (eq i) s.nodes.entries) (k.history.nodes i ∙ ap (λ (es : List (Entry N ID)). option_map item_of (find (λ e. eq e.id i) es)) none))
    where
      go : (es : List (ID × (N × Vec (GraphEdge ID) Global))) → ((i : ID) → lookup (eq i) es ≡ None) → length es ≡ 0
      go [] f = refl
      go (e ∷ es) f = absurd (differ (ap (λ b. cond b (Some e.1) (lookup (eq e.0) es)) (sym (laws.refl e.0)) ∙ f e.0))
        where
          differ : {A : Type 0} {x : A} → Some x ≡ None → ⊥
          differ d = cc

pub is_some-mapped : {A B : Type 0} (f : A → B) (o : Option A) → is_some (option_map f o) ≡ is_some o
is_some-mapped f None = refl
is_some-mapped f (Some x) = refl
