-- A grouped run over a list of commits.
use Rattle.std.proofs.Common.{arith, ◌≡◌, ℕ, ◌+◌, true, ◌⊎◌, inl, inr, Option, None, Some, is_some, Result, Ok, Err, List, [], ◌∷◌, ◌++◌, map, reverse, eqb, refl, sym, ◌∙◌, ap, subst, ⊎_elim, append_assoc, append-nil, length, take, get_or, ◌<◌, IsOkAnd}
use borrow.Author.Tests.{eqb-true}
use Rattle.std.specs.Cmp.{nat_eq_equiv}
use Rattle.std.specs.Fn.{Shared, FnReturnsAt}
use Rattle.std.specs.Iterator.{Yields}
use Rattle.std.specs.List.{AllZip, Contains}
use Rattle.std.proofs.lemmas.List.{map-append, reverse-append, take_more}
use Rattle.std.specs.Global.{Global}
use Rattle.std.specs.declared.vec.Vec.{Vec}
use denote.Ref.{Bor}
use Rattle.jj_walks.specs.declared.graph.GraphEdge.{GraphEdge}
use Rattle.jj_walks.specs.declared.grouped.GroupedGraphError.{GroupedGraphError}
use Rattle.jj_walks.specs.declared.grouped.GroupedGraphError.TheVariants.{Input, DuplicateId, MissingNode, NotChildFirst, Memory}
use Rattle.jj_walks.specs.Grouped.{Entry, History, IsHistory, Yielded, Prioritized, Read, first_prioritized, yielded_nodes, pending_nodes, pending_at, is_required, pending_in_degree, read_nodes}
use Rattle.jj_walks.specs.GroupedOrders.{AreApart, IsGroupedOrder, IsWhole, PrioritizesFirst, has_node, prioritized_ids}
use Rattle.jj_walks.specs.GroupedSteps.{IsCause, IsEntryOf, Item, ReadsTo, read_on}
use Rattle.jj_walks.specs.PendingNodes.{item_of, listed_item}
use Rattle.jj_walks.proofs.GroupedOrders.{apart-rest, append-cases, found-in, grouped-order, pending-read, none-missing, none-stuck, none-twice}
use Rattle.jj_dag.proofs.Expanding.{zip-push}
use Rattle.jj_walks.proofs.Histories.{cons-cases}
use Rattle.jj_walks_tests.specs.declared.commits.Commit.{Commit}
use Rattle.jj_walks_tests.specs.Branches.{ImplementsCommits, node_of, nodes_of, parent_edges}

abbrev Node : Type 0
Node = Item (Bor Commit) ℕ

-- the state of a run: the commits read, and those left in the input
pub record IsRun (commits : List Commit) (required : ℕ) (h : History (Bor Commit) ℕ) (input : List (Result Node ℕ)) (order : List (Bor Commit)) : Type 0 where
  pub done : List (Bor Commit)
  pub rest : List (Bor Commit)
  pub all : map (λ c. c.now) (done ++ rest) ≡ commits
  pub shows : ImplementsCommits commits rest input
  pub reads : read_nodes h ≡ nodes_of commits done
  pub gives : yielded_nodes h ≡ nodes_of commits order
  pub ids : prioritized_ids h ≡ required ∷ []
  pub before : PrioritizesFirst h
  pub required_is : first_prioritized h ≡ Some required

module _ (commits : List Commit) (required : ℕ) where
  nodes-push : (xs : List (Bor Commit)) (x : Bor Commit) → nodes_of commits (xs ++ x ∷ []) ≡ node_of commits x ∷ nodes_of commits xs
  nodes-push xs x = ap reverse (map-append (node_of commits) xs (x ∷ [])) ∙ reverse-append (map (node_of commits) xs) (node_of commits x ∷ [])

  nodes-append : (xs ys : List (Bor Commit)) → nodes_of commits (xs ++ ys) ≡ nodes_of commits ys ++ nodes_of commits xs
  nodes-append xs ys = ap reverse (map-append (node_of commits) xs ys) ∙ reverse-append (map (node_of commits) xs) (map (node_of commits) ys)

  its-node : (xs : List (Bor Commit)) (e : Entry (Bor Commit) ℕ) → Contains (nodes_of commits xs) e → e ≡ node_of commits e.node
  its-node [] e (i, less, s) = absurd (omega arith)
  its-node (x ∷ xs) e m = ⊎_elim (its-node xs e) (λ a. ⊎_elim (λ s. sym s ∙ ap (λ y. node_of commits y.node) s) (λ n. absurd (nothing n)) (cons-cases [] (node_of commits x) e a))
      (append-cases (reverse (map (node_of commits) xs)) (node_of commits x ∷ []) e (subst (λ (l : List (Entry (Bor Commit) ℕ)). Contains l e) (reverse-append (node_of commits x ∷ []) (map (node_of commits) xs)) m))
    where
      nothing : Contains {X = Entry (Bor Commit) ℕ} [] e → ⊥
      nothing (i, less, s) = absurd (omega arith)

  entry-is : (e : Entry (Bor Commit) ℕ) (c : Bor Commit) → e.id ≡ c.now.id → e.node ≡ c → e.edges ≡ parent_edges commits c.now → e ≡ node_of commits c
  entry-is e c id node edges = λ i. record { id = id i; node = node i; edges = edges i }

  -- an item is the next commit
  next-item : (h : History (Bor Commit) ℕ) (x : Result Node ℕ) (input : List (Result Node ℕ)) (order : List (Bor Commit)) → (k : IsRun commits required h (x ∷ input) order)
      → (c : Bor Commit) × (rest : List (Bor Commit)) × (item : Node) × (k.rest ≡ c ∷ rest) × (x ≡ Ok item) × (item.0 ≡ c) × (item.1.items ≡ parent_edges commits c.now) × ImplementsCommits commits rest input
  next-item h x input order k = go k.rest refl x k.shows
    where
      go : (rest : List (Bor Commit)) → k.rest ≡ rest → (y : Result Node ℕ) → ImplementsCommits commits rest (y ∷ input)
          → (c : Bor Commit) × (more : List (Bor Commit)) × (item : Node) × (k.rest ≡ c ∷ more) × (y ≡ Ok item) × (item.0 ≡ c) × (item.1.items ≡ parent_edges commits c.now) × ImplementsCommits commits more input
      go [] e y s = absurd s
      go (c ∷ more) e (Ok item) s = (c, more, item, e, refl, s.0.0, s.0.1, s.1)
      go (c ∷ more) e (Err error) s = absurd s.0

  read-one : (h : History (Bor Commit) ℕ) (item : Node) (input : List (Result Node ℕ)) (order : List (Bor Commit)) (e : Entry (Bor Commit) ℕ) → item_of e ≡ listed_item item → e.id ≡ item.0.now.id
      → IsRun commits required h (Ok item ∷ input) order → IsRun commits required (Read e ∷ h) input order
  read-one h item input order e same id k =
      let n = next-item h (Ok item) input order k in
      let c = n.0 in
      let item_is : item ≡ n.2 = cc in
      let node : e.node ≡ c = ap (λ p. p.0) same ∙ ap (λ p. p.0) item_is ∙ n.5 in
      let edges : e.edges ≡ parent_edges commits c.now = ap (λ p. p.1) same ∙ ap (λ p. p.1.items) item_is ∙ n.6 in
      let id_is : e.id ≡ c.now.id = id ∙ ap (λ p. p.0.now.id) item_is ∙ ap (λ p. p.now.id) n.5 in
      let is : e ≡ node_of commits c = entry-is e c id_is node edges in
      record {
        done = k.done ++ c ∷ [];
        rest = n.1;
        all = ap (map (λ c. c.now)) (append_assoc k.done (c ∷ []) n.1 ∙ ap (λ l. k.done ++ l) (sym n.3)) ∙ k.all;
        shows = n.7;
        reads = ap (λ x. x ∷ read_nodes h) is ∙ ap (λ l. node_of commits c ∷ l) k.reads ∙ sym (nodes-push k.done c);
        gives = k.gives;
        ids = k.ids;
        before = k.before;
        required_is = k.required_is;
      }

  pub gave-one : (h : History (Bor Commit) ℕ) (input : List (Result Node ℕ)) (order : List (Bor Commit)) (e : Entry (Bor Commit) ℕ) (c : Bor Commit) → e.node ≡ c → IsHistory eqb (Yielded e ∷ h)
      → IsRun commits required h input order → IsRun commits required (Yielded e ∷ h) input (order ++ c ∷ [])
  gave-one h input order e c node is_history k =
      let at : Contains (pending_nodes eqb h) e = found-in (λ g. eqb g.id e.id) (pending_nodes eqb h) e is_history.0.pending in
      let is : e ≡ node_of commits e.node = its-node k.done e (subst (λ (l : List (Entry (Bor Commit) ℕ)). Contains l e) k.reads (pending-read nat_eq_equiv h e at)) in
      let same : e ≡ node_of commits c = is ∙ ap (node_of commits) node in
      record {
        done = k.done;
        rest = k.rest;
        all = k.all;
        shows = k.shows;
        reads = k.reads;
        gives = ap (λ x. x ∷ yielded_nodes h) same ∙ ap (λ l. node_of commits c ∷ l) k.gives ∙ sym (nodes-push order c);
        ids = k.ids;
        before = k.before;
        required_is = k.required_is;
      }

  whole-done : (h : History (Bor Commit) ℕ) (input : List (Result Node ℕ)) (order : List (Bor Commit)) (k : IsRun commits required h input order) → nodes_of commits (k.done ++ k.rest) ≡ nodes_of commits k.rest ++ read_nodes h
  whole-done h input order k = nodes-append k.done k.rest ∙ ap (λ l. nodes_of commits k.rest ++ l) (sym k.reads)

  -- the input has ended: all commits were read
  all-read : (h : History (Bor Commit) ℕ) (order : List (Bor Commit)) (k : IsRun commits required h [] order) → (read_nodes h ≡ nodes_of commits k.done) × (map (λ c. c.now) k.done ≡ commits)
  all-read h order k = go k.rest refl k.shows
    where
      go : (rest : List (Bor Commit)) → k.rest ≡ rest → ImplementsCommits commits rest [] → (read_nodes h ≡ nodes_of commits k.done) × (map (λ c. c.now) k.done ≡ commits)
      go [] e s = (k.reads, ap (map (λ c. c.now)) (sym (append-nil k.done) ∙ ap (λ l. k.done ++ l) (sym e)) ∙ k.all)
      go (c ∷ more) e s = absurd s

  -- a run that ends has yielded the commits in a grouped order
  pub run-ended : (h : History (Bor Commit) ℕ) (order : List (Bor Commit)) → IsRun commits required h [] order → IsHistory eqb h → pending_nodes eqb h ≡ []
      → (shown : List (Bor Commit)) × (map (λ c. c.now) shown ≡ commits) × (IsWhole eqb (nodes_of commits shown) → IsGroupedOrder eqb (nodes_of commits shown) (Some required) (nodes_of commits order))
  run-ended h order k is_history none =
      let all = all-read h order k in
      (k.done, all.1, λ whole. rw (← all.0, ← k.required_is, ← k.gives) (grouped-order nat_eq_equiv h is_history (rw (← all.0) at whole) none))

  abbrev pub Fails : Type 0
  Fails = (shown : List (Bor Commit)) × (map (λ c. c.now) shown ≡ commits) × (IsWhole eqb (nodes_of commits shown) → has_node eqb (nodes_of commits shown) required ≡ true → ⊥)

  run-missing : (h : History (Bor Commit) ℕ) (order : List (Bor Commit)) (i : ℕ) → IsRun commits required h [] order → IsHistory eqb h → is_required eqb h i ≡ true → pending_at eqb h i ≡ None → Fails
  run-missing h order i k is_history want none =
      let all = all-read h order k in (
        k.done,
        all.1,
        λ whole has. none-missing nat_eq_equiv h i is_history k.before (rw (← all.0) at whole)
            (λ j m. among j (subst (λ (l : List ℕ). Contains l j) k.ids m) (rw (← all.0) at has)) want none,
      )
    where
      among : (j : ℕ) → Contains (required ∷ []) j → has_node eqb (read_nodes h) required ≡ true → has_node eqb (read_nodes h) j ≡ true
      among j m e = ⊎_elim (λ s. ap (has_node eqb (read_nodes h)) (sym s) ∙ e) (λ n. absurd (nothing n)) (cons-cases [] required j m)
        where
          nothing : Contains {X = ℕ} [] j → ⊥
          nothing (n, less, s) = absurd (omega arith)

  run-stuck : (h : History (Bor Commit) ℕ) (order : List (Bor Commit)) → IsRun commits required h [] order → (pending_nodes eqb h ≡ [] → ⊥) → ((i : ℕ) → is_some (pending_at eqb h i) ≡ true → pending_in_degree eqb h i ≡ 0 → ⊥) → Fails
  run-stuck h order k some stuck =
      let all = all-read h order k in
      (k.done, all.1, λ whole has. let w : IsWhole eqb (read_nodes h) = rw (← all.0) at whole in none-stuck nat_eq_equiv h w.child_first some stuck)

  run-twice : (h : History (Bor Commit) ℕ) (item : Node) (input : List (Result Node ℕ)) (order : List (Bor Commit)) (e : Entry (Bor Commit) ℕ) → e.id ≡ item.0.now.id → IsRun commits required h (Ok item ∷ input) order
      → is_some (pending_at eqb h e.id) ≡ true → Fails
  run-twice h item input order e id k some =
      let n = next-item h (Ok item) input order k in
      let item_is : item ≡ n.2 = cc in
      let id_is : e.id ≡ n.0.now.id = id ∙ ap (λ p. p.0.now.id) item_is ∙ ap (λ p. p.now.id) n.5 in
      let parts : nodes_of commits (k.done ++ k.rest) ≡ (reverse (map (node_of commits) n.1) ++ node_of commits n.0 ∷ []) ++ read_nodes h =
      whole-done h (Ok item ∷ input) order k ∙ ap (λ l. nodes_of commits l ++ read_nodes h) n.3 ∙ ap (λ l. l ++ read_nodes h) (reverse-append (node_of commits n.0 ∷ []) (map (node_of commits) n.1)) in (
        k.done ++ k.rest,
        k.all,
        λ whole has.
            let apart = apart-rest nat_eq_equiv (reverse (map (node_of commits) n.1)) (node_of commits n.0 ∷ read_nodes h)
            (subst (λ (l : List (Entry (Bor Commit) ℕ)). AreApart eqb l) (parts ∙ append_assoc (reverse (map (node_of commits) n.1)) (node_of commits n.0 ∷ []) (read_nodes h)) whole.apart) in
            none-twice nat_eq_equiv h e (ap (has_node eqb (read_nodes h)) id_is ∙ apart.0) some,
      )

  -- nothing was read yet
  pub run-begins : (shown : List (Bor Commit)) (input : List (Result Node ℕ)) (order : List (Bor Commit)) → map (λ c. c.now) shown ≡ commits → ImplementsCommits commits shown input → order ≡ [] → IsRun commits required (Prioritized required ∷ []) input order
  run-begins shown input order all shows none = record {
    done = [];
    rest = shown;
    all = all;
    shows = shows;
    reads = refl;
    gives = sym (ap (nodes_of commits) none);
    ids = refl;
    before = (refl, tt);
    required_is = refl;
  }

  module _ {S F : Type 0} (ids : Shared F (Bor (Bor Commit) × Unit {0}) (Bor ℕ)) (steps : S → Option (Result Node ℕ) → S → Type 0) (as_id : F) (left : S → List (Result Node ℕ)) (IsGood : S → Type 0)
      (some : (s t : S) (x : Result Node ℕ) → IsGood s → steps s (Some x) t → (left s ≡ x ∷ left t) × IsGood t) (none : (s t : S) → IsGood s → steps s None t → left s ≡ [])
      (says : (x : Bor Commit) (i : Bor ℕ) → FnReturnsAt ids as_id x i → i.now ≡ x.now.id) where
    its-id : (item : Node) (e : Entry (Bor Commit) ℕ) → IsEntryOf ids eqb as_id item e → e.id ≡ item.0.now.id
    its-id item e k = sym (eqb-true k.id.0.now e.id k.id.2) ∙ says item.0 k.id.0 k.id.1

    -- some more items were read
    run-read : (h : History (Bor Commit) ℕ) (s t : S) (items : List Node) (reads : List (Entry (Bor Commit) ℕ)) (order : List (Bor Commit)) → IsGood s → Yields steps s (map Ok items) t
        → AllZip (IsEntryOf ids eqb as_id) items reads → IsRun commits required h (left s) order → IsRun commits required (read_on reads h) (left t) order × IsGood t
    run-read h s t [] [] order good run entries k = (subst (λ (x : S). IsRun commits required h (left x) order) run k, subst IsGood run good)
    run-read h s t [] (e ∷ reads) order good run entries k = absurd entries
    run-read h s t (item ∷ items) [] order good run entries k = absurd entries
    run-read h s t (item ∷ items) (e ∷ reads) order good (u, step, run) (entry, entries) k =
        let first = some s u (Ok item) good step in
        run-read (Read e ∷ h) u t items reads order first.1 run entries
        (read-one h item (left u) order e entry.same (its-id item e entry) (subst (λ (l : List (Result Node ℕ)). IsRun commits required h l order) first.0 k))

    -- an error other than out of memory means that the input is invalid
    run-failure : (h : History (Bor Commit) ℕ) (s t : S) (error : GroupedGraphError ℕ) (order : List (Bor Commit)) → IsGood s → IsHistory eqb h → IsRun commits required h (left s) order
        → IsCause ids eqb steps as_id h s error t → (error ≡ Memory) ⊎ Fails
    run-failure h s t (Input e) order good is_history k step =
        let n = next-item h (Err e) (left t) order (subst (λ (l : List (Result Node ℕ)). IsRun commits required h l order) (some s t (Err e) good step).0 k) in
        let same : Err e ≡ Ok n.2 = n.4 in
        absurd cc
    run-failure h s t DuplicateId order good is_history k (item, e, step, entry, pending_nodes) =
        inr (run-twice h item (left t) order e (its-id item e entry) (subst (λ (l : List (Result Node ℕ)). IsRun commits required h l order) (some s t (Ok item) good step).0 k) pending_nodes)
    run-failure h s t MissingNode order good is_history k (i, step, want, absent) =
        inr (run-missing h order i (subst (λ (l : List (Result Node ℕ)). IsRun commits required h l order) (none s t good step) k) is_history want absent)
    run-failure h s t NotChildFirst order good is_history k (step, more, stuck) =
        inr (run-stuck h order (subst (λ (l : List (Result Node ℕ)). IsRun commits required h l order) (none s t good step) k) more stuck)
    run-failure h s t Memory order good is_history k cause = inl refl

module _ (commits : List Commit) (required : ℕ) {S F : Type 0} {ids : Shared F (Bor (Bor Commit) × Unit {0}) (Bor ℕ)} {steps : S → Option (Result Node ℕ) → S → Type 0} {as_id : F} {s t : S} {items : List Node} {reads : List (Entry (Bor Commit) ℕ)}
    (run : ReadsTo ids eqb steps as_id s items reads t) (left : S → List (Result Node ℕ)) (IsGood : S → Type 0)
    (some : (s t : S) (x : Result Node ℕ) → IsGood s → steps s (Some x) t → (left s ≡ x ∷ left t) × IsGood t) (none : (s t : S) → IsGood s → steps s None t → left s ≡ [])
    (says : (x : Bor Commit) (i : Bor ℕ) → FnReturnsAt ids as_id x i → i.now ≡ x.now.id) (good : IsGood s) (h : History (Bor Commit) ℕ) (order : List (Bor Commit)) (k : IsRun commits required h (left s) order) where
  after : IsRun commits required (read_on reads h) (left t) order × IsGood t
  after = run-read commits required ids steps as_id left IsGood some none says h s t items reads order good run.yielded run.entries k

  pub run-gave : (e : Entry (Bor Commit) ℕ) (c : Bor Commit) → e.node ≡ c → IsHistory eqb (Yielded e ∷ read_on reads h) → IsRun commits required (Yielded e ∷ read_on reads h) (left t) (order ++ c ∷ []) × IsGood t
  run-gave e c node is_history = (gave-one commits required (read_on reads h) (left t) order e c node is_history after.0, after.1)

  pub run-done : (u : S) → steps t None u → IsHistory eqb (read_on reads h) → pending_nodes eqb (read_on reads h) ≡ []
      → (shown : List (Bor Commit)) × (map (λ c. c.now) shown ≡ commits) × (IsWhole eqb (nodes_of commits shown) → IsGroupedOrder eqb (nodes_of commits shown) (Some required) (nodes_of commits order))
  run-done u step is_history nothing = run-ended commits required (read_on reads h) order (subst (λ (l : List (Result Node ℕ)). IsRun commits required (read_on reads h) l order) (none t u after.1 step) after.0) is_history nothing

  pub run-failed : (u : S) (error : GroupedGraphError ℕ) → IsHistory eqb (read_on reads h) → IsCause ids eqb steps as_id (read_on reads h) t error u → (error ≡ Memory) ⊎ Fails commits required
  run-failed u error is_history cause = run-failure commits required ids steps as_id left IsGood some none says (read_on reads h) t u error order after.1 is_history after.0 cause

-- the remaining list with its length
pub left-some : {A : Type 0} (a b : ℕ) (xs ys : List A) (x : A) → a ≡ length xs → xs ≡ x ∷ ys → b + 1 ≡ a → b ≡ length ys
left-some a b xs ys x whole first fewer = let l : length xs ≡ length (x ∷ ys) = ap length first in omega (arith, whole, fewer, l)

pub left-none : {A : Type 0} (a : ℕ) (xs : List A) → a ≡ length xs → a ≡ 0 → xs ≡ []
left-none a [] whole none = refl
left-none a (x ∷ xs) whole none = absurd (omega arith)

-- one more commit
pub shown-push : (commits : List Commit) (n : ℕ) (shown : List (Bor Commit)) (items new : List (Result Node ℕ)) (b : Bor Commit) (edges : Vec (GraphEdge ℕ) Global) → new ≡ items ++ Ok (b, edges) ∷ [] → n < length commits
    → b.now ≡ get_or commits n b.now → edges.items ≡ parent_edges commits b.now → map (λ c. c.now) shown ≡ take n commits → ImplementsCommits commits shown items
    → (more : List (Bor Commit)) × (map (λ c. c.now) more ≡ take (n + 1) commits) × ImplementsCommits commits more new
shown-push commits n shown items new b edges pushed less at its_edges same shows = (
  shown ++ b ∷ [],
  map-append (λ c. c.now) shown (b ∷ []) ∙ ap (λ l. l ++ b.now ∷ []) same ∙ ap (λ x. take n commits ++ x ∷ []) at ∙ sym (take_more commits n b.now less),
  subst (λ (l : List (Result Node ℕ)). ImplementsCommits commits (shown ++ b ∷ []) l) (sym pushed) (zip-push (λ c item. IsOkAnd item (λ x. (x.0 ≡ c) × (x.1.items ≡ parent_edges commits c.now))) shown items b (Ok (b, edges)) shows (refl, its_edges)),
)
