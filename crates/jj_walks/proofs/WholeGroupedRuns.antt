-- Whole runs of the iterator over a grouped graph.
use Rattle.std.proofs.Common.{◌≡◌, Bool, true, false, List, [], ◌∷◌, ◌++◌, Option, None, Some, Result, Ok, Err, map, reverse, refl, sym, ◌∙◌, ap, subst, append_assoc, append-nil}
use Rattle.std.specs.Cmp.{IsEquivalence}
use Rattle.std.specs.Fn.{Shared}
use Rattle.std.specs.Iterator.{Drains, Yields}
use Rattle.std.specs.List.{AllZip, Contains}
use Rattle.std.proofs.lemmas.List.{map-append, reverse-append}
use denote.Ref.{Bor}
use Rattle.jj_dag.proofs.Expanding.{zip-push}
use Rattle.jj_walks.specs.declared.grouped.GroupedGraphError.{GroupedGraphError}
use Rattle.jj_walks.specs.declared.grouped.GroupedGraphError.TheVariants.{Input, DuplicateId, MissingNode, NotChildFirst, Memory}
use Rattle.jj_walks.specs.declared.grouped.GroupedNodes.{GroupedNodes}
use Rattle.jj_walks.specs.Grouped.{Entry, Event, Yielded, History, IsHistory, Prioritized, Read, first_prioritized, yielded_nodes, read_nodes}
use Rattle.jj_walks.specs.GroupedLaw.{Explains, FailsForCause, IsFailedRun, IsGroupedRun, IsUnread, YieldsGroupedOrders, first_of}
use Rattle.jj_walks.specs.GroupedOrders.{IsGroupedOrder, IsWhole, PrioritizesFirst, has_node, prioritized_ids}
use Rattle.jj_walks.specs.GroupedSteps.{Steps, IsCause, IsEntryOf, Item, ReadsTo, read_on}
use Rattle.jj_walks.specs.PendingNodes.{Keeps, item_of, listed_item}
use Rattle.jj_walks.proofs.GroupedOrders.{grouped-order, none-missing, none-stuck, none-twice}
use Rattle.jj_walks.proofs.Preorders.{from_reverse}

-- ---- lists

zip-append : {A B : Type 0} (P : A → B → Type 0) (xs xs' : List A) (ys ys' : List B) → AllZip P xs ys → AllZip P xs' ys' → AllZip P (xs ++ xs') (ys ++ ys')
zip-append P [] xs' [] ys' k l = l
zip-append P [] xs' (y ∷ ys) ys' k l = absurd k
zip-append P (x ∷ xs) xs' [] ys' k l = absurd k
zip-append P (x ∷ xs) xs' (y ∷ ys) ys' k l = (k.0, zip-append P xs xs' ys ys' k.1 l)

Yields-append : {S A : Type 0} (steps : S → Option A → S → Type 0) (xs ys : List A) (s t u : S) → Yields steps s xs t → Yields steps t ys u → Yields steps s (xs ++ ys) u
Yields-append steps [] ys s t u same more = subst (λ v. Yields steps v ys u) (sym same) more
Yields-append steps (x ∷ xs) ys s t u (j, step, rest) more = (j, step, Yields-append steps xs ys j t u rest more)

-- ---- histories

module _ {N ID : Type 0} where
  read_on-reads : (es : List (Entry N ID)) (h : History N ID) → read_nodes (read_on es h) ≡ reverse es ++ read_nodes h
  read_on-reads [] h = refl
  read_on-reads (e ∷ es) h =
      read_on-reads es (Read e ∷ h) ∙ sym (append_assoc (reverse es) (e ∷ []) (read_nodes h))
      ∙ ap (λ (l : List (Entry N ID)). l ++ read_nodes h) (sym (reverse-append (e ∷ []) es))

  read_on-gives : (es : List (Entry N ID)) (h : History N ID) → yielded_nodes (read_on es h) ≡ yielded_nodes h
  read_on-gives [] h = refl
  read_on-gives (e ∷ es) h = read_on-gives es (Read e ∷ h)

  read_on-required : (es : List (Entry N ID)) (h : History N ID) → first_prioritized (read_on es h) ≡ first_prioritized h
  read_on-required [] h = refl
  read_on-required (e ∷ es) h = read_on-required es (Read e ∷ h)

  read_on-ids : (es : List (Entry N ID)) (h : History N ID) → prioritized_ids (read_on es h) ≡ prioritized_ids h
  read_on-ids [] h = refl
  read_on-ids (e ∷ es) h = read_on-ids es (Read e ∷ h)

  read_on-first : (es : List (Entry N ID)) (h : History N ID) → PrioritizesFirst h → PrioritizesFirst (read_on es h)
  read_on-first [] h k = k
  read_on-first (e ∷ es) h k = read_on-first es (Read e ∷ h) k

  -- the oldest event prioritized the id
  oldest-required : (h : History N ID) (i : ID) → first_prioritized (h ++ Prioritized i ∷ []) ≡ Some i
  oldest-required [] i = refl
  oldest-required (Prioritized j ∷ []) i = refl
  oldest-required (Prioritized j ∷ event ∷ h) i = oldest-required (event ∷ h) i
  oldest-required (Read e ∷ h) i = oldest-required h i
  oldest-required (Yielded e ∷ h) i = oldest-required h i

  abbrev prioritized_only : List ID → History N ID
  prioritized_only is = reverse (map (λ i. Prioritized i) is)

  reads-append : (is : List ID) (h : History N ID) → read_nodes (prioritized_only is ++ h) ≡ read_nodes h
  reads-append [] h = refl
  reads-append (i ∷ is) h =
      ap (λ l. read_nodes (l ++ h)) (reverse-append (Prioritized i ∷ []) (map (λ j. Prioritized j) is))
      ∙ ap read_nodes (append_assoc (prioritized_only is) (Prioritized i ∷ []) h) ∙ reads-append is (Prioritized i ∷ h)

  gives-append : (is : List ID) (h : History N ID) → yielded_nodes (prioritized_only is ++ h) ≡ yielded_nodes h
  gives-append [] h = refl
  gives-append (i ∷ is) h =
      ap (λ l. yielded_nodes (l ++ h)) (reverse-append (Prioritized i ∷ []) (map (λ j. Prioritized j) is))
      ∙ ap yielded_nodes (append_assoc (prioritized_only is) (Prioritized i ∷ []) h) ∙ gives-append is (Prioritized i ∷ h)

no-reads : (N : Type 0) {ID : Type 0} (is : List ID) → read_nodes {N = N} (prioritized_only {N = N} is) ≡ []
no-reads N is = ap read_nodes (sym (append-nil (prioritized_only {N = N} is))) ∙ reads-append {N = N} is []

ids-append : (N : Type 0) {ID : Type 0} (is : List ID) (h : History N ID) → prioritized_ids (prioritized_only {N = N} is ++ h) ≡ reverse is ++ prioritized_ids h
ids-append N [] h = refl
ids-append N {ID} (i ∷ is) h =
    let each : List (Event N ID) = map {B = Event N ID} (λ j. Prioritized j) is in
    ap (λ l. prioritized_ids (l ++ h)) (reverse-append (Prioritized i ∷ []) each)
    ∙ ap prioritized_ids (append_assoc (prioritized_only {N = N} is) (Prioritized i ∷ []) h) ∙ ids-append N is (Prioritized i ∷ h)
    ∙ sym (append_assoc (reverse is) (i ∷ []) (prioritized_ids h)) ∙ ap (λ (l : List ID). l ++ prioritized_ids h) (sym (reverse-append (i ∷ []) is))

ids-are : (N : Type 0) {ID : Type 0} (is : List ID) → prioritized_ids (prioritized_only {N = N} is) ≡ reverse is
ids-are N is = ap prioritized_ids (sym (append-nil (prioritized_only {N = N} is))) ∙ ids-append N is [] ∙ append-nil (reverse is)

first-append : (N : Type 0) {ID : Type 0} (is : List ID) (h : History N ID) → read_nodes h ≡ [] → PrioritizesFirst h → PrioritizesFirst (prioritized_only {N = N} is ++ h)
first-append N [] h none k = k
first-append N {ID} (i ∷ is) h none k =
    let each : List (Event N ID) = map {B = Event N ID} (λ j. Prioritized j) is in
    let turned : prioritized_only {N = N} (i ∷ is) ++ h ≡ prioritized_only {N = N} is ++ Prioritized i ∷ h =
    ap (λ (l : History N ID). l ++ h) (reverse-append (Prioritized i ∷ []) each) ∙ append_assoc (prioritized_only {N = N} is) (Prioritized i ∷ []) h in
    subst (λ (l : History N ID). PrioritizesFirst l) (sym turned) (first-append N is (Prioritized i ∷ h) none (none, k))

first-only : (N : Type 0) {ID : Type 0} (is : List ID) → PrioritizesFirst (prioritized_only {N = N} is)
first-only N {ID} is = subst (λ (l : History N ID). PrioritizesFirst l) (append-nil (prioritized_only {N = N} is)) (first-append N is [] refl tt)

no-gives : (N : Type 0) {ID : Type 0} (is : List ID) → yielded_nodes {N = N} (prioritized_only {N = N} is) ≡ []
no-gives N is = ap yielded_nodes (sym (append-nil (prioritized_only {N = N} is))) ∙ gives-append {N = N} is []

first-prioritized : (N : Type 0) {ID : Type 0} (is : List ID) → first_prioritized {N = N} (prioritized_only {N = N} is) ≡ first_of is
first-prioritized N [] = refl
first-prioritized N {ID} (i ∷ is) =
    let each : List (Event N ID) = map {B = Event N ID} (λ j. Prioritized j) is in
    ap first_prioritized (reverse-append (Prioritized i ∷ []) each) ∙ oldest-required (prioritized_only {N = N} is) i

-- ---- runs

module _ {N ID S E F : Type 0} (ids : Shared F (Bor N × Unit {0}) (Bor ID)) (eq : ID → ID → Bool) (steps : S → Option (Result (Item N ID) E) → S → Type 0) (laws : IsEquivalence eq)
    (as_id : F) (input : S) (prioritized : List ID) where
  abbrev ok : Item N ID → Result (Item N ID) E
  ok x = Ok x

  -- the state of a run that has yielded these nodes
  record IsReading (s : GroupedNodes N ID S F) (yielded : List (Item N ID)) : Type 0 where
    has_ended : s.has_ended ≡ false
    same_as_id : s.graph.as_id ≡ as_id
    h : History N ID
    keeps : Keeps eq h s.graph.pending
    nodes : List (Item N ID)
    read : Yields steps input (map ok nodes) s.graph.input
    entries : List (Entry N ID)
    have_ids : AllZip (IsEntryOf ids eq as_id) nodes entries
    reads : read_nodes h ≡ reverse entries
    order : List (Entry N ID)
    listed : AllZip (λ e x. item_of e ≡ listed_item x) order yielded
    gives : yielded_nodes h ≡ reverse order
    required : first_prioritized h ≡ first_of prioritized
    ids_are : prioritized_ids h ≡ reverse prioritized
    before : PrioritizesFirst h

  -- the nodes read so far and those that one call reads
  module _ (s : GroupedNodes N ID S F) (yielded : List (Item N ID)) (k : IsReading s yielded) (items : List (Item N ID)) (more_entries : List (Entry N ID)) (u : S)
      (more : ReadsTo ids eq steps s.graph.as_id s.graph.input items more_entries u) where
    read-all : Yields steps input (map ok (k.nodes ++ items)) u
    read-all = subst (λ l. Yields steps input l u) (sym (map-append ok k.nodes items)) (Yields-append steps (map ok k.nodes) (map ok items) input s.graph.input u k.read more.yielded)

    ids-all : AllZip (IsEntryOf ids eq as_id) (k.nodes ++ items) (k.entries ++ more_entries)
    ids-all = zip-append (IsEntryOf ids eq as_id) k.nodes items k.entries more_entries k.have_ids (subst (λ a. AllZip (IsEntryOf ids eq a) items more_entries) k.same_as_id more.entries)

    reads-all : read_nodes (read_on more_entries k.h) ≡ reverse (k.entries ++ more_entries)
    reads-all = read_on-reads more_entries k.h ∙ ap (λ l. reverse more_entries ++ l) k.reads ∙ sym (reverse-append k.entries more_entries)

  goes-on : (s t : GroupedNodes N ID S F) (x : Item N ID) (yielded : List (Item N ID)) → IsReading s yielded → Steps ids eq steps s (Some (Ok x)) t → IsReading t (yielded ++ x ∷ [])
  goes-on s t x yielded k step =
      let open_step = rw k.has_ended at step in
      let g = open_step.1 k.h k.keeps in
      record {
        has_ended = open_step.0;
        same_as_id = g.6 ∙ k.same_as_id;
        h = Yielded g.2 ∷ read_on g.1 k.h;
        keeps = g.5;
        nodes = k.nodes ++ g.0;
        read = read-all s yielded k g.0 g.1 t.graph.input g.3;
        entries = k.entries ++ g.1;
        have_ids = ids-all s yielded k g.0 g.1 t.graph.input g.3;
        reads = reads-all s yielded k g.0 g.1 t.graph.input g.3;
        order = k.order ++ g.2 ∷ [];
        listed = zip-push (λ e y. item_of e ≡ listed_item y) k.order yielded g.2 x k.listed g.4;
        gives = ap (λ l. g.2 ∷ l) (read_on-gives g.1 k.h ∙ k.gives) ∙ sym (reverse-append k.order (g.2 ∷ []));
        required = read_on-required g.1 k.h ∙ k.required;
        ids_are = read_on-ids g.1 k.h ∙ k.ids_are;
        before = read_on-first g.1 k.h k.before;
      }

  ends : (s t : GroupedNodes N ID S F) (yielded : List (Item N ID)) → IsReading s yielded → Steps ids eq steps s None t → IsGroupedRun ids eq steps as_id input prioritized yielded
  ends s t yielded k step =
      let g = (rw k.has_ended at step).1 k.h k.keeps in
      let h = read_on g.1 k.h in
      let all = reads-all s yielded k g.0 g.1 g.2 g.3 in
      record {
        nodes = k.nodes ++ g.0;
        read = (t.graph.input, (g.2, read-all s yielded k g.0 g.1 g.2 g.3, g.4));
        entries = k.entries ++ g.1;
        have_ids = ids-all s yielded k g.0 g.1 g.2 g.3;
        order = k.order;
        listed = k.listed;
        grouped = λ whole.
            subst (λ l. IsGroupedOrder eq l (first_of prioritized) (reverse k.order)) all
            (subst (λ o. IsGroupedOrder eq (read_nodes h) o (reverse k.order)) (read_on-required g.1 k.h ∙ k.required)
            (subst (λ l. IsGroupedOrder eq (read_nodes h) (first_prioritized h) l) (read_on-gives g.1 k.h ∙ k.gives)
            (grouped-order laws h g.5 (subst (λ l. IsWhole eq l) (sym all) whole) g.6)));
      }

  runs : (xs yielded : List (Item N ID)) (s : GroupedNodes N ID S F) → IsReading s yielded → Drains (Steps ids eq steps) s (map (λ x. Ok x) xs) → IsGroupedRun ids eq steps as_id input prioritized (yielded ++ xs)
  runs [] yielded s k (u, (t, same, last)) =
      subst (λ l. IsGroupedRun ids eq steps as_id input prioritized l) (sym (append-nil yielded)) (ends s u yielded k (subst (λ v. Steps ids eq steps v None u) (sym same) last))
  runs (x ∷ xs) yielded s k (u, (t, (j, step, rest), last)) =
      subst (λ l. IsGroupedRun ids eq steps as_id input prioritized l) (append_assoc yielded (x ∷ []) xs) (runs xs (yielded ++ x ∷ []) j (goes-on s j x yielded k step) (u, (t, rest, last)))

  -- the cause of an error in the input
  explains : (h : History N ID) (entries : List (Entry N ID)) (u t : S) (error : GroupedGraphError E) → IsHistory eq h → read_nodes h ≡ reverse entries → prioritized_ids h ≡ reverse prioritized → PrioritizesFirst h
      → IsCause ids eq steps as_id h u error t → Explains ids eq steps as_id prioritized entries u error
  explains h entries u t (Input e) is_history reads ids_of before step = (t, step)
  explains h entries u t DuplicateId is_history reads ids_of before (item, e, step, entry, twice) =
      let P : Bool → Type 0 = λ b. has_node eq (read_nodes h) e.id ≡ b → b ≡ true in
      let there : has_node eq (read_nodes h) e.id ≡ true = elim (has_node eq (read_nodes h) e.id) as P [ true ↦ λ is. refl | false ↦ λ is. absurd (none-twice laws h e is twice) ] refl in
      (t, item, e, step, entry, subst (λ l. has_node eq l e.id ≡ true) reads there)
  explains h entries u t MissingNode is_history reads ids_of before (i, step, want, absent) = (
    t,
    step,
    λ whole all. none-missing laws h i is_history before (subst (λ l. IsWhole eq l) (sym reads) whole)
        (λ j m. subst (λ l. has_node eq l j ≡ true) (sym reads) (all j (from_reverse prioritized j (subst (λ l. Contains l j) ids_of m)))) want absent,
  )
  explains h entries u t NotChildFirst is_history reads ids_of before (step, more, stuck) = (t, step, λ whole. none-stuck laws h (subst (λ l. IsWhole eq l) (sym reads) whole).child_first more stuck)
  explains h entries u t Memory is_history reads ids_of before cause = tt

  fails : (s t : GroupedNodes N ID S F) (yielded : List (Item N ID)) (error : GroupedGraphError E) → IsReading s yielded → Steps ids eq steps s (Some (Err error)) t → IsFailedRun ids eq steps as_id input prioritized error
  fails s t yielded error k step =
      let g = (rw k.has_ended at step).1 k.h k.keeps in
      let cause = subst (λ a. IsCause ids eq steps a (read_on g.1 k.h) g.2 error t.graph.input) k.same_as_id g.5 in
      record {
        nodes = k.nodes ++ g.0;
        at = g.2;
        read = read-all s yielded k g.0 g.1 g.2 g.3;
        entries = k.entries ++ g.1;
        have_ids = ids-all s yielded k g.0 g.1 g.2 g.3;
        explained = explains (read_on g.1 k.h) (k.entries ++ g.1) g.2 t.graph.input error g.4 (reads-all s yielded k g.0 g.1 g.2 g.3) (read_on-ids g.1 k.h ∙ k.ids_are) (read_on-first g.1 k.h k.before) cause;
      }

  runs-to-error : (xs yielded : List (Item N ID)) (s t : GroupedNodes N ID S F) (error : GroupedGraphError E) → IsReading s yielded → Yields (Steps ids eq steps) s (map (λ x. Ok x) xs ++ Err error ∷ []) t
      → IsFailedRun ids eq steps as_id input prioritized error
  runs-to-error [] yielded s t error k (j, step, last) = fails s j yielded error k step
  runs-to-error (x ∷ xs) yielded s t error k (j, step, rest) = runs-to-error xs (yielded ++ x ∷ []) j t error (goes-on s j x yielded k step) rest

  begins : (s : GroupedNodes N ID S F) → IsUnread ids eq steps as_id input prioritized s → IsReading s []
  begins s k = record {
    has_ended = k.has_ended;
    same_as_id = k.same_as_id;
    h = prioritized_only prioritized;
    keeps = k.keeps;
    nodes = [];
    read = sym k.same_input;
    entries = [];
    have_ids = tt;
    reads = no-reads N prioritized;
    order = [];
    listed = tt;
    gives = no-gives N prioritized;
    required = first-prioritized N prioritized;
    ids_are = ids-are N prioritized;
    before = first-only N prioritized;
  }

pub yields-grouped-orders : {N ID S E F : Type 0} (ids : Shared F (Bor N × Unit {0}) (Bor ID)) (eq : ID → ID → Bool) (steps : S → Option (Result (Item N ID) E) → S → Type 0) → IsEquivalence eq → YieldsGroupedOrders ids eq steps
yields-grouped-orders ids eq steps laws as_id input prioritized s yielded unread run =
    runs ids eq steps laws as_id input prioritized yielded [] s (begins ids eq steps laws as_id input prioritized s unread) run

pub fails-for-cause : {N ID S E F : Type 0} (ids : Shared F (Bor N × Unit {0}) (Bor ID)) (eq : ID → ID → Bool) (steps : S → Option (Result (Item N ID) E) → S → Type 0) → IsEquivalence eq → FailsForCause ids eq steps
fails-for-cause ids eq steps laws as_id input prioritized s t yielded error unread run =
    runs-to-error ids eq steps laws as_id input prioritized yielded [] s t error (begins ids eq steps laws as_id input prioritized s unread) run
