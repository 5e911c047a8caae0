-- Runs of a grouped graph of the nodes of a log.
use Rattle.std.proofs.Common.{◌≡◌, ◌∙◌, ℕ, true, false, true≢false, Option, None, Some, Result, Ok, Err, List, [], ◌∷◌, ◌++◌, map, reverse, refl, sym, ap, subst, eqb, append_assoc}
use Rattle.std.specs.Fn.{Shared, FnReturnsAt}
use Rattle.std.specs.Iterator.{Drains, Yields}
use Rattle.std.specs.List.{AllZip, Contains}
use Rattle.std.specs.declared.convert.Infallible.{Infallible}
use Rattle.std.proofs.lemmas.Bool.Decides.{Decides-eqb}
use Rattle.std.proofs.lemmas.Cmp.{nat_eq_equiv}
use Rattle.std.proofs.lemmas.List.{map-append, reverse-append}
use denote.Ref.{Bor}
use Rattle.jj_dag.proofs.FailingOrders.{Yields-push}
use Rattle.jj_walks.specs.declared.grouped.GroupedGraphError.{GroupedGraphError}
use Rattle.jj_walks.specs.declared.grouped.GroupedGraphError.TheVariants.{Input, DuplicateId, MissingNode, NotChildFirst, Memory}
use Rattle.jj_walks.specs.declared.grouped.GroupedNodes.{GroupedNodes}
use Rattle.jj_walks.specs.GroupedLaw.{Explains, IsUnread}
use Rattle.jj_walks.specs.GroupedOrders.{AreApart, AreGrouped, IsGroupedOrder, IsWhole, has_node}
use Rattle.jj_walks.specs.GroupedSteps.{IsEntryOf, Item}
use Rattle.jj_walks.specs.PendingNodes.{item_of, listed_item}
use Rattle.jj_walks.proofs.Expanding.{at_first, first_or_rest, in_rest, in_reverse}
use Rattle.jj_walks.proofs.GroupedOrders.{apart-rest}
use Rattle.jj_walks.proofs.WholeGroupedRuns.{fails-for-cause, yields-grouped-orders}
use Rattle.jj_log.specs.LogItems.{AreItemsOf, LogItem, StopsWith, YieldsItems}
use Rattle.jj_log.specs.Logs.{IsGroupedLog, IsLog, LogNode}
use Rattle.jj_log.specs.declared.commits.NumberedCommit.{NumberedCommit}
use Rattle.jj_log.proofs.GroupedLogs.{Node, entries_of, entry_of, grouped_log}
use Rattle.jj_log.proofs.Lists.{nothing}
use Rattle.jj_log.proofs.NodeOrders.{back_in_map, unturned}
use Rattle.std.proofs.Common.{⊎_elim}

abbrev Read : Type 0
Read = Item ℕ ℕ

module _ {F : Type 0} (returns : Shared F (Bor ℕ × Unit {0}) (Bor ℕ)) (as_id : F) (says : (x : ℕ) (i : Bor ℕ) → FnReturnsAt returns as_id x i → i.now ≡ x) where
  pub entries_are : (nodes : List LogNode) (items : List Read) (entries : List Node) → map listed_item items ≡ nodes → AllZip (IsEntryOf returns eqb as_id) items entries → entries ≡ map entry_of nodes
  entries_are [] [] [] same k = refl
  entries_are [] [] (e ∷ entries) same k = absurd k
  entries_are [] (x ∷ items) entries same k = absurd cc
  entries_are (n ∷ nodes) [] entries same k = absurd cc
  entries_are (n ∷ nodes) (x ∷ items) [] same k = absurd k
  entries_are (n ∷ nodes) (x ∷ items) (e ∷ entries) same (one, rest) =
      let first : listed_item x ≡ n = cc in
      let others : map listed_item items ≡ nodes = cc in
      let node : e.node ≡ n.0 = ap (λ p. p.0) one.same ∙ ap (λ p. p.0) first in
      let edges : e.edges ≡ n.1 = ap (λ p. p.1) one.same ∙ ap (λ p. p.1) first in
      let id : e.id ≡ n.0 = sym ((Decides-eqb one.id.0.now e.id).0 one.id.2) ∙ says x.0 one.id.0 one.id.1 ∙ ap (λ p. p.0) first in
      let more = entries_are nodes items entries others rest in
      λ i. record { id = id i; node = node i; edges = edges i } ∷ more i

order_is : (order : List Node) (yielded : List Read) → AllZip (λ e x. item_of e ≡ listed_item x) order yielded → ((e : Node) → Contains order e → e ≡ entry_of (item_of e)) → order ≡ map entry_of (map listed_item yielded)
order_is [] [] k are = refl
order_is [] (x ∷ yielded) k are = absurd k
order_is (e ∷ order) [] k are = absurd k
order_is (e ∷ order) (x ∷ yielded) (one, rest) are =
    let first : e ≡ entry_of (listed_item x) = are e (at_first e order) ∙ ap entry_of one in
    let more = order_is order yielded rest (λ f h. are f (in_rest e order f h)) in
    λ i. first i ∷ more i

own_node : (nodes : List LogNode) (e : Node) → Contains (entries_of nodes) e → e ≡ entry_of (item_of e)
own_node nodes e h =
    let at = back_in_map entry_of nodes e (unturned (map entry_of nodes) e h) in
    sym at.2 ∙ ap (λ (f : Node). entry_of (item_of f)) at.2

given_read : (nodes given : List Node) → AreGrouped eqb nodes given → (e : Node) → Contains given e → Contains nodes e
given_read nodes [] k e h = nothing h
given_read nodes (f ∷ given) k e h = ⊎_elim (λ here. subst (λ (x : Node). Contains nodes x) here k.0.node) (λ there. given_read nodes given k.1 e there) (first_or_rest f given e h)

same_oks : {A E : Type 0} (xs ys : List A) → map {B = Result A E} (λ x. Ok x) xs ≡ map (λ x. Ok x) ys → xs ≡ ys
same_oks [] [] same = refl
same_oks [] (y ∷ ys) same = absurd cc
same_oks (x ∷ xs) [] same = absurd cc
same_oks {E = E} (x ∷ xs) (y ∷ ys) same =
    let first : x ≡ y = cc in
    let rest = same_oks {E = E} xs ys cc in
    λ i. first i ∷ rest i

none_failed : (front : List LogItem) (e : Infallible) (rest : List LogItem) (all : List Read) → map (λ x. Ok x) all ≡ (front ++ Err e ∷ []) ++ rest → ⊥
none_failed [] e rest [] h = cc
none_failed [] e rest (x ∷ all) h = cc
none_failed (y ∷ front) e rest [] h = cc
none_failed (y ∷ front) e rest (x ∷ all) h =
    let tail : map (λ z. Ok z) all ≡ (front ++ Err e ∷ []) ++ rest = cc in
    none_failed front e rest all tail

split_oks : (front : List Read) (x : Read) (rest : List LogItem) (all : List Read) → map {B = LogItem} (λ y. Ok y) all ≡ (map (λ y. Ok y) front ++ Ok x ∷ []) ++ rest → (back : List Read) × (all ≡ front ++ x ∷ back)
split_oks [] x rest [] h = absurd cc
split_oks [] x rest (y ∷ all) h =
    let first : y ≡ x = cc in
    (all, λ i. first i ∷ all)
split_oks (f ∷ front) x rest [] h = absurd cc
split_oks (f ∷ front) x rest (y ∷ all) h =
    let first : y ≡ f = cc in
    let more = split_oks front x rest all cc in
    (more.0, λ i. first i ∷ more.1 i)

-- no node before one has its number
not_twice : (before after : List LogNode) (n : LogNode) → IsWhole eqb (entries_of (before ++ n ∷ after)) → has_node eqb (entries_of before) n.0 ≡ false
not_twice before after n whole =
    let parts : entries_of (before ++ n ∷ after) ≡ entries_of after ++ entry_of n ∷ entries_of before =
    ap reverse (map-append entry_of before (n ∷ after)) ∙ reverse-append (map entry_of before) (entry_of n ∷ map entry_of after) ∙ ap (λ l. l ++ entries_of before) (reverse-append (entry_of n ∷ []) (map entry_of after))
    ∙ append_assoc (entries_of after) (entry_of n ∷ []) (entries_of before) in
    (apart-rest nat_eq_equiv (entries_of after) (entry_of n ∷ entries_of before) (subst (λ (l : List Node). AreApart eqb l) parts whole.apart)).0

module _ {S F : Type 0} {returns : Shared F (Bor ℕ × Unit {0}) (Bor ℕ)} {steps : S → Option LogItem → S → Type 0} {as_id : F} {input : S} {s : GroupedNodes ℕ ℕ S F}
    (says : (x : ℕ) (i : Bor ℕ) → FnReturnsAt returns as_id x i → i.now ≡ x) (unread : IsUnread returns eqb steps as_id input [] s) (nodes : List LogNode) (items : List LogItem) (are : AreItemsOf nodes items)
    (drained : (xs : List LogItem) → Drains steps input xs → xs ≡ items) (whole : IsWhole eqb (entries_of nodes)) where
  grouped_of : (yielded : List Read) → YieldsItems returns eqb steps s yielded → IsGroupedOrder eqb (entries_of nodes) None (entries_of (map listed_item yielded))
  grouped_of yielded drains =
      let run = yields-grouped-orders returns eqb steps nat_eq_equiv as_id input [] s yielded unread drains in
      let same = same_oks {E = Infallible} run.nodes are.found (drained (map (λ x. Ok x) run.nodes) run.read ∙ are.none_fails) in
      let entries = entries_are returns as_id says nodes run.nodes run.entries (ap (map listed_item) same ∙ are.same) run.have_ids in
      let grouped : IsWhole eqb (entries_of nodes) → IsGroupedOrder eqb (entries_of nodes) None (reverse run.order) =
      subst (λ (l : List Node). IsWhole eqb (reverse l) → IsGroupedOrder eqb (reverse l) None (reverse run.order)) entries run.grouped in
      let order = grouped whole in
      let is = order_is run.order yielded run.listed (λ e h. own_node nodes e (given_read (entries_of nodes) (reverse run.order) order.grouped e (in_reverse run.order e h))) in
      subst (λ (l : List Node). IsGroupedOrder eqb (entries_of nodes) None (reverse l)) is order

  pub log_of_run : (commits : List NumberedCommit) → IsLog commits nodes → (yielded : List Read) → YieldsItems returns eqb steps s yielded → IsGroupedLog commits (map listed_item yielded)
  log_of_run commits log yielded drains = grouped_log commits nodes log (map listed_item yielded) (grouped_of yielded drains)

  module _ (begun : (xs : List LogItem) (t : S) → Yields steps input xs t → (rest : List LogItem) × (items ≡ xs ++ rest)) where
    -- an input that has ended was whole
    all_read : (found : List Read) (entries : List Node) (at t : S) → Yields steps input (map (λ x. Ok x) found) at → steps at None t → AllZip (IsEntryOf returns eqb as_id) found entries → IsWhole eqb (reverse entries)
    all_read found entries at t read step have =
        let same = same_oks {E = Infallible} found are.found (drained (map (λ x. Ok x) found) (t, (at, read, step)) ∙ are.none_fails) in
        let of_nodes = entries_are returns as_id says nodes found entries (ap (map listed_item) same ∙ are.same) have in
        subst (λ (l : List Node). IsWhole eqb (reverse l)) (sym of_nodes) whole

    never_twice : (found : List Read) (entries : List Node) (node : Read) (entry : Node) (at t : S) → Yields steps input (map (λ x. Ok x) found) at → steps at (Some (Ok node)) t → AllZip (IsEntryOf returns eqb as_id) found entries
        → IsEntryOf returns eqb as_id node entry → has_node eqb (reverse entries) entry.id ≡ true → ⊥
    never_twice found entries node entry at t read step have one twice =
        let (rest, first) = begun (map (λ x. Ok x) found ++ Ok node ∷ []) t (Yields-push steps (map (λ x. Ok x) found) (Ok node) input at t read step) in
        let (back, split) = split_oks found node rest are.found (sym are.none_fails ∙ first) in
        let before = map listed_item found in
        let parts : nodes ≡ before ++ listed_item node ∷ map listed_item back = sym are.same ∙ ap (map listed_item) split ∙ map-append listed_item found (node ∷ back) in
        let of_before = entries_are returns as_id says before found entries refl have in
        let of_own : entry ∷ [] ≡ entry_of (listed_item node) ∷ [] = entries_are returns as_id says (listed_item node ∷ []) (node ∷ []) (entry ∷ []) refl (one, tt) in
        let is : entry ≡ entry_of (listed_item node) = cc in
        let new = not_twice before (map listed_item back) (listed_item node) (subst (λ (l : List LogNode). IsWhole eqb (entries_of l)) parts whole) in
        true≢false (sym twice ∙ ap (λ (e : Node). has_node eqb (reverse entries) e.id) is ∙ ap (λ l. has_node eqb (reverse l) node.0) of_before ∙ new)

    pub only_memory : (error : GroupedGraphError Infallible) → StopsWith returns eqb steps s error → error ≡ Memory
    only_memory error (yielded, t, run) =
        let failed = fails-for-cause returns eqb steps nat_eq_equiv as_id input [] s t yielded error unread run in
        by_cause failed.nodes failed.entries failed.at failed.read failed.have_ids error failed.explained
      where
        by_cause : (found : List Read) (entries : List Node) (at : S) → Yields steps input (map (λ x. Ok x) found) at → AllZip (IsEntryOf returns eqb as_id) found entries → (e : GroupedGraphError Infallible)
            → Explains returns eqb steps as_id [] entries at e → e ≡ Memory
        by_cause found entries at read have (Input e) (t, step) =
            let (rest, first) = begun (map (λ x. Ok x) found ++ Err e ∷ []) t (Yields-push steps (map (λ x. Ok x) found) (Err e) input at t read step) in
            absurd (none_failed (map (λ x. Ok x) found) e rest are.found (sym are.none_fails ∙ first))
        by_cause found entries at read have DuplicateId (t, node, entry, step, one, twice) = absurd (never_twice found entries node entry at t read step have one twice)
        by_cause found entries at read have MissingNode (t, step, lacks) = absurd (lacks (all_read found entries at t read step have) (λ i inside. nothing inside))
        by_cause found entries at read have NotChildFirst (t, step, unordered) = absurd (unordered (all_read found entries at t read step have))
        by_cause found entries at read have Memory cause = refl
