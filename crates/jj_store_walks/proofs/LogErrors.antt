-- A grouped graph of commits in topological order only fails out of memory.
use Rattle.std.proofs.Common.{◌≡◌, ℕ, true, false, true≢false, Option, None, Some, Result, Ok, Err, List, [], ◌∷◌, ◌++◌, map, reverse, refl, sym, ◌∙◌, ap, subst, append_assoc}
use Rattle.std.specs.Fn.{Shared, FnReturnsAt}
use Rattle.std.specs.Iterator.{Drains, Yields}
use Rattle.std.specs.List.{AllZip}
use Rattle.std.specs.Str.{bytes_eq}
use Rattle.std.proofs.lemmas.Cmp.{nat_list_eq_equiv}
use Rattle.std.proofs.lemmas.List.{map-append, reverse-append}
use denote.Ref.{Bor}
use Rattle.jj_dag.proofs.FailingOrders.{Yields-push}
use Rattle.jj_dag.proofs.Wrapped.{ok_same}
use Rattle.jj_walks.specs.declared.grouped.GroupedGraphError.{GroupedGraphError}
use Rattle.jj_walks.specs.declared.grouped.GroupedGraphError.TheVariants.{Input, DuplicateId, MissingNode, NotChildFirst, Memory}
use Rattle.jj_walks.specs.declared.grouped.GroupedNodes.{GroupedNodes}
use Rattle.jj_walks.specs.Grouped.{Entry}
use Rattle.jj_walks.specs.GroupedLaw.{Explains, IsUnread}
use Rattle.jj_walks.specs.GroupedOrders.{AreApart, IsWhole, has_node}
use Rattle.jj_walks.specs.GroupedSteps.{IsEntryOf, Item}
use Rattle.jj_walks.specs.PendingNodes.{listed_item}
use Rattle.jj_walks.proofs.DistinctLists.{nothing}
use Rattle.jj_walks.proofs.GroupedOrders.{apart-rest}
use Rattle.jj_walks.proofs.OkLists.{no_error_in, split_oks}
use Rattle.jj_walks.proofs.WholeGroupedRuns.{fails-for-cause}
use Rattle.jj_store_walks.specs.Logs.{AreLogItems, StopsWith, direct_edges, log_node, log_nodes}
use Rattle.jj_store_walks.specs.declared.order.HistoryError.{HistoryError}
use Rattle.jj_store_walks.specs.declared.read_commit.ReadCommit.{ReadCommit}
use Rattle.jj_store_walks.proofs.LogOrders.{entries_are}

abbrev Node : Type 0
Node = Entry ReadCommit (List ℕ)

abbrev Read : Type 0
Read = Item ReadCommit (List ℕ)

abbrev Found : Type 0
Found = Result Read HistoryError

-- the commits of the items up to one, and its own
split_commits : (front : List Read) (x : Read) (back : List Read) (commits : List ReadCommit) → map listed_item (front ++ x ∷ back) ≡ map (λ d. (d, direct_edges d.commit.parents)) commits
    → (before : List ReadCommit) × (c : ReadCommit) × (after : List ReadCommit) × (commits ≡ before ++ c ∷ after) × (map listed_item front ≡ map (λ d. (d, direct_edges d.commit.parents)) before) × (listed_item x ≡ (c, direct_edges c.commit.parents))
split_commits [] x back [] h = absurd cc
split_commits [] x back (c ∷ commits) h =
    let first : listed_item x ≡ (c, direct_edges c.commit.parents) = cc in
    ([], c, commits, refl, refl, first)
split_commits (f ∷ front) x back [] h = absurd cc
split_commits (f ∷ front) x back (d ∷ commits) h =
    let first : listed_item f ≡ (d, direct_edges d.commit.parents) = cc in
    let (before, c, after, split, same, own) = split_commits front x back commits cc in
    (d ∷ before, c, after, ap (λ l. d ∷ l) split, (λ i. first i ∷ same i), own)

-- no commit before one has its id
not_twice : (before after : List ReadCommit) (c : ReadCommit) → IsWhole bytes_eq (log_nodes (before ++ c ∷ after)) → has_node bytes_eq (log_nodes before) c.id ≡ false
not_twice before after c whole =
    let parts : log_nodes (before ++ c ∷ after) ≡ log_nodes after ++ log_node c ∷ log_nodes before =
    ap reverse (map-append log_node before (c ∷ after)) ∙ reverse-append (map log_node before) (log_node c ∷ map log_node after) ∙ ap (λ l. l ++ log_nodes before) (reverse-append (log_node c ∷ []) (map log_node after))
    ∙ append_assoc (log_nodes after) (log_node c ∷ []) (log_nodes before) in
    (apart-rest nat_list_eq_equiv (log_nodes after) (log_node c ∷ log_nodes before) (subst (λ (l : List Node). AreApart bytes_eq l) parts whole.apart)).0

module _ {S F : Type 0} {returns : Shared F (Bor ReadCommit × Unit {0}) (Bor (List ℕ))} {steps : S → Option Found → S → Type 0} {as_id : F} {input : S} {s : GroupedNodes ReadCommit (List ℕ) S F}
    (says : (x : ReadCommit) (i : Bor (List ℕ)) → FnReturnsAt returns as_id x i → i.now ≡ x.id) (unread : IsUnread returns bytes_eq steps as_id input [] s) (commits : List ReadCommit) (items : List Found) (are : AreLogItems commits items)
    (drained : (xs : List Found) → Drains steps input xs → xs ≡ items) (begun : (xs : List Found) (t : S) → Yields steps input xs t → (rest : List Found) × (items ≡ xs ++ rest)) (whole : IsWhole bytes_eq (log_nodes commits)) where
  -- an input that has ended was whole
  all_read : (nodes : List Read) (entries : List Node) (at t : S) → Yields steps input (map (λ x. Ok x) nodes) at → steps at None t → AllZip (IsEntryOf returns bytes_eq as_id) nodes entries → IsWhole bytes_eq (reverse entries)
  all_read nodes entries at t read step have =
      let same = ok_same HistoryError nodes are.0 (drained (map (λ x. Ok x) nodes) (t, (at, read, step)) ∙ are.1) in
      let of_commits = entries_are returns as_id says commits nodes entries (ap (map listed_item) same ∙ are.2) have in
      subst (λ (l : List Node). IsWhole bytes_eq (reverse l)) (sym of_commits) whole

  never_twice : (nodes : List Read) (entries : List Node) (node : Read) (entry : Node) (at t : S) → Yields steps input (map (λ x. Ok x) nodes) at → steps at (Some (Ok node)) t → AllZip (IsEntryOf returns bytes_eq as_id) nodes entries
      → IsEntryOf returns bytes_eq as_id node entry → has_node bytes_eq (reverse entries) entry.id ≡ true → ⊥
  never_twice nodes entries node entry at t read step have one twice =
      let (rest, first) = begun (map (λ x. Ok x) nodes ++ Ok node ∷ []) t (Yields-push steps (map (λ x. Ok x) nodes) (Ok node) input at t read step) in
      let (back, split) = split_oks nodes node rest are.0 (sym are.1 ∙ first) in
      let (before, c, after, parts, same, own) = split_commits nodes node back commits (ap (map listed_item) (sym split) ∙ are.2) in
      let of_before = entries_are returns as_id says before nodes entries same have in
      let of_own : entry ∷ [] ≡ log_node c ∷ [] = entries_are returns as_id says (c ∷ []) (node ∷ []) (entry ∷ []) (λ i. own i ∷ []) (one, tt) in
      let is : entry ≡ log_node c = cc in
      let new = not_twice before after c (subst (λ (l : List ReadCommit). IsWhole bytes_eq (log_nodes l)) parts whole) in
      true≢false (sym twice ∙ ap (λ e. has_node bytes_eq (reverse entries) e.id) is ∙ ap (λ l. has_node bytes_eq (reverse l) c.id) of_before ∙ new)

  pub only_memory : (error : GroupedGraphError HistoryError) → StopsWith returns bytes_eq steps s error → error ≡ Memory
  only_memory error (yielded, t, run) =
      let failed = fails-for-cause returns bytes_eq steps nat_list_eq_equiv as_id input [] s t yielded error unread run in
      by_cause failed.nodes failed.entries failed.at failed.read failed.have_ids error failed.explained
    where
      by_cause : (nodes : List Read) (entries : List Node) (at : S) → Yields steps input (map (λ x. Ok x) nodes) at → AllZip (IsEntryOf returns bytes_eq as_id) nodes entries → (e : GroupedGraphError HistoryError)
          → Explains returns bytes_eq steps as_id [] entries at e → e ≡ Memory
      by_cause nodes entries at read have (Input e) (t, step) =
          let (rest, first) = begun (map (λ x. Ok x) nodes ++ Err e ∷ []) t (Yields-push steps (map (λ x. Ok x) nodes) (Err e) input at t read step) in
          absurd (no_error_in (map (λ x. Ok x) nodes) e rest are.0 (sym are.1 ∙ first))
      by_cause nodes entries at read have DuplicateId (t, node, entry, step, one, twice) = absurd (never_twice nodes entries node entry at t read step have one twice)
      by_cause nodes entries at read have MissingNode (t, step, lacks) = absurd (lacks (all_read nodes entries at t read step have) (λ i inside. nothing inside))
      by_cause nodes entries at read have NotChildFirst (t, step, unordered) = absurd (unordered (all_read nodes entries at t read step have))
      by_cause nodes entries at read have Memory cause = refl
