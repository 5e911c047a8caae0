use Rattle.std.proofs.Common.{◌≡◌, ◌-◌, ◌++◌, ◌∷◌, [], List, true, true≢false, Some, None, is_some, inr, cond, count_by, sym, ◌∙◌, ap, subst, append-nil}
use Rattle.std.specs.HashMap.{get}
use Rattle.std.specs.HashMap.Eq.{lookup_congr}
use Rattle.std.specs.Option.{option_map}
use Rattle.std.specs.VecDeque.{deque_items}
use Rattle.jj_walks.specs.Candidates.{AreSameIds, count_of, is_zero}
use Rattle.jj_walks.specs.Grouped.{IsOfFirstBranch, yielded_nodes, has_edge, leads_to, read_nodes, targets_of}
use Rattle.jj_walks.specs.PendingNodes.{item_of, listed_item}
use Rattle.jj_walks.proofs.Branches.{branch-gave, climbs-reaches, counts-are, reaches-alike}
use Rattle.jj_walks.proofs.HistoryLists.{find-passes}
use Rattle.jj_walks.proofs.KeptHistories.{keeps-gave, keeps-taken, mapped-out, none-free, some-mapped, unread-required}
use Rattle.jj_walks.proofs.pending_nodes.PendingNodes.pop_ready.Goals as goal

pub returns-in_default-clause-taken : goal.returns-in_default-clause-taken
returns-in_default-clause-taken g c = λ h k.
    let eq = g.ID.PartialEq.eq in
    let old = c.args.self.now in
    let new = c.take.new.self in
    let is : c.in_ok-id.field-0 ≡ None = c.in_default.is in
    let listed = rw (is, append-nil) at c.in_ok-id.ensures.listed in
    let follows = rw (is, append-nil) at c.in_ok-id.ensures.follows in
    let none = rw is at c.in_ok-id.ensures.taken in
    let branch = rw is at c.in_ok-id.ensures.branch in
    let alike = λ (x : g.row.ID.Denot) (y : g.row.ID.Denot). lookup_congr eq g.met.ID.Eq.laws.congr old.counts.entries x y in
    let history = keeps-taken eq h (λ i. option_map listed_item (get eq old.nodes i)) (get eq old.counts) old.candidates.ids.items new.ids.items (deque_items old.candidates.heads)
    (deque_items new.heads) listed follows k.history in (
      record {
        history = history;
        branch = record {
          begun = λ e. (c.in_ok-id.ensures.begun (k.branch.begun e)).1;
          first = λ none order required first.
              let counts = counts-are g.met.ID.Eq.laws h _ (get eq old.counts) _ _ required alike none order first k.history in
              absurd (true≢false (sym (branch (has_edge eq (read_nodes h)) required counts (k.branch.first none order required first)).0));
        };
      },
      none-free eq h _ (get eq old.counts) new.ids.items (deque_items new.heads) none.0 none.1 history,
    )

pub returns-in_default-remove-clause-taken : goal.returns-in_default-remove-clause-taken
returns-in_default-remove-clause-taken g c = λ h k.
    let eq = g.ID.PartialEq.eq in
    let old = c.args.self.now in
    let id = c.in-Some.id in
    let is : c.in_ok-id.field-0 ≡ Some id = c.in-Some.is in
    let pushed : c.push.new.self.ids.items ≡ c.take.new.self.ids.items ++ id ∷ [] = c.in_ok-push.ensures.ids in
    let heads : c.push.new.self.heads ≡ c.take.new.self.heads = c.push.ensures.heads in
    let blocked : c.push.new.self.blocked ≡ c.take.new.self.blocked = c.push.ensures.blocked in
    let children : c.push.new.self.children ≡ c.take.new.self.children = c.push.ensures.children in
    let listed = rw is at c.in_ok-id.ensures.listed in
    let follows = rw is at c.in_ok-id.ensures.follows in
    let zero_count : is_zero (get eq old.counts id) ≡ true = rw is at c.in_ok-id.ensures.taken in
    let branch = rw is at c.in_ok-id.ensures.branch in
    let absent : get eq old.nodes id ≡ None = sym c.remove.ensures.value ∙ c.in_default-remove.is in
    let unchanged : c.remove.new.self.entries ≡ old.nodes.entries = (rw c.in_default-remove.is at c.remove.ensures.unchanged) in
    let alike = λ (x : g.row.ID.Denot) (y : g.row.ID.Denot). lookup_congr eq g.met.ID.Eq.laws.congr old.counts.entries x y in
    let history = keeps-taken eq h (λ i. option_map listed_item (get eq old.nodes i)) (get eq old.counts) old.candidates.ids.items (c.take.new.self.ids.items ++ id ∷ []) (deque_items old.candidates.heads)
    (deque_items c.take.new.self.heads) listed follows k.history in
    let required = unread-required eq h (λ i. option_map listed_item (get eq old.nodes i)) (get eq old.counts) old.candidates.ids.items (deque_items old.candidates.heads) id zero_count
    (ap (option_map listed_item) absent) k.history in (
      record {
        history = rw (unchanged, pushed, heads) history;
        branch = record {
          begun = λ e. let some : None ≡ Some id = sym (c.in_ok-id.ensures.begun (k.branch.begun e)).0 ∙ is in cc;
          first = λ none order required first.
              let counts = counts-are g.met.ID.Eq.laws h _ (get eq old.counts) _ _ required alike none order first k.history in
              inr (rw (pushed, blocked, children) (branch (has_edge eq (read_nodes h)) required counts (k.branch.first none order required first)).1);
        };
      },
      (id, required.0, required.1),
    )

pub returns-clause-taken : goal.returns-clause-taken
returns-clause-taken g c = λ h k.
    let eq = g.ID.PartialEq.eq in
    let id = c.in-Some.id in
    let old = c.args.self.now in
    let is : c.in_ok-id.field-0 ≡ Some id = c.in-Some.is in
    let listed = rw is at c.in_ok-id.ensures.listed in
    let follows = rw is at c.in_ok-id.ensures.follows in
    let zero_count : is_zero (get eq old.counts id) ≡ true = rw is at c.in_ok-id.ensures.taken in
    let taken = keeps-taken eq h (λ i. option_map listed_item (get eq old.nodes i)) (get eq old.counts) old.candidates.ids.items (c.take.new.self.ids.items ++ id ∷ []) (deque_items old.candidates.heads)
    (deque_items c.take.new.self.heads) listed follows k.history in
    let alike = λ (x : g.row.ID.Denot) (y : g.row.ID.Denot). lookup_congr eq g.met.ID.Eq.laws.congr old.counts.entries x y in
    let removed : get eq old.nodes id ≡ Some (c.in-Some-remove.node, c.in-Some-remove.edges) = sym c.remove.ensures.value ∙ c.in-Some-remove.is in
    let found = some-mapped item_of _ _ (sym (ap (option_map listed_item) removed) ∙ k.history.nodes id) in
    let e = found.0 in
    let edges : c.deref.result.now ≡ e.edges = c.deref.ensures.value ∙ ap (λ x. x.1) found.2 in
    let edges2 : c.deref-2.result.now ≡ e.edges = c.deref-2.ensures.value ∙ ap (λ x. x.1) found.2 in
    let pushed = c.in_ok-push_targets.ensures.ids in
    let heads : c.push_targets.new.self.heads ≡ c.take.new.self.heads = c.push_targets.ensures.heads in
    let branch = rw is at c.in_ok-id.ensures.branch in
    let its_id : eq e.id id ≡ true = find-passes eq (λ f. eq f.id id) _ e found.1 in
    let first : yielded_nodes h ≡ [] → IsOfFirstBranch eq h e = λ none order required first.
    let counts = counts-are g.met.ID.Eq.laws h _ (get eq old.counts) _ _ required alike none order first k.history in
    let climbs = branch (has_edge eq (read_nodes h)) required counts (k.branch.first none order required first) in
    reaches-alike g.met.ID.Eq.laws (read_nodes h) e.id id required its_id (climbs-reaches g.met.ID.Eq.laws (has_edge eq (read_nodes h)) required c.take.new.self.ids.items c.take.new.self.blocked.items id _ climbs.1) in (
      e,
      sym found.2,
      record {
        history = rw (pushed.1, heads) (keeps-gave g.met.ID.Eq.laws h (λ i. option_map listed_item (get eq old.nodes i)) (λ i. option_map listed_item (get eq c.remove.new.self i))
            (get eq old.counts) (get eq c.uncount_edges.new.counts) c.take.new.self.ids.items pushed.0 (deque_items c.take.new.self.heads) id e
            alike found.1 zero_count
            (λ q. mapped-out listed_item (eq id q) (get eq c.remove.new.self q) (get eq old.nodes q) (c.remove.ensures.updates.0 q))
            (λ q. c.uncount_edges.ensures.known q ∙ ap is_some (c.remove-2.ensures.updates.0 q))
            (λ q. c.uncount_edges.ensures.counts q ∙ ap (λ o. count_of o - count_by (leads_to eq q) c.deref.result.now) (c.remove-2.ensures.updates.0 q) ∙ ap (λ l. count_of (cond (eq id q) None (get eq old.counts q)) - count_by (leads_to eq q) l) edges)
            (subst (λ (l : List _). AreSameIds eq (targets_of l) pushed.0) edges2 pushed.2)
            first taken);
        branch = branch-gave g.met.ID.Eq.laws h c.push_targets.new.self e;
      },
    )
