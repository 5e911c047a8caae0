use Rattle.std.proofs.Common.{◌≡◌, ◌+◌, ◌||◌, ◌&&◌, ◌++◌, cond, None, is_some, count_by, sym, ◌∙◌, ap}
use Rattle.std.specs.HashMap.{get, hash_map_len}
use Rattle.std.specs.List.{list_any}
use Rattle.std.specs.Option.{option_map}
use Rattle.std.specs.VecDeque.{deque_items}
use Rattle.jj_walks.specs.Candidates.{count_at, has_id}
use Rattle.jj_walks.specs.Grouped.{Entry, leads_to}
use Rattle.jj_walks.specs.PendingNodes.{listed_item}
use Rattle.jj_walks.specs.Branches.{has_child}
use Rattle.jj_walks.proofs.Branches.{branch-read}
use Rattle.jj_walks.proofs.KeptHistories.{keeps-read, listed-more, head-listed, mapped-put}
use Rattle.jj_walks.proofs.pending_nodes.PendingNodes.insert.Goals as goal

pub returns-clause-pending : goal.returns-clause-pending
returns-clause-pending g c = λ h k.
    let eq = g.ID.PartialEq.eq in
    let ids : c.list_head.new.candidates.ids ≡ c.args.self.now.candidates.ids = c.list_head.ensures.ids ∙ c.remember.ensures.ids in
    let heads : c.remember.new.self.heads ≡ c.args.self.now.candidates.heads = c.remember.ensures.heads in
    let edges : c.deref.result.now ≡ c.args.edges.items = c.deref.ensures.value in
    let edges2 : c.deref-2.result.now ≡ c.args.edges.items = c.deref-2.ensures.value in
    let old = c.args.self.now.candidates in
    let e : Entry g.row.N.Denot g.row.ID.Denot = record { id = c.args.id; node = c.args.node; edges = c.args.edges.items } in
    let known : (q : g.row.ID.Denot) → is_some (get eq c.count_edges.new.counts q) ≡ (list_any (leads_to eq q) c.args.edges.items || is_some (get eq c.args.self.now.counts q)) =
    λ q. c.in_ok-count_edges.ensures.known q ∙ ap (λ l. list_any (leads_to eq q) l || is_some (get eq c.args.self.now.counts q)) edges in
    let more = c.in_ok-list_head.ensures.heads in
    record {
      history = rw ids (keeps-read g.met.ID.Eq.laws h (λ i. option_map listed_item (get eq c.args.self.now.nodes i)) (λ i. option_map listed_item (get eq c.insert.new.self i))
          (get eq c.args.self.now.counts) (get eq c.list_head.new.counts) old.ids.items (deque_items old.heads) (deque_items c.list_head.new.candidates.heads) e
          (ap (option_map listed_item) c.requires.absent)
          (λ q. mapped-put listed_item (eq c.args.id q) (c.args.node, c.args.edges) (get eq c.insert.new.self q) (get eq c.args.self.now.nodes q) (c.in_ok-insert.ensures.updates.0 q))
          (λ q. c.in_ok-list_head.ensures.known q ∙ ap (λ b. eq c.args.id q || b) (known q))
          (λ q. c.in_ok-list_head.ensures.counts q ∙ c.in_ok-count_edges.ensures.counts q ∙ ap (λ l. count_at eq c.args.self.now.counts q + count_by (leads_to eq q) l) edges)
          (λ q l. listed-more eq old.ids.items (deque_items old.heads) (deque_items c.list_head.new.candidates.heads) q
          (λ has. c.in_ok-list_head.ensures.kept q (ap (λ d. has_id eq (deque_items d) q) heads ∙ has)) l)
          (λ q same. head-listed eq old.ids.items (deque_items c.list_head.new.candidates.heads) q (list_any (leads_to eq q) c.args.edges.items || is_some (get eq c.args.self.now.counts q))
          (ap (λ b. b || has_id eq (deque_items c.list_head.new.candidates.heads) q) (sym (known q)) ∙ c.in_ok-list_head.ensures.head q same))
          k.history);
      branch = branch-read g.met.ID.Eq.laws h old c.list_head.new.candidates e more.0 ids (c.list_head.ensures.blocked ∙ c.remember.ensures.blocked)
          (more.1 ∙ ap (λ d. deque_items d ++ more.0) heads)
          (λ j i. ap (λ m. has_child eq m j i) c.list_head.ensures.children ∙ c.in_ok-remember.ensures.children j i ∙ ap (λ l. has_child eq old.children j i || (list_any (leads_to eq j) l && eq c.args.id i)) edges2)
          k.branch;
    }

pub returns-clause-len : goal.returns-clause-len
returns-clause-len g c =
    let old : c.in_ok-insert.field-0 ≡ None = c.in_ok-insert.ensures.old ∙ c.requires.absent in
    c.in_ok-insert.ensures.len ∙ ap (λ o. hash_map_len c.args.self.now.nodes + cond (is_some o) 0 1) old
