-- The pending nodes of a grouped graph represent its history.
-- Cited by contracts of public items: Adds, Keeps, KeepsOn, listed_item.
use Rattle.std.specs.Prelude.{◌≡◌, ◌+◌, ℕ, Bool, true, List, ◌∷◌, is_some, Option, None}
use Rattle.std.specs.Option.{option_map}
use Rattle.std.specs.HashMap.{get}
use Rattle.std.specs.Global.{Global}
use Rattle.std.specs.VecDeque.{deque_items}
use Rattle.std.specs.declared.vec.Vec.{Vec}
use Rattle.jj_walks.specs.declared.graph.GraphEdge.{GraphEdge}
use Rattle.jj_walks.specs.declared.pending_nodes.PendingNodes.{PendingNodes}
use Rattle.jj_walks.specs.declared.pending_nodes.Ready.{Ready}
use Rattle.jj_walks.specs.declared.pending_nodes.Ready.TheVariants.{Node, Unread, Nothing}
use Rattle.jj_walks.specs.Candidates.{AreToFollow, count_of, is_listed, is_zero}
use Rattle.jj_walks.specs.Branches.{KeepsBranch}
use Rattle.jj_walks.specs.Grouped.{Entry, Event, History, Yielded, IsHistory, pending_in_degree, pending_at, is_known, is_required, last_edges, targets_of}

module _ {N ID : Type 0} where
  -- the node with its edges
  abbrev pub item_of : Entry N ID → N × List (GraphEdge ID)
  item_of e = (e.node, e.edges)

  -- a node with its edges, as a list
  abbrev pub listed_item : N × Vec (GraphEdge ID) Global → N × List (GraphEdge ID)
  listed_item x = (x.0, x.1.items)

  module _ (eq : ID → ID → Bool) where
    -- Maps and lists that represent a history: the node of each pending id, the in-degree of each
    -- known id over pending nodes, and lists that contain each known id without a pending child.
    pub record KeepsHistory (h : History N ID) (node_at : ID → Option (N × List (GraphEdge ID)))
        (count : ID → Option ℕ) (candidates heads : List ID) : Type 0 where
      pub is_history : IsHistory eq h
      pub nodes : (i : ID) → node_at i ≡ option_map item_of (pending_at eq h i)
      pub known : (i : ID) → is_some (count i) ≡ is_known eq h i
      pub counts : (i : ID) → count_of (count i) ≡ pending_in_degree eq h i
      pub listed : (i : ID) → is_zero (count i) ≡ true → is_listed eq candidates heads i ≡ true
      pub follows : AreToFollow eq count (targets_of (last_edges h)) candidates

    -- s represents this history
    pub record Keeps (h : History N ID) (s : PendingNodes N ID) : Type 0 where
      pub history : KeepsHistory h (λ i. option_map listed_item (get eq s.nodes i))
          (get eq s.counts) s.candidates.ids.items (deque_items s.candidates.heads)
      pub branch : KeepsBranch eq h s.candidates

    -- t represents each history that s represents
    abbrev pub KeepsOn : PendingNodes N ID → PendingNodes N ID → Type 0
    KeepsOn s t = (h : History N ID) → Keeps h s → Keeps h t

    -- t represents each history that s represents, extended by this event
    abbrev pub Adds : Event N ID → PendingNodes N ID → PendingNodes N ID → Type 0
    Adds event s t = (h : History N ID) → Keeps h s → Keeps (event ∷ h) t

    -- the node that comes next, or why none is ready
    abbrev pub TakesNext : History N ID → Ready N ID → PendingNodes N ID → Type 0
    TakesNext h (Node x) t = (e : Entry N ID) × (item_of e ≡ listed_item x)
        × Keeps (Yielded e ∷ h) t
    TakesNext h Unread t = Keeps h t × ((i : ID) × (is_required eq h i ≡ true)
        × (pending_at eq h i ≡ None))
    TakesNext h Nothing t = Keeps h t × ((i : ID) → is_known eq h i ≡ true
        → pending_in_degree eq h i ≡ 0 → ⊥)

-- one node fewer is pending
abbrev pub len_after : {N ID : Type 0} → Ready N ID → ℕ → ℕ
len_after (Node x) n = n + 1
len_after Unread n = n
len_after Nothing n = n
