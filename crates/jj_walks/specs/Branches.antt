-- Invariant of the candidates of a grouped graph: the branch that leads to a required id.
-- Cited by contracts of public items through PendingNodes.
use Rattle.std.specs.Prelude.{◌≡◌, ◌⊎◌, Bool, true, false, not, ◌&&◌, ◌||◌, is_some, List, [], ◌∷◌, ◌++◌, Option, Some, ℕ}
use Rattle.std.specs.HashMap.{HashMap}
use Rattle.std.specs.Global.{Global}
use Rattle.std.specs.VecDeque.{deque_items}
use Rattle.std.specs.declared.vec.Vec.{Vec}
use Rattle.jj_walks.specs.declared.candidates.Candidates.{Candidates}
use Rattle.jj_walks.specs.Candidates.{has_id, is_listed, is_positive}
use Rattle.jj_walks.specs.ListsByKey.{items_at}
use Rattle.jj_walks.specs.Grouped.{History, AreReadChildFirst, ReachesId, first_prioritized, yielded_nodes, has_edge, read_nodes}

module _ {ID : Type 0} where
  module _ (eq : ID → ID → Bool) where
    -- whether the second id is among those listed at the first
    abbrev pub has_child : {S : Type 0} → HashMap ID (Vec ID Global) S → ID → ID → Bool
    has_child children parent i = has_id eq (items_at eq children parent) i

    -- the last blocked id was removed, and its children became the candidates
    pub record Unblocks (s t : Candidates ID) : Type 0 where
      pub parent : ID
      pub blocked : s.blocked.items ≡ t.blocked.items ++ parent ∷ []
      pub ids : (i : ID) → has_id eq t.ids.items i ≡ has_child s.children parent i
      pub children : (j i : ID)
          → has_child t.children j i ≡ (not (eq parent j) && has_child s.children j i)

    -- none was blocked, and the first head became the candidate
    pub record TakesHead (s t : Candidates ID) : Type 0 where
      pub head : ID
      pub none : s.blocked.items ≡ []
      pub heads : deque_items s.heads ≡ head ∷ deque_items t.heads
      pub ids : t.ids.items ≡ head ∷ []
      pub blocked : t.blocked.items ≡ []
      pub children : t.children ≡ s.children

    module _ (edge : ID → ID → Bool) where
      -- none was a candidate yet, and each id is listed at those that it has an edge to
      pub record IsUntaken (listed : List ID) (s : Candidates ID) : Type 0 where
        pub ids : s.ids.items ≡ []
        pub blocked : s.blocked.items ≡ []
        pub heads : deque_items s.heads ≡ listed
        pub children : (j i : ID) → has_child s.children j i ≡ edge i j

      -- The candidates, unblocked and blocked, reach the required id. Some were replaced by their
      -- children: each child is listed, a candidate or replaced too, and a replaced id has one
      -- that is a candidate or replaced.
      pub record Climbs (required : ID) (free blocked : List ID) (lists : ID → ID → Bool) : Type 0
        where
          pub replaced : ID → Bool
          pub alike : (i j : ID) → eq i j ≡ true → replaced i ≡ replaced j
          pub reaches : (i : ID) → is_listed eq free blocked i ≡ true → ReachesId eq edge i required
          pub has_child : (j : ID) → has_id eq blocked j ≡ true → (i : ID) × (edge i j ≡ true)
          pub sound : (j i : ID) → lists j i ≡ true → edge i j ≡ true
          pub whole : (j i : ID) → edge i j ≡ true
              → (lists j i || (is_listed eq free blocked i || replaced i)) ≡ true
          pub required_is : (is_listed eq free blocked required || replaced required) ≡ true
          pub next : (j : ID) → replaced j ≡ true
              → (i : ID) × (edge i j ≡ true) × ((is_listed eq free blocked i || replaced i) ≡ true)

      -- the branch that is yielded first leads to the required id
      abbrev pub IsFirstBranch : ID → Candidates ID → Type 0
      IsFirstBranch required s = ((head : ID) × (rest : List ID) × (eq head required ≡ true)
          × IsUntaken (head ∷ rest) s)
          ⊎ Climbs required s.ids.items s.blocked.items (has_child s.children)

      -- the counts are of these edges, which have no cycle
      pub record AreCounts (count : ID → Option ℕ) (required : ID) : Type 0 where
        pub known : (i : ID) → ReachesId eq edge i required → is_some (count i) ≡ true
        pub child : (j : ID) → is_positive (count j) ≡ true → (i : ID) × (edge i j ≡ true)
        pub founded : (is_in : ID → Bool) → ((i j : ID) → eq i j ≡ true → is_in i ≡ is_in j)
            → ((j : ID) → is_in j ≡ true → (i : ID) × (edge i j ≡ true) × (is_in i ≡ true))
            → (j : ID) → is_in j ≡ true → ⊥

module _ {N ID : Type 0} (eq : ID → ID → Bool) where
  -- the invariant of the branch that is yielded first, until a node is yielded
  pub record KeepsBranch (h : History N ID) (s : Candidates ID) : Type 0 where
    pub begun : h ≡ [] → IsUntaken eq (λ _ _. false) [] s
    pub first : yielded_nodes h ≡ [] → AreReadChildFirst eq (read_nodes h) → (required : ID)
        → first_prioritized h ≡ Some required
        → IsFirstBranch eq (has_edge eq (read_nodes h)) required s
