-- States of nodes in a search for common nodes: the sets that are known to reach them.
-- Machinery of private functions and fields.
use Rattle.std.specs.Prelude.{◌≡◌, ℕ, ◌+◌, Bool, false, not, ◌&&◌, ◌||◌, cond, List, [], ◌∷◌, ◌++◌, map, filter, Option, None, Some, MatchBool}
use Rattle.std.specs.List.{Contains, sum_by}
use Rattle.std.specs.List.Sorted.{IsPermutation}
use Rattle.std.specs.Map.{lookup, values_of}
use Rattle.jj_dag.specs.Walk.{DrainsTo}
use Rattle.jj_dag.specs.declared.closest_common.Sides.{Sides}
use Rattle.jj_dag.specs.declared.closest_common.NodeState.{NodeState}

-- the state of a node that was not found yet
abbrev pub new_state : NodeState
new_state = record {
  sides = record { left = false; right = false; below = false };
  is_pending = false;
}

abbrev pub state_of : Option NodeState → NodeState
state_of None = new_state
state_of (Some state) = state

-- the state that a map with these entries has for an id
abbrev pub state_at : {ID : Type 0} → (ID → ID → Bool) → List (ID × NodeState) → ID → NodeState
state_at eq entries id = state_of (lookup (eq id) entries)

-- the sides of both
abbrev pub union_of_sides : Sides → Sides → Sides
union_of_sides known added = record {
  left = known.left || added.left;
  right = known.right || added.right;
  below = known.below || added.below;
}

-- another set reaches the node
abbrev pub adds_side : Sides → Sides → Bool
adds_side known added = (added.left && not known.left) || (added.right && not known.right)

-- the sides that a node passes to its neighbors
abbrev pub propagated : Sides → Sides
propagated known = record {
  left = known.left;
  right = known.right;
  below = known.left && known.right;
}

-- the state with more sides; the node becomes pending if another set reaches it
abbrev pub state_with : NodeState → Sides → NodeState
state_with state added = record {
  sides = union_of_sides state.sides added;
  is_pending = state.is_pending || adds_side state.sides added;
}

-- the node becomes pending by these sides
abbrev pub becomes_pending : NodeState → Sides → Bool
becomes_pending state added = adds_side state.sides added && not state.is_pending

-- the state of a node that is no longer pending
abbrev pub no_longer_pending : NodeState → NodeState
no_longer_pending state = record { sides = state.sides; is_pending = false }

-- how many sets reach the node, as far as is known
abbrev pub side_count : NodeState → ℕ
side_count state = cond state.sides.left 1 0 + cond state.sides.right 1 0

-- the sum over all nodes with a state
abbrev pub sides_met : {ID : Type 0} → List (ID × NodeState) → ℕ
sides_met entries = sum_by side_count (values_of entries)

-- the candidates that no common node is known to reach
abbrev pub closest_of : {T ID : Type 0} → (ID → NodeState) → List (ID × T) → List T
closest_of find common = map (λ entry. entry.1)
    (filter (λ entry. not (find entry.0).sides.below) common)

-- the sides were added to the state of the node x of this id, which is pending now if it became so
pub record RelaxesNode {T ID : Type 0} (eq : ID → ID → Bool) (added : Sides) (x : T) (i : ID)
    (find find2 : ID → NodeState) (pending pending2 : List T) : Type 0 where
  pub states : (q : ID) → find2 q ≡ cond (eq i q) (state_with (find i) added) (find q)
  pub is_pending : MatchBool (becomes_pending (find i) added) (IsPermutation (x ∷ pending) pending2)
      (pending2 ≡ pending)

-- the sides were added to the states of the nodes of a list, with these ids, one after the other
pub data RelaxesNodes {T ID : Type 0} (eq : ID → ID → Bool) (is_id : T → ID → Type 0)
    (added : Sides) (find : ID → NodeState) (pending : List T)
    : List T → (ID → NodeState) → List T → Type 0 where
  none : RelaxesNodes eq is_id added find pending [] find pending
  more : {xs : List T} {find2 find3 : ID → NodeState} {pending2 pending3 : List T} (x : T) (i : ID)
      → RelaxesNodes eq is_id added find pending xs find2 pending2 → is_id x i
      → RelaxesNode eq added x i find2 find3 pending2 pending3
      → RelaxesNodes eq is_id added find pending (xs ++ x ∷ []) find3 pending3

-- the sides were added to the states of the nodes that an iterator of this value yields, and
-- `empty` is whether there was none
pub record RelaxesAll {T ID U S : Type 0} (eq : ID → ID → Bool) (is_id : T → ID → Type 0)
    (becomes : U → S → Type 0) (steps : S → Option T → S → Type 0) (value : U) (added : Sides)
    (find find2 : ID → NodeState) (pending pending2 : List T) (empty : Bool) : Type 0 where
  pub nodes : List T
  pub drained : DrainsTo becomes steps value nodes
  pub states : RelaxesNodes eq is_id added find pending nodes find2 pending2
  pub none : MatchBool empty (nodes ≡ []) ((x : T) × Contains nodes x)
