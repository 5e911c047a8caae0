-- Candidates for the next node: in-degrees by id, and lists of ids.
-- Cited by contracts of public items through Branches, PendingNodes.
use Rattle.std.specs.Prelude.{◌≡◌, ℕ, ◌+◌, ◌*◌, ◌^◌, ◌==◌, Bool, true, false, ◌||◌, not, is_some, List, ◌++◌, length, Option, None, Some}
use Rattle.std.specs.List.{list_any, list_all, AllZip}
use Rattle.std.specs.HashMap.{HashMap, get, hash_map_len}
use Rattle.std.specs.VecDeque.{deque_len}
use Rattle.jj_walks.specs.declared.candidates.Candidates.{Candidates}

-- how many a map counts
abbrev pub count_of : Option ℕ → ℕ
count_of None = 0
count_of (Some n) = n

-- whether a map counts none
abbrev pub is_zero : Option ℕ → Bool
is_zero None = false
is_zero (Some n) = n == 0

-- whether there is a count, and it is not 0
abbrev pub is_positive : Option ℕ → Bool
is_positive None = false
is_positive (Some n) = not (n == 0)

module _ {ID : Type 0} (eq : ID → ID → Bool) where
  abbrev pub count_at : {S : Type 0} → HashMap ID ℕ S → ID → ℕ
  count_at m i = count_of (get eq m i)

  -- whether the list has an id that is equal
  abbrev pub has_id : List ID → ID → Bool
  has_id ids i = list_any (λ j. eq j i) ids

  -- whether the id is a candidate or a head
  abbrev pub is_listed : (candidates heads : List ID) → ID → Bool
  is_listed candidates heads i = has_id candidates i || has_id heads i

  -- the lists are as long, and each id of the one is equal to that of the other
  abbrev pub AreSameIds : List ID → List ID → Type 0
  AreSameIds is js = AllZip (λ i j. eq i j ≡ true) is js

  -- The last candidates are these targets, except for some at the end with a pending child each.
  -- `counts` has the in-degree of each known id, over the edges of pending nodes.
  pub record AreToFollow (counts : ID → Option ℕ) (required found : List ID) : Type 0 where
    pub older : List ID
    pub pending : List ID
    pub passed : List ID
    pub candidates : found ≡ older ++ pending
    pub targets : AreSameIds required (pending ++ passed)
    pub known : list_all (λ i. is_some (counts i)) pending ≡ true
    pub blocked : list_all (λ i. is_positive (counts i)) passed ≡ true

-- an upper bound on the rounds of the loop of `take`
abbrev pub rounds_left : {ID : Type 0} → Candidates ID → ℕ
rounds_left s =
    (hash_map_len s.children + deque_len s.heads) * 2 ^ 66 + 2 * length s.ids.items + length
    s.blocked.items
