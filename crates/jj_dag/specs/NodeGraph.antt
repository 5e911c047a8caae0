-- Directed graphs on nodes of any type. The words are those of `Graph`; a contract that speaks of
-- such a graph needs no numbers for its nodes.
-- Cited by contracts of public items through jj_store_walks.Histories.
use Rattle.std.specs.Prelude.{◌≡◌, ◌≢◌, ◌↔◌, ℕ, zero, suc, List, ◌∷◌, ◌++◌, AllPairs}
use Rattle.std.specs.List.{Contains}

-- each node's neighbors, in their order
abbrev pub NodeGraph : Type 0 → Type 0
NodeGraph A = A → List A

-- there is a walk from a to b of this many steps
abbrev pub NodePath : {A : Type 0} → NodeGraph A → A → A → ℕ → Type 0
NodePath g a b zero = a ≡ b
NodePath {A} g a b (suc steps) = (c : A) × Contains (g a) c × NodePath g c b steps

-- a reaches b by one or more steps
abbrev pub StrictlyReachesNode : {A : Type 0} → NodeGraph A → A → A → Type 0
StrictlyReachesNode g a b = (steps : ℕ) × NodePath g a b (suc steps)

-- b is one of the starts, or reached from one
abbrev pub ReachesNode : {A : Type 0} → NodeGraph A → List A → A → Type 0
ReachesNode {A} g starts b = (a : A) × Contains starts a × ((steps : ℕ) × NodePath g a b steps)

-- no node that the starts reach strictly reaches itself
abbrev pub ReachesNoCycle : {A : Type 0} → NodeGraph A → List A → Type 0
ReachesNoCycle {A} g starts = (a : A) → ReachesNode g starts a → StrictlyReachesNode g a a → ⊥

-- a node that the starts reach strictly reaches itself
abbrev pub ReachesSomeCycle : {A : Type 0} → NodeGraph A → List A → Type 0
ReachesSomeCycle {A} g starts = (a : A) × ReachesNode g starts a × StrictlyReachesNode g a a

-- a is a member of the set that no other member strictly reaches
abbrev pub IsMaximalNode : {A : Type 0} → NodeGraph A → (A → Type 0) → A → Type 0
IsMaximalNode {A} g IsMember a = IsMember a
    × ((b : A) → IsMember b → b ≢ a → StrictlyReachesNode g b a → ⊥)

-- the list has exactly the maximal members of the set, each once
pub record AreMaximalNodes {A : Type 0} (g : NodeGraph A) (IsMember : A → Type 0) (maximal : List A)
    : Type 0 where
  pub all : (a : A) → Contains maximal a ↔ IsMaximalNode g IsMember a
  pub once : AllPairs (λ a b. a ≢ b) maximal

-- both sets reach the node
abbrev pub IsCommonNode : {A : Type 0} → NodeGraph A → List A → List A → A → Type 0
IsCommonNode g set1 set2 a = ReachesNode g set1 a × ReachesNode g set2 a

-- no such node strictly reaches itself
abbrev pub HasNoCommonNodeCycle : {A : Type 0} → NodeGraph A → List A → List A → Type 0
HasNoCommonNodeCycle {A} g set1 set2 = (a : A) → IsCommonNode g set1 set2 a
    → StrictlyReachesNode g a a → ⊥

-- a is in the list before b
abbrev pub IsNodeBefore : {A : Type 0} → List A → A → A → Type 0
IsNodeBefore {A} order a b = (prefix suffix : List A) × (order ≡ prefix ++ a ∷ suffix)
    × Contains suffix b

-- the list has each node that the starts reach once, before every node that it strictly reaches
pub record IsChildFirstOrder {A : Type 0} (g : NodeGraph A) (starts order : List A) : Type 0 where
  pub all : (a : A) → Contains order a ↔ ReachesNode g starts a
  pub once : AllPairs (λ a b. a ≢ b) order
  pub before : (a b : A) → Contains order a → StrictlyReachesNode g a b → IsNodeBefore order a b

-- the greatest such list: where another one first differs from it, the node there is below
pub record IsGreatestChildFirstOrder {A : Type 0} (IsBelow : A → A → Type 0) (g : NodeGraph A)
    (starts order : List A) : Type 0 where
  pub child_first : IsChildFirstOrder g starts order
  pub greatest : (other : List A) → IsChildFirstOrder g starts other
      → (prefix highs lows : List A) (a b : A) → order ≡ prefix ++ a ∷ highs
      → other ≡ prefix ++ b ∷ lows → a ≢ b → IsBelow b a
