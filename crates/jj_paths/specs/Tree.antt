-- A trie of values keyed by paths: each node has a value and named branches to its children.
-- Cited by contracts of public items: AddsDefaults, IsOnPath, IsTreeClone, SetsValue, Tree,
-- WritesAt, below_wrapper, branch_count, branches_of, child, children, get, has_branches,
-- most_le-branch_count, nodes_on, none, put_value, tree_code, tree_of, weight_le-pair.
use Rattle.std.specs.Prelude.{◌≡◌, ◌≢◌, IsSome, Bool, true, false, ◌&&◌, ℕ, ◌+◌, ◌*◌, ◌≤◌, ◌<◌, length, slice_index_or, if◌then◌else◌, List, [], ◌∷◌, ◌++◌, Option, None, Some, refl, max}
use Rattle.std.specs.declared.cmp.Ordering.TheVariants.{Less, Greater}
use Rattle.std.specs.Str.{bytes_eq}
use Rattle.std.specs.Option.{option_and_then, option_map}
use Rattle.std.specs.FinMap.Entries.{below_all}
use Rattle.std.specs.Coded.{Coded, code_by, coded×, coded_ℕ, coded_list, coded_option}
use Rattle.std.proofs.Common.{ap, ◌∙◌, append_assoc, append-nil, sym, arith}
use denote.Param.Weighed.{most}
use Rattle.jj_paths.specs.Paths.{Name, Path, name_cmp}

-- the list of branches of a node: the name, value and branches of the first child, and the
-- branches after it
pub data Branches (V : Type 0) : Type 0 where
  none : Branches V
  branch : Name → V → Branches V → Branches V → Branches V

-- a tree: the value and the branches of its root
pub record Tree (V : Type 0) : Type 0 where
  pub value : V
  pub branches : Branches V

-- the tree with this value and these branches
abbrev pub tree_of : {V : Type 0} → V → Branches V → Tree V
tree_of value branches = record { value = value; branches = branches }

-- the termination measure of a tree is greater than that of its root node
pub below_wrapper : (n : ℕ) → max (2 * n + 1) 0 ≤ 2 * n + 1
below_wrapper n = omega arith

module _ {V : Type 0} where
  -- conversions between branches and lists of named children
  abbrev pub children : Branches V → List (Name × Tree V)
  children none = []
  children (branch name value below after) = (name, tree_of value below) ∷ children after

  abbrev pub branches_of : List (Name × Tree V) → Branches V
  branches_of [] = none
  branches_of (x ∷ xs) = branch x.0 x.1.value x.1.branches (branches_of xs)

  -- there is a child
  abbrev pub has_branches : Branches V → Bool
  has_branches none = false
  has_branches (branch name value below after) = true

  -- the names of siblings strictly ascend at every node
  abbrev pub is_ordered : Branches V → Bool
  is_ordered none = true
  is_ordered (branch name value below after) = below_all name_cmp name (children after)
      && (is_ordered below && is_ordered after)

  -- the first child with this name
  abbrev pub child : Branches V → Name → Option (Tree V)
  child none name = None
  child (branch n value below after) name =
      if bytes_eq n name then Some (tree_of value below) else child after name

  -- the node at a path relative to a node
  abbrev pub get : Tree V → Path → Option (Tree V)
  get tree [] = Some tree
  get tree (name ∷ rest) = option_and_then (λ sub. get sub rest) (child tree.branches name)

  -- the nodes on the way to a path, down to the deepest one there is, each with the rest of the
  -- path below it (`nodes_below`: without the first)
  abbrev pub nodes_on : Tree V → Path → List (Tree V × Path)
  nodes_on tree [] = (tree, []) ∷ []
  nodes_on tree (name ∷ rest) = (tree, name ∷ rest) ∷ elim (child tree.branches name)
      [ None ↦ [] | Some sub ↦ nodes_on sub rest ]

  abbrev pub nodes_from : Option (Tree V × Path) → List (Tree V × Path)
  nodes_from None = []
  nodes_from (Some step) = nodes_on step.0 step.1

  abbrev pub nodes_below : Tree V → Path → List (Tree V × Path)
  nodes_below tree [] = []
  nodes_below tree (name ∷ rest) =
      nodes_from (option_map (λ sub. (sub, rest)) (child tree.branches name))

  -- a node on the way to the path, with the rest of the path below it
  abbrev pub IsOnPath : Tree V → Path → Tree V × Path → Type 0
  IsOnPath tree path step = (prefix : Path) × (path ≡ prefix ++ step.1)
      × (get tree prefix ≡ Some step.0)

  -- the branches with `f` applied to the first child with this name
  abbrev pub update_child : Branches V → Name → (Tree V → Tree V) → Branches V
  update_child none name f = none
  update_child (branch n value below after) name f =
      if bytes_eq n name then branch n (f (tree_of value below)).value
      (f (tree_of value below)).branches after
      else branch n value below (update_child after name f)

  -- the tree with the node at a path replaced
  abbrev pub put : Tree V → Path → Tree V → Tree V
  put tree [] node = node
  put tree (name ∷ rest) node =
      tree_of tree.value (update_child tree.branches name (λ sub. put sub rest node))

  -- the tree with the child at the first name of a path replaced
  abbrev pub put_below : Tree V → Path → Tree V → Tree V
  put_below tree [] sub = sub
  put_below tree (name ∷ rest) sub =
      tree_of tree.value (update_child tree.branches name (λ _. sub))

  -- the tree with the value at a path replaced
  abbrev pub put_value : Tree V → Path → V → Tree V
  put_value tree [] value = tree_of value tree.branches
  put_value tree (name ∷ rest) value =
      tree_of tree.value (update_child tree.branches name (λ sub. put_value sub rest value))

  -- the node is the old one with a child of this name, inserted with a new value if there was none,
  -- and all else unchanged
  pub record AddsDefaultChild (is_new : V → Type 0) (old : Tree V) (name : Name)
      (node : Tree V) : Type 0 where
    pub value : node.value ≡ old.value
    pub there : IsSome (child node.branches name)
    pub others : (n : Name) → n ≢ name → child node.branches n ≡ child old.branches n
    pub keeps : (sub : Tree V) → child old.branches name ≡ Some sub
        → child node.branches name ≡ Some sub
    pub makes : (sub : Tree V) → child old.branches name ≡ None
        → child node.branches name ≡ Some sub
        → is_new sub.value × (sub.branches ≡ none)
    pub ordered : is_ordered old.branches ≡ true → is_ordered node.branches ≡ true

  -- the new node is the old one, with the child inserted if missing, and the child replaced
  pub record WritesAtChild (is_new : V → Type 0) (old : Tree V) (name : Name)
      (sub changed new : Tree V) : Type 0 where
    pub tree : Tree V
    pub grown : AddsDefaultChild is_new old name tree
    pub at_name : child tree.branches name ≡ Some sub
    pub is_put : new ≡ tree_of tree.value (update_child tree.branches name (λ _. changed))

  -- the value of the node at the path, none if there is no node
  abbrev pub value_at : Tree V → Path → Option V
  value_at tree path = option_map (λ node. node.value) (get tree path)

  -- the tree has all values of the old one, and beyond them at most new values at the path and its
  -- ancestors; ascending names stay ascending
  pub record AddsDefaults (is_new : V → Type 0) (old : Tree V) (path : Path)
      (tree : Tree V) : Type 0 where
    pub keeps : (q : Path) (value : V) → value_at old q ≡ Some value → value_at tree q ≡ Some value
    pub makes : (q : Path) (value : V) → value_at old q ≡ None → value_at tree q ≡ Some value
        → is_new value × ((rest : Path) × (path ≡ q ++ rest))
    pub ordered : is_ordered old.branches ≡ true → is_ordered tree.branches ≡ true

  -- the value at the path is `value`, the other values of the old tree are unchanged, and beyond
  -- them there are at most new values at ancestors of the path; ascending names stay ascending
  pub record SetsValue (is_new : V → Type 0) (old : Tree V) (path : Path) (value : V)
      (new : Tree V) : Type 0 where
    pub here : value_at new path ≡ Some value
    pub keeps : (q : Path) (v : V) → q ≢ path → value_at old q ≡ Some v → value_at new q ≡ Some v
    pub makes : (q : Path) (v : V) → q ≢ path → value_at old q ≡ None → value_at new q ≡ Some v
        → is_new v × ((rest : Path) × (path ≡ q ++ rest))
    pub ordered : is_ordered old.branches ≡ true → is_ordered new.branches ≡ true

  -- the new tree is the old one with missing nodes on the path inserted, and the node at the path
  -- replaced: at and below the path it is the replacement, and every other value is unchanged; if
  -- the replacement differs only in its value, that value is set
  pub record WritesAt (is_new : V → Type 0) (old : Tree V) (path : Path)
      (node changed new : Tree V) : Type 0 where
    pub tree : Tree V
    pub extended : AddsDefaults is_new old path tree
    pub at_path : get tree path ≡ Some node
    pub is_put : new ≡ put tree path changed
    pub within : (rest : Path) → get new (path ++ rest) ≡ get changed rest
    pub others : (q : Path) → ((rest : Path) → q ≢ path ++ rest) → value_at new q ≡ value_at tree q
    pub sets : (value : V) → changed ≡ tree_of value node.branches
        → SetsValue is_new old path value new

  -- trees of the same names whose values are clones, node by node
  abbrev pub AreClones : (V → V → Type 0) → Branches V → Branches V → Type 0
  AreClones is_clone none none = Unit {0}
  AreClones is_clone none (branch name value below after) = ⊥
  AreClones is_clone (branch name value below after) none = ⊥
  AreClones is_clone (branch name value below after) (branch name' value' below' after') =
      (name ≡ name') × is_clone value value' × AreClones is_clone below below'
      × AreClones is_clone after after'

  -- the copy has the nodes of the tree, with a clone of each value
  abbrev pub IsTreeClone : (V → V → Type 0) → Tree V → Tree V → Type 0
  IsTreeClone is_clone tree copy = is_clone tree.value copy.value
      × AreClones is_clone tree.branches copy.branches

  -- the branch at index i has the name
  pub record IsIndexOf (entries : List (Name × Tree V)) (name : Name) (i : ℕ) : Type 0 where
    pub in_range : i < length entries
    pub has_name : (d : Name × Tree V) → (slice_index_or entries i d).0 ≡ name

  -- i is the insertion point of the name: names before i are smaller, and all others are greater
  pub record IsInsertionPoint (entries : List (Name × Tree V)) (name : Name) (i : ℕ) : Type 0 where
    pub in_range : i ≤ length entries
    pub smaller_before : (j : ℕ) (d : Name × Tree V) → j < i
        → name_cmp (slice_index_or entries j d).0 name ≡ Less
    pub greater_after : (j : ℕ) (d : Name × Tree V) → i ≤ j → j < length entries
        → name_cmp (slice_index_or entries j d).0 name ≡ Greater

  -- the number of nodes below
  abbrev pub branch_count : Branches V → ℕ
  branch_count none = 0
  branch_count (branch name value below after) = 1 + branch_count below + branch_count after

  -- the termination measure decreases from a node to its children
  pub most_le-branch_count : (μ : Name × Tree V → ℕ)
      → ((x : Name × Tree V) → μ x ≤ 2 * branch_count x.1.branches + 2)
      → (items : List (Name × Tree V))
      → max (most μ items) 0 ≤ 2 * branch_count (branches_of items)
  most_le-branch_count μ h [] = omega arith
  most_le-branch_count μ h (x ∷ xs) = omega (arith, h x, most_le-branch_count μ h xs)

  -- the termination measure of one named child
  pub weight_le-pair : (x : Name × Tree V)
      → max 0 (max (2 * branch_count x.1.branches + 1 + 1) 0) ≤ 2 * branch_count x.1.branches + 2
  weight_le-pair x = omega arith

  -- serialization of branches as tokens in postorder, parsed with a stack
  abbrev pub tokens : Branches V → List (Option (Name × V))
  tokens none = None ∷ []
  tokens (branch name value below after) = tokens below ++ (tokens after ++ Some (name, value) ∷ [])

  abbrev pub read_tokens : List (Option (Name × V)) → List (Branches V) → Branches V
  read_tokens [] [] = none
  read_tokens [] (b ∷ bs) = b
  read_tokens (None ∷ ts) bs = read_tokens ts (none ∷ bs)
  read_tokens (Some x ∷ ts) [] = none
  read_tokens (Some x ∷ ts) (after ∷ []) = none
  read_tokens (Some x ∷ ts) (after ∷ below ∷ bs) = read_tokens ts (branch x.0 x.1 below after ∷ bs)

  pub read_tokens-tokens : (b : Branches V) (ts : List (Option (Name × V))) (bs : List (Branches V))
      → read_tokens (tokens b ++ ts) bs ≡ read_tokens ts (b ∷ bs)
  read_tokens-tokens none ts bs = refl
  read_tokens-tokens (branch name value below after) ts bs =
      ap (λ l. read_tokens l bs) (append_assoc (tokens below)
      (tokens after ++ Some (name, value) ∷ []) ts
      ∙ ap (λ l. tokens below ++ l) (append_assoc (tokens after) (Some (name, value) ∷ []) ts))
      ∙ read_tokens-tokens below (tokens after ++ (Some (name, value) ∷ ts)) bs
      ∙ read_tokens-tokens after (Some (name, value) ∷ ts) (below ∷ bs)

  abbrev pub from_tokens : List (Option (Name × V)) → Branches V
  from_tokens ts = read_tokens ts []

  pub from_tokens-tokens : (b : Branches V) → from_tokens (tokens b) ≡ b
  from_tokens-tokens b = ap (λ l. read_tokens l []) (sym (append-nil (tokens b)))
      ∙ read_tokens-tokens b [] []

  abbrev pub branches_code : Coded V → Coded (Branches V)
  branches_code v = code_by (List (Option (Name × V)))
      (coded_list
      (coded_option (coded× (coded_list coded_ℕ) v))) tokens from_tokens from_tokens-tokens

  abbrev pub tree_code : Coded V → Coded (Tree V)
  tree_code v = code_by (V × Branches V) (coded× v (branches_code v))
      (λ tree. (tree.value, tree.branches)) (λ parts. tree_of parts.0 parts.1) (λ tree. refl)
