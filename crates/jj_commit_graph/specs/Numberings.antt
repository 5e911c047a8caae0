-- Numbers of commits, and the lists of the numbers of their parents.
-- Machinery of private functions and fields.
use Rattle.std.specs.Prelude.{◌≡◌, ◌<◌, ◌++◌, ◌∷◌, [], ℕ, All, List, MatchOption, Option, get_or, length, map}
use Rattle.std.specs.HashMap.{get}
use Rattle.std.specs.List.{Contains}
use Rattle.std.specs.Str.{bytes_eq}
use Rattle.jj_commit_graph.specs.CommitGraphs.{CommitParents}
use Rattle.jj_commit_graph.specs.declared.numbering.Numbering.{Numbering}
use Rattle.jj_store_walks.specs.ReadCommits.{id_of}
use Rattle.jj_store_walks.specs.declared.read_commit.ReadCommit.{ReadCommit}

-- the id of a number
abbrev pub id_at : List (List ℕ) → ℕ → List ℕ
id_at ids number = get_or ids number []

-- the ids of the numbers in each list
abbrev pub named_lists : List (List ℕ) → List (List ℕ) → List (List (List ℕ))
named_lists ids lists = map (map (id_at ids)) lists

-- the commits of these ids, with the parents of these numbers
abbrev pub commits_of : List (List ℕ) → List (List ℕ) → CommitParents
commits_of ids lists = record { ids = ids; parents = named_lists ids lists }

-- the ids differ, and a look-up finds the index of each
pub record IsIndexOf (ids : List (List ℕ)) (find : List ℕ → Option ℕ) : Type 0 where
  pub once : (a b : ℕ) → a < length ids → b < length ids → id_at ids a ≡ id_at ids b → a ≡ b
  pub finds : (id : List ℕ) → MatchOption (find id) (Contains ids id → ⊥)
      (λ number. (number < length ids) × (id_at ids number ≡ id))

-- the number of each id is its index
abbrev pub IsNumbering : Numbering → Type 0
IsNumbering numbering = IsIndexOf numbering.ids.items (get bytes_eq numbering.number_of)

-- there is a list for each id, and the numbers in it are less than that of the id
pub record AreFallingEdges (ids lists : List (List ℕ)) : Type 0 where
  pub size : length lists ≡ length ids
  pub falls : (a b : ℕ) → Contains (get_or lists a []) b → b < a

-- the invariant of a commit graph
pub record IsParentsFirstGraph (numbering : Numbering) (lists : List (List ℕ)) : Type 0 where
  pub numbered : IsNumbering numbering
  pub edges : AreFallingEdges numbering.ids.items lists

-- the parents of a commit
abbrev pub parents_of : ReadCommit → List (List ℕ)
parents_of c = c.commit.parents

-- each commit comes after its parents, and has another id than those before it
abbrev pub AreParentsFirst : List ReadCommit → Type 0
AreParentsFirst commits = (before after : List ReadCommit) (c : ReadCommit)
    → commits ≡ before ++ c ∷ after → All (Contains (map id_of before)) c.commit.parents
    × (Contains (map id_of before) c.id → ⊥)
