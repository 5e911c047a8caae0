-- Numbers of names: the index of each name in a list that has each name once.
-- Cited by contracts of public items: AreNumbered, IsNumberingError.
use Rattle.std.specs.Prelude.{◌≡◌, ◌++◌, ◌<◌, ℕ, List, MatchOption, Some, is_none, length, map, slice_get, string_bytes}
use Rattle.std.specs.BTreeMap.{BTreeMap, btree_map_len, get}
use Rattle.std.specs.Cmp.Lexicographic.{slice_cmp}
use Rattle.std.specs.List.{AllZip, Contains, IsDistinct}
use Rattle.std.specs.Ordering.{nat_cmp}
use Rattle.std.specs.Str.{bytes_eq}
use Rattle.std.specs.declared.cmp.Ordering.{Ordering}
use denote.Ref.{Bor}
use Rattle.jj_log.specs.declared.commits.Commit.{Commit}
use Rattle.jj_log.specs.declared.commits.NumberedCommit.{NumberedCommit}
use Rattle.jj_log.specs.declared.fault.LogError.{LogError}
use Rattle.jj_log.specs.declared.fault.LogError.TheVariants.{Memory, RepeatedName}

-- the names of the commits, in their order
abbrev pub names_of : List Commit → List (List ℕ)
names_of commits = map (λ c. string_bytes c.name) commits

-- the number is the index of the name
abbrev pub IsNumberOf : List (List ℕ) → List ℕ → ℕ → Type 0
IsNumberOf names name n = slice_get names n ≡ Some name

-- the commit has the numbers of its parents' names, and is elided if it has no label
pub record IsNumbered (names : List (List ℕ)) (commit : Commit) (numbered : NumberedCommit)
    : Type 0 where
  pub parents : AllZip (λ parent n. IsNumberOf names (string_bytes parent) n) commit.parents.items
      numbered.parents.items
  pub elided : numbered.is_elided ≡ is_none commit.label

-- The commits are numbered by a list that has each name once: first those of the commits, in their
-- order, and then other names of parents.
pub record AreNumbered (commits : List Commit) (numbered : List NumberedCommit) : Type 0 where
  pub names : List (List ℕ)
  pub once : IsDistinct bytes_eq names
  pub others : List (List ℕ)
  pub own : names ≡ names_of commits ++ others
  pub numbers : AllZip (IsNumbered names) commits numbered

-- a later commit has the name of this one, or memory ran out
abbrev pub IsNumberingError : List Commit → LogError → Type 0
IsNumberingError commits Memory = Unit {0}
IsNumberingError commits (RepeatedName i) = (j : ℕ) × (i < j) × (name : List ℕ)
    × IsNumberOf (names_of commits) name i × IsNumberOf (names_of commits) name j
IsNumberingError commits error = ⊥

-- the order of names in a map
abbrev pub name_cmp : Bor (List ℕ) → Bor (List ℕ) → Ordering
name_cmp a b = slice_cmp nat_cmp a.now b.now

-- the map has the number of each name of the list, and no other name
pub record Interns (names : List (List ℕ)) (numbers : BTreeMap (Bor (List ℕ)) ℕ) : Type 0 where
  pub len : btree_map_len numbers ≡ length names
  pub once : IsDistinct bytes_eq names
  pub finds : (name : Bor (List ℕ)) → MatchOption (get name_cmp numbers name)
      (Contains names name.now → ⊥) (IsNumberOf names name.now)

-- the map `new` has the numbers of a list that extends that of `old`, and of which P holds
abbrev pub InternsMore : (old new : BTreeMap (Bor (List ℕ)) ℕ) → (List (List ℕ) → Type 0) → Type 0
InternsMore old new P = (names : List (List ℕ)) → Interns names old → (others : List (List ℕ))
    × Interns (names ++ others) new × P (names ++ others)
