-- Parents of commits.
-- Cited by contracts of public items: parents_of.
use Rattle.std.specs.Prelude.{◌≡◌, ℕ, List, true}
use Rattle.std.specs.List.{list_any}
use Rattle.std.specs.Str.{bytes_eq}
use Rattle.jj_ids_tests.specs.declared.callers.records.Commit.{Commit}

-- the ids of a commit's parents
abbrev pub parents_of : Commit → List (List ℕ)
parents_of commit = commit.parents.items

-- the commit has this parent
abbrev pub has_parent : List ℕ → Commit → Type 0
has_parent id commit = list_any (bytes_eq id) (parents_of commit) ≡ true
