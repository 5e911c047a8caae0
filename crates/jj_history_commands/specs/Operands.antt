-- The commits that operands of a command name, and the contents of their files.
-- Cited by contracts of public items: IsCommitOf, IsContentOf.
use Rattle.std.specs.Prelude.{◌≡◌, ◌≢◌, ◌⊎◌, ℕ, List, [], Some, None}
use Rattle.std.specs.BTreeMap.{btree_map_len, values}
use Rattle.jj_paths.specs.Paths.{components}
use Rattle.jj_backend.specs.Objects.{Objects}
use Rattle.jj_backend.specs.Records.{CommitValue}
use Rattle.jj_content.specs.Hex.{IsDecoding, hex_digits}
use Rattle.jj_dag.specs.NodeGraph.{IsChildFirstOrder}
use Rattle.jj_history.specs.FileContents.{IsContentAt}
use Rattle.jj_history.specs.Revisions.{Names, IsNamed, commits_at, ref_commit}
use Rattle.jj_store_walks.specs.Histories.{InEachHistory}

module _ (store : Objects) where
  -- the store has a commit with this whole id, in hex digits
  abbrev pub IsWholeId : List ℕ → List ℕ → Type 0
  IsWholeId revision id = IsDecoding (λ bytes. bytes) hex_digits revision (Some id)
      × (commit : CommitValue) × (store.commits id ≡ Some commit)

  module _ (refs git_ids : Names) where
    -- the ids among which prefixes are looked up: those of the commits that Git has ids for, or,
    -- without any, those of the ancestors of the refs
    abbrev pub AreLookedUp : List (List ℕ) → Type 0
    AreLookedUp ids = ((btree_map_len git_ids ≡ 0)
        × InEachHistory store (λ parents. IsChildFirstOrder parents (values refs) ids))
        ⊎ ((btree_map_len git_ids ≢ 0) × (ids ≡ values git_ids))

    -- no ref and no id among those looked up has this name
    abbrev pub IsUnnamed : List (List ℕ) → List ℕ → Type 0
    IsUnnamed ids revision = (ref_commit refs revision ≡ None)
        × (commits_at git_ids ids revision ≡ [])

    -- the commit of the ref, or the only one with this prefix, or else the one with this whole id
    abbrev pub IsCommitOf : List ℕ → List ℕ → Type 0
    IsCommitOf revision id = (ids : List (List ℕ)) × AreLookedUp ids
        × (IsNamed refs git_ids ids revision id
        ⊎ (IsUnnamed ids revision × IsWholeId revision id))

    -- the content of the file at this path of the commit that the revision names
    abbrev pub IsContentOf : List ℕ → List ℕ → List ℕ → Type 0
    IsContentOf revision path content = (id : List ℕ) × IsCommitOf revision id
        × IsContentAt store id (components path) content
