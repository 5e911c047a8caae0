-- Merges of two commits.
-- Cited by contracts of public items: AreTreesOf, IsMergeCommit, IsOnlyBase.
use Rattle.std.specs.Prelude.{◌≡◌, ℕ, List, [], ◌∷◌, Some}
use Rattle.jj_backend.specs.Objects.{Objects}
use Rattle.jj_backend.specs.Records.{CommitValue}
use Rattle.jj_history.specs.FileContents.{IsTreeOf}
use Rattle.jj_store_walks.specs.Histories.{AreMergeBases}
use Rattle.jj_store_walks.specs.declared.read_commit.ReadCommit.{ReadCommit}

module _ (store : Objects) where
  -- the commit is the only merge base of two others
  abbrev pub IsOnlyBase : List ℕ → List ℕ → List ℕ → Type 0
  IsOnlyBase first second base = (read : ReadCommit) × (read.id ≡ base)
      × AreMergeBases store (first ∷ []) (second ∷ []) (read ∷ [])

  -- the trees of two commits, with that of a third one between them
  abbrev pub AreTreesOf : List ℕ → List ℕ → List ℕ → List (List ℕ) → Type 0
  AreTreesOf first base second trees = (left : List ℕ) × (middle : List ℕ) × (right : List ℕ)
      × IsTreeOf store first left × IsTreeOf store base middle × IsTreeOf store second right
      × (trees ≡ left ∷ middle ∷ right ∷ [])

  -- the store has the commit, with both others as parents, in order, and with this tree
  abbrev pub IsMergeCommit : List ℕ → List ℕ → List ℕ → List ℕ → Type 0
  IsMergeCommit id first second tree = (commit : CommitValue) × (store.commits id ≡ Some commit)
      × (commit.parents ≡ first ∷ second ∷ []) × (commit.root_tree ≡ tree ∷ [])

-- the new objects are the old ones and possibly further commits
abbrev pub AddsCommits : Objects → Objects → Type 0
AddsCommits old new = new ≡ record old { commits = new.commits }
