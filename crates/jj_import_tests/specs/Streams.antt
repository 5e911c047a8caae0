-- The commits of a store, as the commands of a stream have them.
use Rattle.std.specs.Prelude.{◌≡◌, ◌⊎◌, ◌^◌, ◌-◌, ℕ, Bool, true, false, List, ◌∷◌, ◌++◌, Some, None, Result, Ok, Err}
use Rattle.jj_backend.specs.Objects.{Objects}
use Rattle.jj_fast_import.specs.Streams.{AreAllCommandsOf, AreCommandsOf}
use Rattle.jj_fast_import.specs.Values.{CommandValue, Blobs, BlobValue, Commits, CommitValue, Tags, TagValue}
use Rattle.jj_import.specs.ImportStates.{ImportState, IsReference, IsStoredCommit}
use Rattle.jj_import.specs.ImportedCommands.{AreCommandsImported, commits_in}
use Rattle.jj_import.specs.declared.marks.Marked.TheVariants as marked

-- The commands are all those of the stream; after an error, those of a prefix, and so after as many
-- commits as `usize` counts.
abbrev pub AreStreamCommands : {E : Type 0} → List ℕ → Result Bool E → List CommandValue → Type 0
AreStreamCommands stream (Ok true) commands = AreAllCommandsOf commands stream
AreStreamCommands stream (Ok false) commands = (rest : List ℕ) × AreCommandsOf commands stream rest
    × (commits_in commands ≡ 2 ^ 64 - 1)
AreStreamCommands stream (Err error) commands = (rest : List ℕ) × AreCommandsOf commands stream rest

-- no mark, ref or id of Git names a commit
abbrev pub no_names : ImportState
no_names = record {
  marks = λ mark. None;
  stream_refs = λ name. None;
  names = record { refs = λ name. None; git_ids = λ name. None };
}

-- the commands have this one after the earlier ones
abbrev pub IsNextAfter : List CommandValue → List CommandValue → CommandValue → Type 0
IsNextAfter commands earlier command = (later : List CommandValue)
    × (commands ≡ earlier ++ command ∷ later)

module _ (objects : Objects) (root : List ℕ) where
  -- the commands lead to the state from one without names
  abbrev pub IsReached : List CommandValue → ImportState → Type 0
  IsReached commands state = AreCommandsImported objects root commands no_names state

  -- the commands have a blob with the mark, and the file with the id has its content
  abbrev pub IsBlobFile : List CommandValue → ℕ → List ℕ → Type 0
  IsBlobFile commands mark id = (earlier : List CommandValue) × (blob : BlobValue)
      × IsNextAfter commands earlier (Blobs blob) × (blob.mark ≡ Some mark)
      × (objects.files id ≡ Some blob.content)

  -- the commands have a commit with the mark, which is stored under the id
  abbrev pub IsMarkedCommit : List CommandValue → ℕ → List ℕ → Type 0
  IsMarkedCommit commands mark id = (earlier : List CommandValue) × (commit : CommitValue)
      × IsNextAfter commands earlier (Commits commit) × (commit.mark ≡ Some mark)
      × ((state : ImportState) × IsReached earlier state
      × IsStoredCommit objects root state commit id)

  -- the commands have a tag with the mark, of the commit with the id
  abbrev pub IsMarkedTag : List CommandValue → ℕ → List ℕ → Type 0
  IsMarkedTag commands mark id = (earlier : List CommandValue) × (tag : TagValue)
      × IsNextAfter commands earlier (Tags tag) × (tag.mark ≡ Some mark)
      × ((state : ImportState) × IsReached earlier state × IsReference state tag.from id)

  -- Each commit of the commands is stored in the state that those before it lead to: with its
  -- parents in order, author, committer and message, and at each path with the file that its
  -- changes leave there, and no other; or it is the earlier one with its ID in Git. In such a state
  -- a mark names the file of the blob, or the commit, of the command that has the mark.
  pub record IsStreamStored (commands : List CommandValue) : Type 0 where
    pub commits : (earlier : List CommandValue) (commit : CommitValue)
        → IsNextAfter commands earlier (Commits commit)
        → (state : ImportState) × (id : List ℕ) × IsReached earlier state
        × IsStoredCommit objects root state commit id
    pub blobs : (earlier : List CommandValue) (state : ImportState) (mark : ℕ) (id : List ℕ)
        → IsReached earlier state → state.marks mark ≡ Some (marked.File id)
        → IsBlobFile earlier mark id
    pub marks : (earlier : List CommandValue) (state : ImportState) (mark : ℕ) (id : List ℕ)
        → IsReached earlier state → state.marks mark ≡ Some (marked.Commit id)
        → IsMarkedCommit earlier mark id ⊎ IsMarkedTag earlier mark id
