-- The commands of a stream, by what they make of the state of an import.
-- Cited by contracts of public items: AreCommandsImported, AreCommandsRead, HasEnded,
-- IsCommandImported, IsDoneRead, IsWithinLimit, commits_in.
use Rattle.std.specs.Prelude.{◌≡◌, ◌≤◌, ◌+◌, ◌⊎◌, ℕ, Bool, true, false, List, [], ◌∷◌, ◌++◌, codes, Option, Some, None, Result, Ok, Err}
use Rattle.std.specs.Option.{option_map}
use Rattle.jj_backend.specs.Objects.{Objects}
use Rattle.jj_fast_import.specs.Values.{CommandValue, Blobs, Commits, Tags, Resets, Features, Options, Progresses, Checkpoints, Ends, TagValue}
use Rattle.jj_fast_import.specs.Streams.{AreReadFrom, HasNoCommand, ends_in_done}
use Rattle.jj_import.specs.Imported.{imported_string}
use Rattle.jj_import.specs.ImportStates.{ImportState, IsBlob, IsReference, IsStoredCommit, with_blob, with_commit, with_ref, without_ref}

-- no earlier command has the mark, if there is one
abbrev pub IsNewMark : ImportState → Option ℕ → Type 0
IsNewMark state mark = (number : ℕ) → mark ≡ Some number → state.marks number ≡ None

-- the ref of the tag names the tagged commit; the tag of a blob changes nothing
abbrev pub IsTagged : TagValue → ImportState → ImportState → Type 0
IsTagged tag old new =
    ((id : List ℕ) × IsReference old tag.from id × (new ≡ with_commit old tag.mark
    (codes "refs/tags/" ++ imported_string tag.name) None id))
    ⊎ (IsBlob old.marks tag.from × (new ≡ old))

module _ (objects : Objects) (root : List ℕ) where
  -- the command makes the later state of the earlier one, in a store with these objects
  abbrev pub IsCommandImported : CommandValue → ImportState → ImportState → Type 0
  IsCommandImported (Blobs blob) old new = IsNewMark old blob.mark × ((id : List ℕ)
      × (objects.files id ≡ Some blob.content) × (new ≡ with_blob old blob.mark id))
  IsCommandImported (Commits commit) old new = IsNewMark old commit.mark × ((id : List ℕ)
      × IsStoredCommit objects root old commit id × (new ≡ with_commit old commit.mark
      (imported_string commit.ref_name) (option_map imported_string commit.original_oid) id))
  IsCommandImported (Tags tag) old new = IsNewMark old tag.mark × IsTagged tag old new
  IsCommandImported (Resets ref_name None) old new =
      new ≡ without_ref old (imported_string ref_name)
  IsCommandImported (Resets ref_name (Some from)) old new = (id : List ℕ)
      × IsReference old from id
      × (new ≡ with_ref old (imported_string ref_name) id)
  IsCommandImported (Features feature) old new = (feature ≡ codes "done") × (new ≡ old)
  IsCommandImported (Options option) old new = new ≡ old
  IsCommandImported (Progresses progress) old new = new ≡ old
  IsCommandImported Checkpoints old new = new ≡ old
  IsCommandImported Ends old new = new ≡ old

  -- the commands, one after the other, make the later state of the earlier one
  abbrev pub AreCommandsImported : List CommandValue → ImportState → ImportState → Type 0
  AreCommandsImported [] old new = new ≡ old
  AreCommandsImported (command ∷ commands) old new = (between : ImportState)
      × IsCommandImported command old between × AreCommandsImported commands between new

-- how many commits the command makes
abbrev pub count_of : CommandValue → ℕ
count_of (Commits commit) = 1
count_of command = 0

-- the number of commits among the commands
abbrev pub commits_in : List CommandValue → ℕ
commits_in [] = 0
commits_in (command ∷ commands) = count_of command + commits_in commands

-- the commits are as many as the limit, or fewer, if the stream ended or failed
abbrev pub IsWithinLimit : {E : Type 0} → ℕ → ℕ → Result Bool E → Type 0
IsWithinLimit limit commits (Ok false) = commits ≡ limit
IsWithinLimit limit commits (Ok true) = commits ≤ limit
IsWithinLimit limit commits (Err error) = commits ≤ limit

-- `done` is the last of the commands, or was read before, and then there are none
abbrev pub IsDoneRead : Bool → List CommandValue → Type 0
IsDoneRead was_done commands =
    (ends_in_done commands ≡ true) ⊎ ((was_done ≡ true) × (commands ≡ []))

-- `done` was read, or no command is after them
abbrev pub HasEnded : Bool → List CommandValue → Option (List ℕ) → Type 0
HasEnded was_done commands after = IsDoneRead was_done commands ⊎ HasNoCommand after

-- The commands are those of the earlier bytes of a stream, one after the other, up to the later
-- ones, if the bytes are known, and all of them if it has ended; after an error, up to some bytes.
abbrev pub AreCommandsRead : {E : Type 0} → Bool → Bool → Option (List ℕ) → Option (List ℕ)
    → Result Bool E → List CommandValue → Type 0
AreCommandsRead was_done is_done before after (Ok false) commands =
    AreReadFrom before after commands × (is_done ≡ true → IsDoneRead was_done commands)
AreCommandsRead was_done is_done before after (Ok true) commands =
    AreReadFrom before after commands × HasEnded was_done commands after
AreCommandsRead was_done is_done before after (Err error) commands =
    (between : Option (List ℕ)) × AreReadFrom before between commands
