-- The parts of commands as contracts see them: without where they lie in memory.
use Rattle.std.specs.Prelude.{ℕ, List, Option, map}
use Rattle.std.specs.Option.{option_map}
use Rattle.std.specs.Global.{Vec}
use Rattle.jj_fast_import.specs.declared.command.Zone.{Zone}
use Rattle.jj_fast_import.specs.declared.command.Person.{Person}
use Rattle.jj_fast_import.specs.declared.command.Mode.{Mode}
use Rattle.jj_fast_import.specs.declared.command.Reference.{Reference}
use Rattle.jj_fast_import.specs.declared.command.Reference.TheVariants as references
use Rattle.jj_fast_import.specs.declared.command.Content.{Content}
use Rattle.jj_fast_import.specs.declared.command.Content.TheVariants as contents
use Rattle.jj_fast_import.specs.declared.command.Change.{Change}
use Rattle.jj_fast_import.specs.declared.command.Change.TheVariants as changes
use Rattle.jj_fast_import.specs.declared.command.Blob.{Blob}
use Rattle.jj_fast_import.specs.declared.command.Commit.{Commit}
use Rattle.jj_fast_import.specs.declared.command.Tag.{Tag}
use Rattle.jj_fast_import.specs.declared.command.Command.{Command}
use Rattle.jj_fast_import.specs.declared.command.Command.TheVariants as commands

abbrev pub bytes_of : Vec ℕ → List ℕ
bytes_of v = v.items

-- an author, committer or tagger with a time
pub record PersonValue : Type 0 where
  pub name : Option (List ℕ)
  pub email : List ℕ
  pub seconds : ℕ
  pub zone : Zone

abbrev pub person_value : Person → PersonValue
person_value p = record {
  name = option_map bytes_of p.name;
  email = p.email.items;
  seconds = p.seconds;
  zone = p.zone;
}

-- a reference to an object: by its mark or by its name
pub data ReferenceValue : Type 0 where
  ByMark : ℕ → ReferenceValue
  ByName : List ℕ → ReferenceValue

abbrev pub reference_value : Reference → ReferenceValue
reference_value (references.Mark mark) = ByMark mark
reference_value (references.Name name) = ByName name.items

-- the content of a change: a stored object, or the bytes themselves
pub data ContentValue : Type 0 where
  Stored : ReferenceValue → ContentValue
  Inline : List ℕ → ContentValue

abbrev pub content_value : Content → ContentValue
content_value (contents.Stored reference) = Stored (reference_value reference)
content_value (contents.Inline data_bytes) = Inline data_bytes.items

-- a change of a commit's tree
pub data ChangeValue : Type 0 where
  Modifies : Mode → ContentValue → List ℕ → ChangeValue
  Deletes : List ℕ → ChangeValue
  Renames : List ℕ → List ℕ → ChangeValue
  Copies : List ℕ → List ℕ → ChangeValue
  DeletesAll : ChangeValue
  Notes : ContentValue → ReferenceValue → ChangeValue

abbrev pub change_value : Change → ChangeValue
change_value (changes.Modify mode content path) = Modifies mode (content_value content) path.items
change_value (changes.Delete path) = Deletes path.items
change_value (changes.Rename from to) = Renames from.items to.items
change_value (changes.Copy from to) = Copies from.items to.items
change_value changes.DeleteAll = DeletesAll
change_value (changes.NoteModify content commit) =
    Notes (content_value content) (reference_value commit)

-- a blob: its mark, its original id and its content
pub record BlobValue : Type 0 where
  pub mark : Option ℕ
  pub original_oid : Option (List ℕ)
  pub content : List ℕ

abbrev pub blob_value : Blob → BlobValue
blob_value b = record {
  mark = b.mark;
  original_oid = option_map bytes_of b.original_oid;
  content = b.«data».items;
}

-- a commit command, with its changes
pub record CommitValue : Type 0 where
  pub ref_name : List ℕ
  pub mark : Option ℕ
  pub original_oid : Option (List ℕ)
  pub author : Option PersonValue
  pub committer : PersonValue
  pub encoding : Option (List ℕ)
  pub message : List ℕ
  pub from : Option ReferenceValue
  pub merges : List ReferenceValue
  pub changes : List ChangeValue

abbrev pub commit_value : Commit → CommitValue
commit_value c = record {
  ref_name = c.ref_name.items;
  mark = c.mark;
  original_oid = option_map bytes_of c.original_oid;
  author = option_map person_value c.author;
  committer = person_value c.committer;
  encoding = option_map bytes_of c.encoding;
  message = c.message.items;
  from = option_map reference_value c.from;
  merges = map reference_value c.merges.items;
  changes = map change_value c.changes.items;
}

-- a tag command
pub record TagValue : Type 0 where
  pub name : List ℕ
  pub mark : Option ℕ
  pub from : ReferenceValue
  pub original_oid : Option (List ℕ)
  pub tagger : Option PersonValue
  pub message : List ℕ

abbrev pub tag_value : Tag → TagValue
tag_value t = record {
  name = t.name.items;
  mark = t.mark;
  from = reference_value t.from;
  original_oid = option_map bytes_of t.original_oid;
  tagger = option_map person_value t.tagger;
  message = t.message.items;
}

-- a command of a stream
pub data CommandValue : Type 0 where
  Blobs : BlobValue → CommandValue
  Commits : CommitValue → CommandValue
  Tags : TagValue → CommandValue
  Resets : List ℕ → Option ReferenceValue → CommandValue
  Features : List ℕ → CommandValue
  Options : List ℕ → CommandValue
  Progresses : List ℕ → CommandValue
  Checkpoints : CommandValue
  Ends : CommandValue

-- a command, as contracts see it
abbrev pub command_value : Command → CommandValue
command_value (commands.Blob blob) = Blobs (blob_value blob)
command_value (commands.Commit commit) = Commits (commit_value commit)
command_value (commands.Tag tag) = Tags (tag_value tag)
command_value (commands.Reset ref_name from) =
    Resets ref_name.items (option_map reference_value from)
command_value (commands.Feature feature) = Features feature.items
command_value (commands.Option option) = Options option.items
command_value (commands.Progress progress) = Progresses progress.items
command_value commands.Checkpoint = Checkpoints
command_value commands.Done = Ends
