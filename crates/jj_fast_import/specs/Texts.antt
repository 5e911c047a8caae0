-- The bytes of each command, as the printer writes it: the form of `git fast-export`, with a line
-- feed after each block of data.
use Rattle.std.specs.Prelude.{ℕ, ◌+◌, ◌/◌, ◌%◌, if◌then◌else◌, List, [], ◌∷◌, ◌++◌, length, Option, Some, None, codes, decimal}
use Rattle.std.specs.List.{flat_map}
use Rattle.jj_fast_import.specs.declared.command.Mode.{Mode}
use Rattle.jj_fast_import.specs.declared.command.Mode.TheVariants.{Normal, Executable, Symlink, Gitlink, Directory}
use Rattle.jj_fast_import.specs.declared.command.Zone.{Zone}
use Rattle.jj_fast_import.specs.Quoting.{is_plain_path, quoted}
use Rattle.jj_fast_import.specs.Values.{PersonValue, ReferenceValue, ByMark, ByName, ContentValue, Stored, Inline, ChangeValue, Modifies, Deletes, Renames, Copies, DeletesAll, Notes, BlobValue, CommitValue, TagValue, CommandValue, Blobs, Commits, Tags, Resets, Features, Options, Progresses, Checkpoints, Ends}

-- a word, and the rest of its line
abbrev pub line : List ℕ → List ℕ → List ℕ
line word text = word ++ text ++ 10 ∷ []

-- the line of a mark, if there is one
abbrev pub mark_text : Option ℕ → List ℕ
mark_text None = []
mark_text (Some mark) = line (codes "mark :") (decimal mark)

-- the line of this word and a string, if there is one
abbrev pub optional_text : List ℕ → Option (List ℕ) → List ℕ
optional_text word None = []
optional_text word (Some text) = line word text

-- the sign and the four digits of a time zone
abbrev pub zone_text : Zone → List ℕ
zone_text zone =
    (if zone.is_west then 45 else 43) ∷ (48 + zone.hours / 10 % 10) ∷ (48 + zone.hours % 10)
    ∷ (48 + zone.minutes / 10 % 10) ∷ (48 + zone.minutes % 10) ∷ []

-- a name and a space, if there is a name
abbrev pub name_text : Option (List ℕ) → List ℕ
name_text None = []
name_text (Some name) = name ++ 32 ∷ []

-- the name, the email and the date of a person
abbrev pub person_text : PersonValue → List ℕ
person_text person =
    name_text person.name ++ 60 ∷ person.email ++ (62 ∷ 32 ∷ decimal person.seconds)
    ++ 32 ∷ zone_text person.zone

-- the line of this word and a person
abbrev pub person_line_text : List ℕ → PersonValue → List ℕ
person_line_text word person = line word (person_text person)

-- the line of this word and a person, if there is one
abbrev pub optional_person_text : List ℕ → Option PersonValue → List ℕ
optional_person_text word None = []
optional_person_text word (Some person) = person_line_text word person

-- the length, so many bytes, and a line feed
abbrev pub data_text : List ℕ → List ℕ
data_text bytes = line (codes "data ") (decimal (length bytes)) ++ bytes ++ 10 ∷ []

-- a mark or a name
abbrev pub reference_text : ReferenceValue → List ℕ
reference_text (ByMark mark) = 58 ∷ decimal mark
reference_text (ByName name) = name

-- the line of this word and a reference
abbrev pub reference_line_text : List ℕ → ReferenceValue → List ℕ
reference_line_text word reference = line word (reference_text reference)

-- the line of the first parent, if there is one
abbrev pub from_text : Option ReferenceValue → List ℕ
from_text None = []
from_text (Some from) = reference_line_text (codes "from ") from

-- the lines of the other parents
abbrev pub merges_text : List ReferenceValue → List ℕ
merges_text merges = flat_map (reference_line_text (codes "merge ")) merges

-- a path, in quotes unless it has only printable ASCII characters, and no space, `"` or `\`
abbrev pub path_text : List ℕ → List ℕ
path_text path = if is_plain_path path then path else quoted path

-- the digits of a mode
abbrev pub mode_text : Mode → List ℕ
mode_text Normal = codes "100644"
mode_text Executable = codes "100755"
mode_text Symlink = codes "120000"
mode_text Gitlink = codes "160000"
mode_text Directory = codes "040000"

-- the reference of a content, or `inline`
abbrev pub content_name : ContentValue → List ℕ
content_name (Stored reference) = reference_text reference
content_name (Inline bytes) = codes "inline"

-- the data of a content that the stream has inline
abbrev pub inline_text : ContentValue → List ℕ
inline_text (Stored reference) = []
inline_text (Inline bytes) = data_text bytes

-- the lines of a file that is modified
abbrev pub modify_text : Mode → ContentValue → List ℕ → List ℕ
modify_text mode content path =
    codes "M " ++ mode_text mode ++ 32 ∷ content_name content ++ 32 ∷ path_text path ++ 10 ∷ []
    ++ inline_text content

-- the line of this word and two paths
abbrev pub two_paths_text : List ℕ → List ℕ → List ℕ → List ℕ
two_paths_text word from to = word ++ path_text from ++ 32 ∷ path_text to ++ 10 ∷ []

-- the lines of a note
abbrev pub note_text : ContentValue → ReferenceValue → List ℕ
note_text content commit =
    codes "N " ++ content_name content ++ 32 ∷ reference_text commit ++ 10 ∷ []
    ++ inline_text content

-- the lines of a change
abbrev pub change_text : ChangeValue → List ℕ
change_text (Modifies mode content path) = modify_text mode content path
change_text (Deletes path) = line (codes "D ") (path_text path)
change_text (Renames from to) = two_paths_text (codes "R ") from to
change_text (Copies from to) = two_paths_text (codes "C ") from to
change_text DeletesAll = codes "deleteall\n"
change_text (Notes content commit) = note_text content commit

-- the lines of a blob
abbrev pub blob_text : BlobValue → List ℕ
blob_text blob =
    codes "blob\n" ++ mark_text blob.mark ++ optional_text (codes "original-oid ") blob.original_oid
    ++ data_text blob.content

-- a commit up to its message
abbrev pub commit_head : CommitValue → List ℕ
commit_head commit =
    line (codes "commit ") commit.ref_name ++ mark_text commit.mark
    ++ optional_text (codes "original-oid ") commit.original_oid
    ++ optional_person_text (codes "author ") commit.author
    ++ person_line_text (codes "committer ") commit.committer
    ++ optional_text (codes "encoding ") commit.encoding

-- the lines of a commit
abbrev pub commit_text : CommitValue → List ℕ
commit_text commit =
    commit_head commit ++ data_text commit.message ++ from_text commit.from
    ++ merges_text commit.merges ++ flat_map change_text commit.changes ++ 10 ∷ []

-- the lines of a tag
abbrev pub tag_text : TagValue → List ℕ
tag_text tag =
    line (codes "tag ") tag.name ++ mark_text tag.mark
    ++ reference_line_text (codes "from ") tag.from
    ++ optional_text (codes "original-oid ") tag.original_oid
    ++ optional_person_text (codes "tagger ") tag.tagger ++ data_text tag.message

-- the command `reset`
abbrev pub reset_text : List ℕ → Option ReferenceValue → List ℕ
reset_text ref_name from = line (codes "reset ") ref_name ++ from_text from ++ 10 ∷ []

-- the lines of a command
abbrev pub command_text : CommandValue → List ℕ
command_text (Blobs blob) = blob_text blob
command_text (Commits commit) = commit_text commit
command_text (Tags tag) = tag_text tag
command_text (Resets ref_name from) = reset_text ref_name from
command_text (Features feature) = line (codes "feature ") feature
command_text (Options option) = line (codes "option ") option
command_text (Progresses text) = line (codes "progress ") text ++ 10 ∷ []
command_text Checkpoints = codes "checkpoint\n\n"
command_text Ends = codes "done\n"
