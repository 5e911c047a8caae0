-- Commands of a stream. A reading function returns what it read and the bytes after it, or why it
-- stopped: the grammar in the manual of `git fast-import`, from left to right.
use Rattle.std.specs.Prelude.{ℕ, zero, suc, ◌+◌, Bool, if◌then◌else◌, List, [], ◌∷◌, length, Option, Some, None, Result, Ok, Err, codes}
use Rattle.std.specs.Str.{bytes_eq}
use Rattle.jj_fast_import.specs.declared.fault.Expected.{Expected}
use Rattle.jj_fast_import.specs.declared.fault.Expected.TheVariants as expected
use Rattle.jj_fast_import.specs.declared.fault.Stop.{Stop}
use Rattle.jj_fast_import.specs.declared.fault.Stop.TheVariants.{Malformed}
use Rattle.jj_fast_import.specs.Words.{and_then, number_of, strip}
use Rattle.jj_fast_import.specs.Lines.{◌>>=◌, data_at, expect, line_at, optional, required, skip_lf}
use Rattle.jj_fast_import.specs.People.{person_of}
use Rattle.jj_fast_import.specs.Changes.{change_at, choose, reference_of}
use Rattle.jj_fast_import.specs.Values.{ReferenceValue, PersonValue, ChangeValue, BlobValue, CommitValue, TagValue, CommandValue, Blobs, Commits, Tags, Resets, Features, Options, Progresses, Checkpoints, Ends}

-- 1. Parts of commands.

abbrev pub if_there : {A : Type 0} → Option (List ℕ) → (List ℕ → Result A Stop)
    → Result (Option A) Stop
if_there None read = Ok None
if_there (Some text) read = read text >>= λ x. Ok (Some x)

-- `:NUMBER`
abbrev pub marked : List ℕ → Option ℕ
marked text = and_then (strip (codes ":") text) number_of

-- `mark :NUMBER`, if it is there
unfoldable pub mark_at : Bool → List ℕ → Result (Option ℕ × List ℕ) Stop
mark_at at_end bytes = do
  line ← optional (codes "mark ") at_end bytes
  mark ← if_there line.0 (λ text. expect expected.Mark (length bytes) (marked text))
  Ok (mark, line.1)

-- the bytes after a word, if the next line begins with it
unfoldable pub optional_bytes : List ℕ → Bool → List ℕ → Result (Option (List ℕ) × List ℕ) Stop
optional_bytes word at_end bytes = optional word at_end bytes

-- `mark` and `original-oid`
unfoldable pub labels_at : Bool → List ℕ → Result ((Option ℕ × Option (List ℕ)) × List ℕ) Stop
labels_at at_end bytes = do
  mark ← mark_at at_end bytes
  original ← optional_bytes (codes "original-oid ") at_end mark.1
  Ok ((mark.0, original.0), original.1)

-- a person, if the next line begins with the word
unfoldable pub person_line : List ℕ → Bool → List ℕ → Result (Option PersonValue × List ℕ) Stop
person_line word at_end bytes = do
  line ← optional word at_end bytes
  person ← if_there line.0 (λ text. expect expected.Person (length bytes) (person_of text))
  Ok (person, line.1)

-- `author`, if it is there, and `committer`
unfoldable pub people_at : Bool → List ℕ
    → Result ((Option PersonValue × PersonValue) × List ℕ) Stop
people_at at_end bytes = do
  author ← person_line (codes "author ") at_end bytes
  line ← required (codes "committer ") expected.Committer at_end author.1
  committer ← expect expected.Person (length author.1) (person_of line.0)
  Ok ((author.0, committer), line.1)

-- a block of data and a line feed that may follow it
unfoldable pub message_at : Bool → List ℕ → Result (List ℕ × List ℕ) Stop
message_at at_end bytes = do
  read ← data_at at_end bytes
  rest ← skip_lf at_end read.1
  Ok (read.0, rest)

-- `encoding`, if it is there, and the message
unfoldable pub text_at : Bool → List ℕ → Result ((Option (List ℕ) × List ℕ) × List ℕ) Stop
text_at at_end bytes = do
  encoding ← optional_bytes (codes "encoding ") at_end bytes
  message ← message_at at_end encoding.1
  Ok ((encoding.0, message.0), message.1)

abbrev pub reference_in : Expected → ℕ → Option (List ℕ) × List ℕ
    → Result (Option (ReferenceValue × List ℕ)) Stop
reference_in kind left (None, rest) = Ok None
reference_in kind left (Some text, rest) = do
  reference ← expect kind left (reference_of text)
  Ok (Some (reference, rest))

-- a reference and the bytes after its line, if the next line begins with the word
unfoldable pub reference_line : List ℕ → Expected → Bool → List ℕ
    → Result (Option (ReferenceValue × List ℕ)) Stop
reference_line word kind at_end bytes = do
  line ← optional word at_end bytes
  reference_in kind (length bytes) line

abbrev pub or_nothing : List ℕ → Option (ReferenceValue × List ℕ) → Option ReferenceValue × List ℕ
or_nothing bytes None = (None, bytes)
or_nothing bytes (Some read) = (Some read.0, read.1)

-- `from`, if it is there
unfoldable pub optional_reference : Bool → List ℕ → Result (Option ReferenceValue × List ℕ) Stop
optional_reference at_end bytes = do
  read ← reference_line (codes "from ") expected.From at_end bytes
  Ok (or_nothing bytes read)

abbrev pub list_of : {A : Type 0} → List ℕ → Option (A × List ℕ)
    → (List ℕ → Result (List A × List ℕ) Stop) → Result (List A × List ℕ) Stop
list_of bytes None next = Ok ([], bytes)
list_of bytes (Some read) next = next read.1 >>= λ others. Ok (read.0 ∷ others.0, others.1)

-- as many items as there are, but no more than the number; each takes at least a byte, so the
-- number of bytes and one is no limit
unfoldable pub many : {A : Type 0} → (List ℕ → Result (Option (A × List ℕ)) Stop) → ℕ → List ℕ
    → Result (List A × List ℕ) Stop
many read zero bytes = Ok ([], bytes)
many read (suc n) bytes =
    read bytes >>= λ found. list_of bytes found (λ rest. many read n rest)

-- lines `merge`
abbrev pub merges_at : Bool → ℕ → List ℕ → Result (List ReferenceValue × List ℕ) Stop
merges_at at_end limit bytes =
    many (λ rest. reference_line (codes "merge ") expected.Merge at_end rest) limit bytes

-- the changes of files that the bytes begin with, and the rest
abbrev pub changes_at : Bool → ℕ → List ℕ → Result (List ChangeValue × List ℕ) Stop
changes_at at_end limit bytes = many (λ rest. change_at at_end rest) limit bytes

-- `from` and `merge`
unfoldable pub parents_at : Bool → List ℕ
    → Result ((Option ReferenceValue × List ReferenceValue) × List ℕ) Stop
parents_at at_end bytes = do
  from ← optional_reference at_end bytes
  merges ← merges_at at_end (length from.1 + 1) from.1
  Ok ((from.0, merges.0), merges.1)

-- 2. Commands after their first lines.

-- the command `blob` after its first line, and the rest
unfoldable pub blob_at : Bool → List ℕ → Result (BlobValue × List ℕ) Stop
blob_at at_end bytes = do
  labels ← labels_at at_end bytes
  content ← message_at at_end labels.1
  Ok (record { mark = labels.0.0; original_oid = labels.0.1; content = content.0 }, content.1)

-- the command `commit` after its first line, and the rest
unfoldable pub commit_at : Bool → List ℕ → List ℕ → Result (CommitValue × List ℕ) Stop
commit_at at_end ref_name bytes = do
  labels ← labels_at at_end bytes
  people ← people_at at_end labels.1
  text ← text_at at_end people.1
  parents ← parents_at at_end text.1
  changes ← changes_at at_end (length parents.1 + 1) parents.1
  rest ← skip_lf at_end changes.1
  Ok (
    record {
      ref_name = ref_name;
      mark = labels.0.0;
      original_oid = labels.0.1;
      author = people.0.0;
      committer = people.0.1;
      encoding = text.0.0;
      message = text.0.1;
      from = parents.0.0;
      merges = parents.0.1;
      changes = changes.0;
    },
    rest,
  )

-- the command `tag` after its first line, and the rest
unfoldable pub tag_at : Bool → List ℕ → List ℕ → Result (TagValue × List ℕ) Stop
tag_at at_end name bytes = do
  mark ← mark_at at_end bytes
  line ← required (codes "from ") expected.From at_end mark.1
  from ← expect expected.From (length mark.1) (reference_of line.0)
  original ← optional_bytes (codes "original-oid ") at_end line.1
  tagger ← person_line (codes "tagger ") at_end original.1
  message ← message_at at_end tagger.1
  Ok (
    record {
      name = name;
      mark = mark.0;
      from = from;
      original_oid = original.0;
      tagger = tagger.0;
      message = message.0;
    },
    message.1,
  )

-- the command `reset` after its first line, and the rest
unfoldable pub reset_at : Bool → List ℕ → List ℕ → Result (CommandValue × List ℕ) Stop
reset_at at_end ref_name bytes = do
  from ← optional_reference at_end bytes
  rest ← skip_lf at_end from.1
  Ok (Resets ref_name from.0, rest)

-- 3. Commands by their first lines: the line, the number `left` of bytes from its start to the end
-- of the input, and the bytes after the line.

unfoldable pub other_in : Bool → ℕ → List ℕ → List ℕ → Result (CommandValue × List ℕ) Stop
other_in at_end left text rest =
    choose (strip (codes "feature ") text) (λ feature. Ok (Features feature, rest))
    (choose (strip (codes "option ") text) (λ option. Ok (Options option, rest))
    (choose (strip (codes "progress ") text) (λ progress. do
      after ← skip_lf at_end rest
      Ok (Progresses progress, after))
    (if bytes_eq text (codes "checkpoint") then (do
      after ← skip_lf at_end rest
      Ok (Checkpoints, after))
    else (if bytes_eq text (codes "done") then Ok (Ends, rest)
    else Err (Malformed expected.Command left)))))

unfoldable pub command_in : Bool → ℕ → List ℕ → List ℕ → Result (CommandValue × List ℕ) Stop
command_in at_end left text rest =
    if bytes_eq text (codes "blob") then (blob_at at_end rest >>= λ read. Ok (Blobs read.0, read.1))
    else (choose (strip (codes "commit ") text)
    (λ name. commit_at at_end name rest >>= λ read. Ok (Commits read.0, read.1))
    (choose (strip (codes "tag ") text)
    (λ name. tag_at at_end name rest >>= λ read. Ok (Tags read.0, read.1))
    (choose (strip (codes "reset ") text) (λ name. reset_at at_end name rest)
    (other_in at_end left text rest))))

abbrev pub command_of : Bool → ℕ → Option (List ℕ × List ℕ)
    → Result (Option (CommandValue × List ℕ)) Stop
command_of at_end left None = Ok None
command_of at_end left (Some line) =
    command_in at_end left line.0 line.1 >>= λ read. Ok (Some read)

-- the command that bytes begin with, and the bytes after it; none at the end of the stream
unfoldable pub command_at : Bool → List ℕ → Result (Option (CommandValue × List ℕ)) Stop
command_at at_end bytes = do
  line ← line_at at_end bytes
  command_of at_end (length bytes) line
