-- The contents of the records of a backend, composed of those of their fields.
-- Cited by contracts of public items: CommitContents, CopyHistoryContents, MillisContents,
-- SecureSigContents, SignatureContents, TimestampContents, commit_contents, copy_history_contents,
-- millis_contents, secure_sig_contents, signature_contents, timestamp_contents.
use Rattle.std.specs.Prelude.{ℕ, ◌<◌, ◌^◌, List, [], ◌∷◌, FitsSigned}
use Rattle.std.specs.Int.{w32, w64}
use Rattle.jj_content.specs.Content.{i32_content, i64_content, string_content}
use Rattle.jj_decode.specs.Contents.{AreContents, IsContentOf, BothContents, ListContents, OptionContents}
use Rattle.jj_decode.specs.ContentsProofs.{contents_on, both_contents, list_contents, option_contents, u8_contents, i32_contents, i64_contents, string_contents}
use Rattle.jj_decode.specs.Decoding.{IsString}
use Rattle.jj_paths.specs.Contents.{IsPathText}
use Rattle.jj_decode.specs.MergeContents.{MergeContents, merge_contents}
use Rattle.jj_decode.specs.PathContents.{path_contents}
use Rattle.jj_backend.specs.Contents.{AreBytes, bytes_content, IsMillis, millis_content, IsTimestamp, timestamp_content, IsSignature, signature_content, IsSecureSig, secure_sig_content, IsCopyHistory, copy_history_content, IsOrigin, origin_content, IsMessage, message_content, AreSigners, signers_content, IsCommit, commit_content}

-- ---- strings, and byte lists (ids and data)

-- the contents of strings
abbrev pub StringContents : List ℕ → Type 0
StringContents = IsContentOf IsString string_content

-- the contents of byte strings
abbrev pub BytesContents : List ℕ → Type 0
BytesContents = ListContents (IsContentOf (λ byte. byte < 2 ^ 8) (λ byte. byte ∷ []))

pub bytes_contents : AreContents AreBytes bytes_content BytesContents
bytes_contents = list_contents u8_contents

-- ---- timestamps

-- the contents of times in milliseconds
abbrev pub MillisContents : List ℕ → Type 0
MillisContents = IsContentOf (FitsSigned w64) i64_content

pub millis_contents : AreContents IsMillis millis_content MillisContents
millis_contents = contents_on (λ millis. millis.0) i64_contents

-- the contents of timestamps
abbrev pub TimestampContents : List ℕ → Type 0
TimestampContents = BothContents MillisContents (IsContentOf (FitsSigned w32) i32_content)

pub timestamp_contents : AreContents IsTimestamp timestamp_content TimestampContents
timestamp_contents = contents_on (λ time. (time.timestamp, time.tz_offset))
    (both_contents millis_contents i32_contents)

-- ---- signatures

-- the contents of authors and committers
abbrev pub SignatureContents : List ℕ → Type 0
SignatureContents = BothContents StringContents (BothContents StringContents TimestampContents)

pub signature_contents : AreContents IsSignature signature_content SignatureContents
signature_contents = contents_on (λ s. (s.name, (s.email, s.timestamp)))
    (both_contents string_contents (both_contents string_contents timestamp_contents))

-- the contents of cryptographic signatures
abbrev pub SecureSigContents : List ℕ → Type 0
SecureSigContents = BothContents BytesContents BytesContents

pub secure_sig_contents : AreContents IsSecureSig secure_sig_content SecureSigContents
secure_sig_contents = contents_on (λ s. (s.signed_data, s.sig))
    (both_contents bytes_contents bytes_contents)

-- ---- copy histories

-- the contents of copy histories
abbrev pub CopyHistoryContents : List ℕ → Type 0
CopyHistoryContents = BothContents (IsContentOf IsPathText string_content)
    (BothContents (ListContents BytesContents) BytesContents)

pub copy_history_contents : AreContents IsCopyHistory copy_history_content CopyHistoryContents
copy_history_contents = contents_on (λ h. (h.current_path, (h.parents, h.salt)))
    (both_contents path_contents (both_contents (list_contents bytes_contents) bytes_contents))

-- ---- commits: ancestry and tree; labels, change id and description; author, committer and
-- signature

-- the contents of the parents, predecessors and trees of commits
abbrev pub OriginContents : List ℕ → Type 0
OriginContents = BothContents (ListContents BytesContents)
    (BothContents (ListContents BytesContents) (MergeContents BytesContents))

origin_contents : AreContents IsOrigin origin_content OriginContents
origin_contents = contents_on (λ c. (c.parents, (c.predecessors, c.root_tree)))
    (both_contents (list_contents bytes_contents)
    (both_contents (list_contents bytes_contents) (merge_contents bytes_contents)))

-- the contents of the conflict labels, change ids and descriptions of commits
abbrev pub MessageContents : List ℕ → Type 0
MessageContents = BothContents (MergeContents StringContents)
    (BothContents BytesContents StringContents)

message_contents : AreContents IsMessage message_content MessageContents
message_contents = contents_on (λ c. (c.conflict_labels, (c.change_id, c.description)))
    (both_contents (merge_contents string_contents) (both_contents bytes_contents string_contents))

-- the contents of the authors, committers and signatures of commits
abbrev pub SignersContents : List ℕ → Type 0
SignersContents = BothContents SignatureContents
    (BothContents SignatureContents (OptionContents SecureSigContents))

signers_contents : AreContents AreSigners signers_content SignersContents
signers_contents = contents_on (λ c. (c.author, (c.committer, c.secure_sig)))
    (both_contents signature_contents
    (both_contents signature_contents (option_contents secure_sig_contents)))

-- the contents of commits
abbrev pub CommitContents : List ℕ → Type 0
CommitContents = BothContents OriginContents (BothContents MessageContents SignersContents)

pub commit_contents : AreContents IsCommit commit_content CommitContents
commit_contents = contents_on (λ c. (c, (c, c)))
    (both_contents origin_contents (both_contents message_contents signers_contents))
