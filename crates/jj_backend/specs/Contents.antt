-- The content bytes of records: the concatenated bytes of their fields. `Is..` are the valid
-- values: lists and strings have lengths below 2 ^ 64, strings are UTF-8, and merges have an odd
-- length.
-- Cited by contracts of public items: IsCommit, IsCopyHistory, IsMillis, IsSecureSig, IsSignature,
-- IsTimestamp, bytes_content, commit_content, copy_history_content, millis_content,
-- secure_sig_content, signature_content, timestamp_content.
use Rattle.std.specs.Prelude.{ℕ, ◌<◌, ◌^◌, [], ◌∷◌, List, length, ◌++◌, FitsSigned}
use Rattle.std.specs.Int.{w32, w64}
use Rattle.std.specs.Str.{IsUtf8}
use Rattle.jj_content.specs.Content.{i32_content, i64_content, string_content, list_content, option_content, AreValues, IsOptionOf}
use Rattle.jj_merges.specs.Contents.{IsMergeOf}
use Rattle.jj_paths.specs.Contents.{IsShortPath, path_content}
use Rattle.jj_backend.specs.Records.{SignatureValue, SecureSigValue, CopyHistoryValue, CommitValue}
use Rattle.jj_backend.specs.declared.backend.timestamp.MillisSinceEpoch.{MillisSinceEpoch}
use Rattle.jj_backend.specs.declared.backend.timestamp.Timestamp.{Timestamp}

-- ---- strings, and byte lists (ids and data)

-- the bytes are UTF-8, and their length fits 64 bits
abbrev pub IsText : List ℕ → Type 0
IsText text = IsUtf8 text × (length text < 2 ^ 64)

-- each number is a byte
abbrev pub AreBytes : List ℕ → Type 0
AreBytes = AreValues (λ byte. byte < 2 ^ 8)

-- the content of a byte string: its length, then its bytes
abbrev pub bytes_content : List ℕ → List ℕ
bytes_content = list_content (λ byte. byte ∷ [])

-- ---- timestamps

-- the time fits 64 bits
abbrev pub IsMillis : MillisSinceEpoch → Type 0
IsMillis millis = FitsSigned w64 millis.0

-- the content of a time: its milliseconds in 8 bytes
abbrev pub millis_content : MillisSinceEpoch → List ℕ
millis_content millis = i64_content millis.0

-- the time fits 64 bits, and the offset of the zone 32
abbrev pub IsTimestamp : Timestamp → Type 0
IsTimestamp time = IsMillis time.timestamp × FitsSigned w32 time.tz_offset

-- the content of a timestamp: the time, then the offset of the zone
abbrev pub timestamp_content : Timestamp → List ℕ
timestamp_content time = millis_content time.timestamp ++ i32_content time.tz_offset

-- ---- signatures

-- the name, the email and the time fit their types
abbrev pub IsSignature : SignatureValue → Type 0
IsSignature s = IsText s.name × (IsText s.email × IsTimestamp s.timestamp)

-- the content of an author or committer: name, email and time
abbrev pub signature_content : SignatureValue → List ℕ
signature_content s =
    string_content s.name ++ (string_content s.email ++ timestamp_content s.timestamp)

-- the signed bytes and the signature are bytes
abbrev pub IsSecureSig : SecureSigValue → Type 0
IsSecureSig s = AreBytes s.signed_data × AreBytes s.sig

-- the content of a cryptographic signature: the signed bytes and the signature
abbrev pub secure_sig_content : SecureSigValue → List ℕ
secure_sig_content s = bytes_content s.signed_data ++ bytes_content s.sig

-- ---- copy histories

-- the path, the parents and the salt fit their types
abbrev pub IsCopyHistory : CopyHistoryValue → Type 0
IsCopyHistory h = IsShortPath h.current_path × (AreValues AreBytes h.parents × AreBytes h.salt)

-- the content of a copy history: the path, the parents and the salt
abbrev pub copy_history_content : CopyHistoryValue → List ℕ
copy_history_content h =
    path_content h.current_path ++ (list_content bytes_content h.parents ++ bytes_content h.salt)

-- ---- commits: ancestry and tree; labels, change id and description; author, committer and
-- signature

-- the parents, the predecessors and the root tree fit their types
abbrev pub IsOrigin : CommitValue → Type 0
IsOrigin c = AreValues AreBytes c.parents
    × (AreValues AreBytes c.predecessors × IsMergeOf AreBytes c.root_tree)

-- the content of the parents, the predecessors and the root tree
abbrev pub origin_content : CommitValue → List ℕ
origin_content c =
    list_content bytes_content c.parents
    ++ (list_content bytes_content c.predecessors ++ list_content bytes_content c.root_tree)

-- the labels, the change id and the description fit their types
abbrev pub IsMessage : CommitValue → Type 0
IsMessage c = IsMergeOf IsText c.conflict_labels × (AreBytes c.change_id × IsText c.description)

-- the content of the labels, the change id and the description
abbrev pub message_content : CommitValue → List ℕ
message_content c =
    list_content string_content c.conflict_labels
    ++ (bytes_content c.change_id ++ string_content c.description)

-- the author, the committer and the cryptographic signature fit their types
abbrev pub AreSigners : CommitValue → Type 0
AreSigners c = IsSignature c.author × (IsSignature c.committer
    × IsOptionOf IsSecureSig c.secure_sig)

-- the content of the author, the committer and the cryptographic signature
abbrev pub signers_content : CommitValue → List ℕ
signers_content c =
    signature_content c.author
    ++ (signature_content c.committer ++ option_content secure_sig_content c.secure_sig)

-- the fields of the commit fit the types of the code
abbrev pub IsCommit : CommitValue → Type 0
IsCommit c = IsOrigin c × (IsMessage c × AreSigners c)

-- the content bytes of a commit: its fields in the order of their declaration
abbrev pub commit_content : CommitValue → List ℕ
commit_content c = origin_content c ++ (message_content c ++ signers_content c)
