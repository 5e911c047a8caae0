-- The models of records in contracts: strings and ids are byte lists, paths are lists of names.
-- Cited by contracts of public items: CommitValue, CopyHistoryValue, SecureSigValue,
-- SignatureValue, commit_eq, copy_history_eq, root_commit, secure_sig_eq, signature_eq.
use Rattle.std.specs.Prelude.{ℕ, pos, List, [], ◌∷◌, Option, None, Bool}
use Rattle.std.specs.Str.{bytes_eq}
use Rattle.std.specs.Cmp.Lexicographic.{pointwise}
use Rattle.std.specs.Option.{option_eq}
use Rattle.std.specs.Ordering.{eq_of_both, on, int_eq}
use Rattle.jj_paths.specs.Orders.{path_eq}
use Rattle.jj_paths.specs.Paths.{Path}
use Rattle.jj_backend.specs.declared.backend.timestamp.Timestamp.{Timestamp}

-- an author or committer, and the time
pub record SignatureValue : Type 0 where
  pub name : List ℕ
  pub email : List ℕ
  pub timestamp : Timestamp

-- signed data and its cryptographic signature
pub record SecureSigValue : Type 0 where
  pub signed_data : List ℕ
  pub sig : List ℕ

-- the copy history of a file
pub record CopyHistoryValue : Type 0 where
  pub current_path : Path
  pub parents : List (List ℕ)
  pub salt : List ℕ

-- a commit; root_tree and conflict_labels are the terms of merges
pub record CommitValue : Type 0 where
  pub parents : List (List ℕ)
  pub predecessors : List (List ℕ)
  pub root_tree : List (List ℕ)
  pub conflict_labels : List (List ℕ)
  pub change_id : List ℕ
  pub description : List ℕ
  pub author : SignatureValue
  pub committer : SignatureValue
  pub secure_sig : Option SecureSigValue

-- ---- the root commit

-- no name and no email, at the Unix epoch
abbrev pub no_signature : SignatureValue
no_signature = record {
  name = [];
  email = [];
  timestamp = record { timestamp = record { 0 = pos 0 }; tz_offset = pos 0 };
}

-- the commit without parents from which all others descend
abbrev pub root_commit : List ℕ → List ℕ → CommitValue
root_commit change_id tree_id = record {
  parents = [];
  predecessors = [];
  root_tree = tree_id ∷ [];
  conflict_labels = [] ∷ [];
  change_id = change_id;
  description = [];
  author = no_signature;
  committer = no_signature;
  secure_sig = None;
}

-- ---- equality, field by field

-- equality of timestamps: the same time and the same offset of the zone
abbrev pub timestamp_eq : Timestamp → Timestamp → Bool
timestamp_eq = eq_of_both (on (λ time. time.timestamp.0) int_eq)
    (on (λ time. time.tz_offset) int_eq)

-- equality of authors or committers: the same name, email and time
abbrev pub signature_eq : SignatureValue → SignatureValue → Bool
signature_eq =
    eq_of_both (on (λ s. s.name) bytes_eq)
    (eq_of_both (on (λ s. s.email) bytes_eq) (on (λ s. s.timestamp) timestamp_eq))

-- equality of cryptographic signatures: the same signed bytes and the same signature
abbrev pub secure_sig_eq : SecureSigValue → SecureSigValue → Bool
secure_sig_eq = eq_of_both (on (λ s. s.signed_data) bytes_eq) (on (λ s. s.sig) bytes_eq)

-- equality of copy histories: the same path, parents and salt
abbrev pub copy_history_eq : CopyHistoryValue → CopyHistoryValue → Bool
copy_history_eq =
    eq_of_both (on (λ h. h.current_path) path_eq)
    (eq_of_both (on (λ h. h.parents) (pointwise bytes_eq)) (on (λ h. h.salt) bytes_eq))

-- equality of the parents, predecessors and trees of commits
abbrev pub origin_eq : CommitValue → CommitValue → Bool
origin_eq =
    eq_of_both (on (λ c. c.parents) (pointwise bytes_eq))
    (eq_of_both (on (λ c. c.predecessors) (pointwise bytes_eq))
    (on (λ c. c.root_tree) (pointwise bytes_eq)))

-- equality of the conflict labels, change ids and descriptions of commits
abbrev pub message_eq : CommitValue → CommitValue → Bool
message_eq =
    eq_of_both (on (λ c. c.conflict_labels) (pointwise bytes_eq))
    (eq_of_both (on (λ c. c.change_id) bytes_eq) (on (λ c. c.description) bytes_eq))

-- equality of the authors, committers and signatures of commits
abbrev pub signers_eq : CommitValue → CommitValue → Bool
signers_eq =
    eq_of_both (on (λ c. c.author) signature_eq)
    (eq_of_both (on (λ c. c.committer) signature_eq)
    (on (λ c. c.secure_sig) (option_eq secure_sig_eq)))

-- equality of commits: all fields are equal
abbrev pub commit_eq : CommitValue → CommitValue → Bool
commit_eq = eq_of_both origin_eq (eq_of_both message_eq signers_eq)
