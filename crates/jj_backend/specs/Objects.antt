-- The objects of a backend, as finite maps from ids, the values that no write changes, and the
-- effects and errors of reads and writes.
-- Cited by contracts of public items: AddsCommit, AddsCopy, AddsFile, AddsSymlink, AddsTree,
-- FailsToSign, FixedValues, IsCommitError, IsConvertedError, IsRead, IsSigned, Object, Objects.
use Rattle.std.specs.Prelude.{◌≡◌, ℕ, List, Option, Some, None, if◌then◌else◌, ◌⊎◌, Result, Ok, Err, MatchResult}
use Rattle.std.specs.Bool.{MatchBool}
use Rattle.std.specs.Str.{bytes_eq}
use Rattle.jj_files.specs.declared.file_util.errors.SourceKind.TheVariants.{Data}
use Rattle.jj_backend.specs.Contents.{commit_content}
use Rattle.jj_backend.specs.Errors.{IsOtherOf, is_not_found}
use Rattle.jj_backend.specs.Records.{CommitValue, CopyHistoryValue}
use Rattle.jj_backend.specs.Trees.{Entries}
use Rattle.jj_backend.specs.declared.backend.errors.BackendError.{BackendError}
use Rattle.jj_backend.specs.declared.backend.errors.BackendError.TheVariants.{Other, Memory as NoMemory}
use Rattle.jj_backend.specs.declared.signing.SignError.{SignError}
use Rattle.jj_backend.specs.declared.signing.SignError.TheVariants.{InvalidSignatureFormat, Backend, Memory}

-- the bytes that a signer signs: the content of the commit without its signature
abbrev pub unsigned_content : CommitValue → List ℕ
unsigned_content commit = commit_content (record commit { secure_sig = None })

-- a map from ids, by their bytes, to values
abbrev pub ById : Type 0 → Type 0
ById V = List ℕ → Option V

module _ {V : Type 0} where
  -- the map m with id mapped to v
  abbrev pub put : ById V → List ℕ → V → ById V
  put m id v = λ q. if bytes_eq id q then Some v else m q

  -- the id is unmapped, or already mapped to v
  abbrev pub IsFree : ById V → List ℕ → V → Type 0
  IsFree m id v = (m id ≡ None) ⊎ (m id ≡ Some v)

-- an object of one of the five kinds
pub data Object : Type 0 where
  file_object : List ℕ → Object
  symlink_object : List ℕ → Object
  copy_object : CopyHistoryValue → Object
  tree_object : Entries → Object
  commit_object : CommitValue → Object

-- objects of each type, by their ids
pub record Objects : Type 0 where
  pub files : ById (List ℕ)
  pub symlinks : ById (List ℕ)
  pub copies : ById CopyHistoryValue
  pub trees : ById Entries
  pub commits : ById CommitValue

-- the values of a backend that no write changes
pub record FixedValues : Type 0 where
  pub name : List ℕ
  pub commit_id_length : ℕ
  pub change_id_length : ℕ
  pub root_commit_id : List ℕ
  pub root_change_id : List ℕ
  pub empty_tree_id : List ℕ
  pub concurrency : ℕ

-- A read returns the value found for the id, or ObjectNotFound only if there is none, or an error
-- that the backend may fail with.
abbrev pub IsRead : {V R : Type 0} → (BackendError → Type 0) → Option V → (R → V)
    → Result R BackendError → Type 0
IsRead may_fail found value result =
    MatchResult result (λ r. found ≡ Some (value r))
    (λ e. MatchBool (is_not_found e) (found ≡ None) (may_fail e))

-- ---- writes: the new objects are the old ones and this one

-- the id had no other file, and the file was added under it; nothing else has changed
abbrev pub AddsFile : Objects → Objects → List ℕ → List ℕ → Type 0
AddsFile old new id contents = IsFree old.files id contents
    × (new ≡ record old { files = put old.files id contents })

-- the id had no other link, and the link was added under it; nothing else has changed
abbrev pub AddsSymlink : Objects → Objects → List ℕ → List ℕ → Type 0
AddsSymlink old new id target = IsFree old.symlinks id target
    × (new ≡ record old { symlinks = put old.symlinks id target })

-- the id had no other copy history, and this one was added under it; nothing else has changed
abbrev pub AddsCopy : Objects → Objects → List ℕ → CopyHistoryValue → Type 0
AddsCopy old new id copy = IsFree old.copies id copy
    × (new ≡ record old { copies = put old.copies id copy })

-- the id had no other tree, and the tree was added under it; nothing else has changed
abbrev pub AddsTree : Objects → Objects → List ℕ → Entries → Type 0
AddsTree old new id entries = IsFree old.trees id entries
    × (new ≡ record old { trees = put old.trees id entries })

-- the id had no other commit, and the commit was added under it; nothing else has changed
abbrev pub AddsCommit : Objects → Objects → List ℕ → CommitValue → Type 0
AddsCommit old new id commit = IsFree old.commits id commit
    × (new ≡ record old { commits = put old.commits id commit })

-- stored is the stored form of the commit: unchanged without a signer, else with the signed content
-- and a signature of it
abbrev pub IsSigned : {S : Type 0} → (S → List ℕ → Result (List ℕ) SignError → Type 0) → Option S
    → CommitValue → CommitValue → Type 0
IsSigned may_sign None commit stored = stored ≡ commit
IsSigned may_sign (Some signer) commit stored =
    (sig : List ℕ) × may_sign signer (unsigned_content commit) (Ok sig)
    × (stored ≡ record commit {
      secure_sig = Some
          (record { signed_data = unsigned_content commit; sig = sig });
    })

-- ---- errors of writing a commit

-- e is the backend's error for this error of the signer
abbrev pub IsConvertedError : SignError → BackendError → Type 0
IsConvertedError (Backend source) e = e ≡ Other source
IsConvertedError InvalidSignatureFormat e = IsOtherOf Data e
IsConvertedError Memory e = e ≡ NoMemory

-- there is a signer, it may fail for the commit's content, and e is the backend's error for that
abbrev pub FailsToSign : {S : Type 0} → (S → List ℕ → Result (List ℕ) SignError → Type 0) → Option S
    → CommitValue → BackendError → Type 0
FailsToSign may_sign None commit e = ⊥
FailsToSign may_sign (Some signer) commit e =
    (why : SignError) × may_sign signer (unsigned_content commit) (Err why) × IsConvertedError why e

-- storing the commit or its stored form may fail with e, or signing it may
abbrev pub IsCommitError : {S : Type 0} → (S → List ℕ → Result (List ℕ) SignError → Type 0)
    → (CommitValue → BackendError → Type 0) → Option S → CommitValue → BackendError → Type 0
IsCommitError may_sign may_fail signer contents e =
    may_fail contents e
    ⊎ FailsToSign may_sign signer contents e
    ⊎ ((stored : CommitValue) × IsSigned may_sign signer contents stored × may_fail stored e)
