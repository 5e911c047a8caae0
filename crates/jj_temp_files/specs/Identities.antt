-- Identities of files.
-- Cited by contracts of public items: IsIdentityOf, IsIdentityAt.
use Rattle.std.specs.Prelude.{◌≡◌, ℕ, List, Result, Ok, Err, MatchResult, IsErrAnd}
use Rattle.std.specs.declared.io.Error.{Error}
use Rattle.jj_files.specs.PathErrors.{IsAtPath}
use Rattle.jj_files.specs.declared.file_util.errors.PathError.{PathError}
use Rattle.jj_temp_files.specs.declared.access.FileStatus.{FileStatus}
use Rattle.jj_temp_files.specs.declared.identity.FileIdentity.{FileIdentity}

-- the device and the number of a status
abbrev pub identity_of : FileStatus → FileIdentity
identity_of status = record { device = status.device; inode = status.inode }

-- the identity of a status that may have been read, or the error of reading it
abbrev pub IsIdentityOf : (Result FileStatus Error → Type 0) → Result FileIdentity Error → Type 0
IsIdentityOf may_stat result =
    (read : Result FileStatus Error) × may_stat read
    × MatchResult read (λ status. result ≡ Ok (identity_of status)) (λ error. result ≡ Err error)

-- the identity of a status that may have been read, or the error of reading it, with the path
abbrev pub IsIdentityAt : (Result FileStatus Error → Type 0) → List ℕ
    → Result FileIdentity PathError → Type 0
IsIdentityAt may_stat path result =
    (read : Result FileStatus Error) × may_stat read
    × MatchResult read (λ status. result ≡ Ok (identity_of status))
    (λ error. IsErrAnd result (IsAtPath path error))
