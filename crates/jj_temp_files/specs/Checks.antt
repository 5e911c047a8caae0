-- Links, and the test of the executable bit.
-- Cited by contracts of public items: LinksAt, TestsExecutableBit.
use Rattle.std.specs.Prelude.{◌≡◌, ◌⊎◌, ℕ, Bool, false, ◌==◌, List, Result, Ok, Err, MatchResult, bit_and, bit_xor}
use Rattle.std.specs.declared.io.Error.{Error}
use Rattle.std.specs.declared.io.ErrorKind.TheVariants.{PermissionDenied}
use Rattle.std.specs.IoError.{error_kind}
use Rattle.jj_files.specs.PathErrors.{AddsPath}
use Rattle.jj_files.specs.declared.file_util.errors.PathError.{PathError}
use Rattle.jj_temp_files.specs.declared.access.FileStatus.{FileStatus}
use Rattle.jj_temp_files.specs.declared.temp_file.NamedTempFile.{NamedTempFile}
use Rattle.jj_temp_files.specs.Persisting.{RemoveRelation, UnlinksFile}
use Rattle.jj_temp_files.specs.TempNames.{CreatesTempFile}

-- a link was created, or the error of that with its path
abbrev pub LinksAt : {S : Type 0} → (S → List ℕ → List ℕ → Result (Unit {0}) Error → S → Type 0)
    → List ℕ → List ℕ → S → Result (Unit {0}) PathError → S → Type 0
LinksAt may_link original link old result new = (linked : Result (Unit {0}) Error)
    × may_link old original link linked new × AddsPath link linked result

-- the permission bits of a status
abbrev pub permissions_of : FileStatus → ℕ
permissions_of status = bit_and status.mode 0o7777

-- the relations of reading the status of an open file, and of setting its permission bits
abbrev pub StatRelation : Type 0 → Type 0 → Type 1
StatRelation S F = S → F → Result FileStatus Error → Type 0

-- which results and states a call that sets the mode of a file may return and leave
abbrev pub SetModeRelation : Type 0 → Type 0 → Type 1
SetModeRelation S F = S → F → ℕ → Result (Unit {0}) Error → S → Type 0

-- whether the permission bits that are read back are these, or the error of reading them
abbrev pub HasPermissions : {S F : Type 0} → StatRelation S F → F → ℕ → S → Result Bool Error
    → Type 0
HasPermissions may_stat file mode files result = (read : Result FileStatus Error)
    × may_stat files file read
    × MatchResult read (λ status. result ≡ Ok (permissions_of status == mode))
    (λ error. result ≡ Err error)

-- The permission bits were read and the owner's executable bit flipped: false if that is denied, an
-- error if it fails otherwise, and else whether the new bits are read back.
abbrev pub KeepsExecutableBit : {S F : Type 0} → StatRelation S F → SetModeRelation S F → F → S
    → Result Bool Error → S → Type 0
KeepsExecutableBit may_stat may_set_mode file old result new =
    (read : Result FileStatus Error) × may_stat old file read
    × MatchResult read
    (λ status. let mode = bit_xor (permissions_of status) 0o100 in
    (changed : Result (Unit {0}) Error) × may_set_mode old file mode changed new
    × MatchResult changed (λ done. HasPermissions may_stat file mode new result)
    (λ error. ((error_kind error ≡ PermissionDenied) × (result ≡ Ok false))
    ⊎ (result ≡ Err error)))
    (λ error. (result ≡ Err error) × (new ≡ old))

-- A new file was created in the directory, unlinked, and tested; or the error of one of these with
-- its path.
abbrev pub TestsExecutableBit : {S F : Type 0} → (S → List ℕ → Result F Error → S → Type 0)
    → RemoveRelation S → StatRelation S F → SetModeRelation S F → List ℕ → ℕ → S
    → Result Bool PathError → ℕ → S → Type 0
TestsExecutableBit {S} {F} may_create may_remove may_stat may_set_mode dir first old result last
    new =
    (created : Result (NamedTempFile F) PathError) × (there : S)
    × CreatesTempFile may_create dir first old created last there
    × MatchResult created
    (λ temp. (unlinked : Result F PathError) × (gone : S)
    × UnlinksFile may_remove temp there unlinked gone
    × MatchResult unlinked
    (λ file. (tested : Result Bool Error)
    × KeepsExecutableBit may_stat may_set_mode file gone tested new
    × AddsPath dir tested result)
    (λ fault. (result ≡ Err fault) × (new ≡ gone)))
    (λ fault. (result ≡ Err fault) × (new ≡ there))
