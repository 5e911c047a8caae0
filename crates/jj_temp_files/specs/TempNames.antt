-- Names of temporary files, and creating one whose name is free.
-- Cited by contracts of public items: CreatesTempFile, IsNumberedPath.
use Rattle.std.specs.Prelude.{◌≡◌, ◌⊎◌, ℕ, ◌+◌, ◌%◌, ◌^◌, List, ◌++◌, Result, Ok, Err, MatchResult, codes, decimal, string_bytes}
use Rattle.std.specs.Path.{path_join}
use Rattle.std.specs.declared.io.Error.{Error}
use Rattle.std.specs.declared.io.ErrorKind.TheVariants.{AlreadyExists}
use Rattle.std.specs.IoError.{error_kind}
use Rattle.jj_files.specs.PathErrors.{IsAtPath}
use Rattle.jj_files.specs.declared.file_util.errors.PathError.{PathError}
use Rattle.jj_files.specs.declared.file_util.errors.PathError.TheVariants.{Memory}
use Rattle.jj_temp_files.specs.declared.temp_file.NamedTempFile.{NamedTempFile}

-- the path of the file with this number in a directory
abbrev pub numbered_path : List ℕ → ℕ → List ℕ
numbered_path dir number = path_join dir (codes ".tmp" ++ decimal number)

-- the path of a file with a numbered name in a directory
abbrev pub IsNumberedPath : List ℕ → List ℕ → Type 0
IsNumberedPath dir path = (number : ℕ) × (path ≡ numbered_path dir number)

-- the next number: 0 follows the greatest one
abbrev pub next_number : ℕ → ℕ
next_number number = (number + 1) % 2 ^ 64

-- how many names that are taken are passed over
abbrev pub most_taken : ℕ
most_taken = 65536

-- the name is taken
abbrev pub IsTaken : {F : Type 0} → Result F Error → Type 0
IsTaken (Ok file) = ⊥
IsTaken (Err error) = error_kind error ≡ AlreadyExists

-- This many files could not be created, since their names are taken: those from the first number
-- on, before the second one.
pub data PassesOverTaken {S F : Type 0} (may_create : S → List ℕ → Result F Error → S → Type 0)
    (dir : List ℕ) : ℕ → ℕ → S → ℕ → S → Type 0 where
  none : {number : ℕ} {state : S} → PassesOverTaken may_create dir 0 number state number state
  more : {count first number : ℕ} {old between new : S} {created : Result F Error}
      → PassesOverTaken may_create dir count first old number between
      → may_create between (numbered_path dir number) created new → IsTaken created
      → PassesOverTaken may_create dir (count + 1) first old (next_number number) new

-- Names that are taken were passed over, from the first number on. Then the file with the next
-- number was created, or that failed, or out of memory. The error is that the name is taken only
-- after as many names as are passed over.
abbrev pub CreatesTempFile : {S F : Type 0} → (S → List ℕ → Result F Error → S → Type 0) → List ℕ
    → ℕ → S → Result (NamedTempFile F) PathError → ℕ → S → Type 0
CreatesTempFile {S} {F} may_create dir first old result last new =
    (count : ℕ) × (number : ℕ) × (between : S)
    × PassesOverTaken may_create dir count first old number between
    × MatchResult result
    (λ temp. (string_bytes temp.path ≡ numbered_path dir number)
    × may_create between (numbered_path dir number) (Ok temp.file) new
    × (last ≡ next_number number))
    (λ fault. ((error : Error)
    × may_create between (numbered_path dir number) (Err error) new
    × (IsTaken {F = F} (Err error) → count ≡ most_taken)
    × IsAtPath (numbered_path dir number) error fault × (last ≡ next_number number))
    ⊎ ((fault ≡ Memory) × (new ≡ between) × (last ≡ number)))
