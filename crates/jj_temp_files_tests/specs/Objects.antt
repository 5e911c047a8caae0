-- Object files, which are absent or whole after a crash, and the errors of writing one.
-- Cited by contracts of public items: IsAbsentOrWhole, StaysAbsentOrWhole, IsAtPathOrTemp.
use Rattle.std.specs.Prelude.{◌≡◌, ◌⊎◌, ⊤, ℕ, List, Option, string_bytes}
use Rattle.jj_files.specs.declared.file_util.errors.PathError.{PathError}
use Rattle.jj_files.specs.declared.file_util.errors.PathError.TheVariants.{Invalid, Memory}
use Rattle.jj_temp_files.specs.TempNames.{IsNumberedPath}
use Rattle.jj_temp_files.specs.Crashes.{LeftSince, IsWholeOrAbsent}

-- after a crash at this moment, the path has no file, or one with these bytes
abbrev pub IsAbsentOrWhole : {S : Type 0} → (S → List ℕ → Option (List ℕ) → Type 0) → S → List ℕ
    → List ℕ → Type 0
IsAbsentOrWhole may_leave files path bytes =
    (left : Option (List ℕ)) → may_leave files path left → IsWholeOrAbsent bytes left

-- after a crash at any later moment, the path has no file, or one with these bytes
abbrev pub StaysAbsentOrWhole : {S : Type 0} → (S → ℕ) → LeftSince S → S → S → List ℕ → List ℕ
    → Type 0
StaysAbsentOrWhole moment left_since old new path bytes = (left : Option (List ℕ))
    → left_since new (moment old) path left → IsWholeOrAbsent bytes left

-- an error with this path, or with that of a temporary file in the directory; or out of memory
abbrev pub IsAtPathOrTemp : List ℕ → List ℕ → PathError → Type 0
IsAtPathOrTemp dir path (Invalid at cause) =
    (string_bytes at ≡ path) ⊎ IsNumberedPath dir (string_bytes at)
IsAtPathOrTemp dir path Memory = ⊤
