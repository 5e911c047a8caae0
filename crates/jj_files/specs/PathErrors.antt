-- Errors of input and output with a path.
-- Cited by contracts of public items: AddsPath.
use Rattle.std.specs.Prelude.{◌≡◌, ⊤, ℕ, List, Result, Ok, MatchResult, IsErrAnd, string_bytes}
use Rattle.std.specs.declared.io.Error.{Error}
use Rattle.jj_files.specs.declared.file_util.errors.PathError.{PathError}
use Rattle.jj_files.specs.declared.file_util.errors.PathError.TheVariants.{Invalid, Memory}

-- the error with this path, or out of memory
abbrev pub IsAtPath : List ℕ → Error → PathError → Type 0
IsAtPath path error (Invalid at cause) = (string_bytes at ≡ path) × (cause ≡ error)
IsAtPath path error Memory = ⊤

-- a success is unchanged, and an error gets the path
abbrev pub AddsPath : {T : Type 0} → List ℕ → Result T Error → Result T PathError → Type 0
AddsPath path outcome result =
    MatchResult outcome (λ value. result ≡ Ok value)
    (λ error. IsErrAnd result (IsAtPath path error))
