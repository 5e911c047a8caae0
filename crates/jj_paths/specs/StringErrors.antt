-- Errors for strings that are no paths, or no names.
-- Cited by contracts of public items: IsCopiedStringError, IsStringError.
use Rattle.std.specs.Prelude.{◌≡◌, Bool, ℕ, false, List, string_bytes}
use Rattle.jj_paths.specs.declared.repo_path.InvalidNewRepoPathError.{InvalidNewRepoPathError}
use Rattle.jj_paths.specs.declared.repo_path.InvalidNewRepoPathError.TheVariants.{Invalid, Memory}

-- the string is not valid, and the error contains it
abbrev pub IsStringError : Bool → List ℕ → InvalidNewRepoPathError → Type 0
IsStringError passes text (Invalid value) = (passes ≡ false) × (string_bytes value ≡ text)
IsStringError passes text Memory = ⊥

-- the string is not valid, and the error contains a copy or is out of memory
abbrev pub IsCopiedStringError : Bool → List ℕ → InvalidNewRepoPathError → Type 0
IsCopiedStringError passes text (Invalid value) = (passes ≡ false) × (string_bytes value ≡ text)
IsCopiedStringError passes text Memory = passes ≡ false
