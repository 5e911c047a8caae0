-- Errors for strings that are no paths.
-- Cited by contracts of public items: IsNoPathError.
use Rattle.std.specs.Prelude.{◌≡◌, ℕ, false, List, string_bytes}
use Rattle.jj_paths.specs.Paths.{is_path_string}
use Rattle.jj_paths.specs.declared.repo_path.InvalidNewRepoPathError.{InvalidNewRepoPathError}
use Rattle.jj_paths.specs.declared.repo_path.InvalidNewRepoPathError.TheVariants.{Invalid, Memory}

-- the string is no valid path and the error contains it, or the error is out of memory
abbrev pub IsNoPathError : List ℕ → InvalidNewRepoPathError → Type 0
IsNoPathError text (Invalid value) = (is_path_string text ≡ false) × (string_bytes value ≡ text)
IsNoPathError text Memory = Unit {0}
