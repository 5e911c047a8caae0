-- Errors for names and paths that are not valid in the file system.
-- Cited by contracts of public items: AddsPath, IsNameError, IsPathError.
use Rattle.std.specs.Prelude.{◌≡◌, ◌≢◌, ◌⊎◌, ⊤, true, IsSomeAnd, string_bytes}
use Rattle.std.specs.List.{find}
use Rattle.jj_paths.specs.Paths.{Name, Path}
use Rattle.jj_files.specs.PathJoining.{is_dots}
use Rattle.jj_paths.specs.declared.repo_path.to_fs.InvalidRepoPathComponentError.{InvalidRepoPathComponentError}
use Rattle.jj_paths.specs.declared.repo_path.to_fs.InvalidRepoPathComponentError.TheVariants.{Invalid, Memory}
use Rattle.jj_paths.specs.declared.repo_path.to_fs.InvalidRepoPathError.{InvalidRepoPathError}
use Rattle.jj_paths.specs.declared.repo_path.to_fs.InvalidRepoPathError.TheVariants.{Invalid as of_path, Memory as no_memory}

-- the error contains this name
abbrev pub ContainsName : Name → InvalidRepoPathComponentError → Type 0
ContainsName name (Invalid component) = string_bytes component ≡ name
ContainsName name Memory = ⊥

-- the name is `.` or `..`, and the error contains it or is out of memory
abbrev pub IsNameError : Name → InvalidRepoPathComponentError → Type 0
IsNameError name error = (is_dots name ≡ true) × ((error ≡ Memory) ⊎ ContainsName name error)

-- the error adds the path to this error about a component, or is out of memory
abbrev pub AddsPath : Path → InvalidRepoPathComponentError → InvalidRepoPathError → Type 0
AddsPath path error (of_path at source) = (at ≡ path) × (source ≡ error) × (error ≢ Memory)
AddsPath path error no_memory = ⊤

-- the error contains the path and its first name that is `.` or `..`, or is out of memory
abbrev pub IsPathError : Path → InvalidRepoPathError → Type 0
IsPathError path (of_path at source) =
    (at ≡ path) × IsSomeAnd (find is_dots path) (λ name. ContainsName name source)
IsPathError path no_memory = ⊤
