-- Workspace paths by name, and their updates.
-- Cited by contracts of public items: HaveSamePaths, with_path, with_renamed,
-- without_names.
use Rattle.std.specs.Prelude.{◌≡◌, ℕ, if◌then◌else◌, List, Option, None, Some}
use Rattle.std.specs.List.{list_any}
use Rattle.std.specs.Str.{bytes_eq}

-- the path of each workspace; None for an unknown name
abbrev pub WorkspacePaths : Type 0
WorkspacePaths = List ℕ → Option (List ℕ)

-- sets the path of a name
abbrev pub with_path : List ℕ → List ℕ → WorkspacePaths → WorkspacePaths
with_path name path paths = λ other. if bytes_eq name other then Some path else paths other

-- removes the paths of names
abbrev pub without_names : List (List ℕ) → WorkspacePaths → WorkspacePaths
without_names names paths = λ other.
    if list_any (λ name. bytes_eq name other) names then None else paths other

-- moves the path of a name to another name
abbrev pub with_renamed : List ℕ → List ℕ → WorkspacePaths → WorkspacePaths
with_renamed old new paths = λ other.
    if bytes_eq new other then paths old else (if bytes_eq old other then None else paths other)

-- every name has the same path in both
abbrev pub HaveSamePaths : WorkspacePaths → WorkspacePaths → Type 0
HaveSamePaths old new = (name : List ℕ) → new name ≡ old name
