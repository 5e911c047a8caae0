-- Changes of a value, sorted by the first names of their paths. Machinery of private functions.
use Rattle.std.specs.Prelude.{◌≡◌, Bool, true, false, List, [], ◌∷◌, Option, Some, None}
use Rattle.std.specs.Option.{option_map, unwrap_or}
use Rattle.std.specs.Global.{Vec}
use Rattle.std.specs.BTreeMap.{BTreeMap, get}
use Rattle.jj_paths.specs.Paths.{Name, name_cmp}
use Rattle.jj_backend.specs.Objects.{ById}
use Rattle.jj_backend.specs.Trees.{Entries}
use Rattle.jj_backend.specs.declared.backend.tree_value.TreeValue.{TreeValue}
use Rattle.jj_backend.specs.declared.backend.tree_value.TreeValue.TheVariants.{File, Symlink, Tree, GitSubmodule}
use Rattle.jj_tree_builder.specs.Changes.{Change, Files, changed, files_at}
use Rattle.jj_tree_builder.specs.declared.tree_builder.Pending.{Pending}

-- there is a value that is no directory
abbrev pub is_file : Option TreeValue → Bool
is_file None = false
is_file (Some (Tree id)) = false
is_file (Some (File id executable copy_id)) = true
is_file (Some (Symlink id)) = true
is_file (Some (GitSubmodule id)) = true

-- the changes below a name
abbrev pub changes_of : BTreeMap Name (Vec Change) → Name → List Change
changes_of below name =
    unwrap_or (option_map (λ changes. changes.items) (get name_cmp below name)) []

-- a file has no changes below it
abbrev pub IsOpen : Pending → Type 0
IsOpen pending = is_file pending.value ≡ true → pending.below.entries ≡ []

-- the files of a value with changes
abbrev pub pending_files : ById Entries → Pending → Files
pending_files trees pending [] = files_at trees pending.value []
pending_files trees pending (name ∷ place) =
    changed trees (changes_of pending.below name)
    (λ rest. files_at trees pending.value (name ∷ rest)) place
