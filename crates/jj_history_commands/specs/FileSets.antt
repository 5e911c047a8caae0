-- The paths of a file set that an operand spells, and the changes at them.
-- Cited by contracts of public items: AreChangesIn, IsInSet.
use Rattle.std.specs.Prelude.{◌≡◌, ◌≢◌, ◌↔◌, ◌⊎◌, ◌++◌, ◌∷◌, [], ℕ, List, Contains, Option, Some, None}
use Rattle.jj_paths.specs.Paths.{Path}
use Rattle.jj_backend.specs.Objects.{ById}
use Rattle.jj_backend.specs.Trees.{Entries}
use Rattle.jj_backend.specs.declared.backend.tree_value.TreeValue.TheVariants.{Tree}
use Rattle.jj_filesets.specs.SyntaxTrees.{IsIn, SyntaxTree}
use Rattle.jj_tree_builder.specs.Changes.{files_at}
use Rattle.jj_tree_files.specs.declared.changes.Change.{Change}

-- the path is in the set; all paths are if there is none
abbrev pub IsInSet : Option SyntaxTree → Path → Type 0
IsInSet None path = Unit {0}
IsInSet (Some set) path = IsIn set path

-- exactly the paths of the set at which the files of two trees differ, each with both files
abbrev pub AreChangesIn : ById Entries → List ℕ → List ℕ → Option SyntaxTree → List Change → Type 0
AreChangesIn trees before after set changes = (change : Change) → Contains changes change
    ↔ ((change.before ≡ files_at trees (Some (Tree before)) change.path)
    × (change.after ≡ files_at trees (Some (Tree after)) change.path)
    × (change.before ≢ change.after) × IsInSet set change.path)

-- the files of two trees differ at a path of the set
abbrev pub DifferIn : ById Entries → List ℕ → List ℕ → Option SyntaxTree → Type 0
DifferIn trees before after set = (path : Path) × IsInSet set path
    × (files_at trees (Some (Tree before)) path ≢ files_at trees (Some (Tree after)) path)

-- an element is appended if it is in the set
abbrev pub Selects : {X : Type 0} → (X → Type 0) → X → List X → List X → Type 0
Selects InSet x old new = (InSet x × (new ≡ old ++ x ∷ [])) ⊎ ((¬ InSet x) × (new ≡ old))
