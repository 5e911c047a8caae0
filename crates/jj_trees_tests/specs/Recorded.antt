-- Records of writes.
-- Cited by contracts of public items: Records.
use Rattle.std.specs.Prelude.{◌≡◌, List, [], ◌∷◌, ◌++◌}
use Rattle.jj_backend.specs.Objects.{Object, tree_object}
use Rattle.jj_backend.specs.Trees.{Entries}
use Rattle.jj_paths.specs.Paths.{Path}

-- the record gains the tree that is written at this path
abbrev pub Records : List (Path × Entries) → Path → Object → List (Path × Entries) → Type 0
Records old path (tree_object entries) new = new ≡ old ++ (path, entries) ∷ []
Records old path _ new = new ≡ old
