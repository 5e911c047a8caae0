-- The way from a directory to a path.
-- Cited by contracts of public items: IsWay.
use Rattle.std.specs.Prelude.{◌≡◌, ◌≢◌, ℕ, List, [], ◌++◌}
use Rattle.std.specs.Path.{path_components}
use Rattle.jj_files.specs.PathComponents.{IsNormalized, IsRelativeTo}
use Rattle.jj_files.specs.PathJoining.{fs_text}

-- the way between the two normalized paths; from a directory to what is below it, the names below
pub record IsWay (dir path way : List ℕ) : Type 0 where
  pub from : List ℕ
  pub to : List ℕ
  pub from_dir : IsNormalized dir from
  pub to_path : IsNormalized path to
  pub relative : IsRelativeTo from to way
  pub below : (names : List (List ℕ)) → path_components from ≢ []
      → path_components to ≡ path_components from ++ names → way ≡ fs_text [] names
