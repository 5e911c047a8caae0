-- State of the iterator over the components of a file system path.
-- Machinery of private functions and fields.
use Rattle.std.specs.Prelude.{ℕ, List}
use Rattle.std.specs.Path.{path_names}
use Rattle.jj_paths.specs.declared.repo_path.from_relative.FsComponents.{FsComponents}

-- the components not yet yielded
abbrev pub remaining_names : FsComponents → List (List ℕ)
remaining_names left = path_names left.rest.now
