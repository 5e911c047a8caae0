-- Appending the remaining components to `value` yields the whole path, and the first invalid one is among them.
use Rattle.std.proofs.Common.{◌≡◌, [], string_bytes}
use Rattle.std.specs.List.{find}
use Rattle.std.specs.Path.{path_names}
use Rattle.jj_paths.specs.FsComponents.{remaining_names}
use Rattle.jj_paths.specs.RelativePaths.{is_disallowed}
use Rattle.jj_paths.specs.AppendedNames.{append_names}
use Rattle.jj_paths.proofs.repo_path.from_relative.join_components.Given as goal

abbrev pub invariant-loop-name : goal.invariant-loop-name
invariant-loop-name l =
    (append_names (string_bytes l.value) (remaining_names l.name-iterator) ≡ append_names [] (path_names l.path))
    × (find is_disallowed (remaining_names l.name-iterator) ≡ find is_disallowed (path_names l.path))
