-- Appending `..` for the remaining components yields the whole path.
use Rattle.std.proofs.Common.{◌≡◌, map}
use Rattle.std.specs.Path.{path_buf_bytes, path_bytes, path_components, parent_dir, components_remaining}
use Rattle.jj_files.specs.PathJoining.{join_all}
use Rattle.jj_files.proofs.file_util.path_components.push_parents.Given as goal

abbrev pub invariant-loop-component : goal.invariant-loop-component
invariant-loop-component l = join_all (path_buf_bytes l.text) (map (λ _. parent_dir) (components_remaining l._component-iterator))
    ≡ join_all (path_buf_bytes l.initial.text) (map (λ _. parent_dir) (path_components (path_bytes l.path)))
