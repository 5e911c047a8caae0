-- Appending the remaining components yields the whole path.
use Rattle.std.proofs.Common.{◌≡◌}
use Rattle.std.specs.Path.{path_buf_bytes, path_bytes, path_components, components_remaining}
use Rattle.jj_files.specs.PathJoining.{join_all}
use Rattle.jj_files.proofs.file_util.path_components.push_components.Given as goal

abbrev pub invariant-loop-component : goal.invariant-loop-component
invariant-loop-component l = join_all (path_buf_bytes l.text) (components_remaining l.component-iterator)
    ≡ join_all (path_buf_bytes l.initial.text) (path_components (path_bytes l.path))
