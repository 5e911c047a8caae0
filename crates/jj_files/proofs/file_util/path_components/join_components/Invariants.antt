-- The path consists of the components so far.
use Rattle.std.proofs.Common.{◌≡◌, [], map, take}
use Rattle.std.specs.Path.{path_buf_bytes}
use Rattle.jj_files.specs.PathJoining.{join_all}
use Rattle.jj_files.proofs.file_util.path_components.join_components.Given as goal

abbrev pub invariant-loop-index : goal.invariant-loop-index
invariant-loop-index l = path_buf_bytes l.text ≡ join_all [] (map (λ component. component.now) (take l.index l.components))
