-- no component so far
use Rattle.std.proofs.Common.{◌≡◌, length}
use Rattle.std.specs.Path.{path_names}
use Rattle.jj_paths.proofs.repo_path.from_relative.FsComponentsIterator.next.Given as goal

abbrev pub invariant-loop-part : goal.invariant-loop-part
invariant-loop-part l = path_names l.self.rest.now ≡ path_names l.initial.self.rest.now

abbrev pub decreases-loop-part : goal.decreases-loop-part
decreases-loop-part l = length l.self.rest.now
