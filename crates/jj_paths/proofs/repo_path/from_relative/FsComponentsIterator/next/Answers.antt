use Rattle.std.proofs.Common.{◌≡◌, [], sym, ◌∙◌}
use Rattle.std.specs.Path.{path_names}
use Rattle.jj_paths.proofs.FsComponents.{names-empty}
use Rattle.jj_paths.proofs.repo_path.from_relative.FsComponentsIterator.next.Goals as goal

pub returns-clause-steps : goal.returns-clause-steps
returns-clause-steps c =
    let none : path_names c.loop-part.self.rest.now ≡ [] = names-empty c.loop-part.self.rest.now c.loop-part-test.ensures in
    (sym c.loop-part.invariant ∙ none, none)
