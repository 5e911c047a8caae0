use Rattle.std.proofs.Common.{◌≡◌, ◌∷◌, ap, ◌∙◌, arith, length}
use Rattle.jj_paths.specs.Names.{path_of}
use Rattle.jj_paths.specs.Iterators.{remaining_ancestors, ancestors_from}
use Rattle.jj_paths.proofs.Ancestors.{ancestors-step}
use Rattle.jj_paths.proofs.repo_path.iter.RepoPathAncestorsIterator.next.Goals as goal

pub returns-clause-steps : goal.returns-clause-steps
returns-clause-steps c = ap ancestors_from (c.in_ok-path.was) ∙ ancestors-step (path_of c.in_ok-path.path) c.parent-self.result c.parent-self.ensures

pub returns-clause-goes : goal.returns-clause-goes
returns-clause-goes c =
    let steps : remaining_ancestors c.args.self.now ≡ path_of c.in_ok-path.path ∷ ancestors_from c.parent-self.result = ap ancestors_from (c.in_ok-path.was) ∙ ancestors-step (path_of c.in_ok-path.path) c.parent-self.result c.parent-self.ensures in
    record { on = λ h. (tt, tt, omega (arith, ap length steps)); keeps = tt; rests = λ h. tt }
