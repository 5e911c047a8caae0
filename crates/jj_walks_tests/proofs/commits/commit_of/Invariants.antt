use Rattle.std.proofs.Common.{◌≡◌, drop}
use Rattle.jj_walks_tests.specs.Commits.{commit_with}
use Rattle.jj_walks_tests.proofs.commits.commit_of.Given as goal

abbrev pub invariant-loop-commit : goal.invariant-loop-commit
invariant-loop-commit l = record {
  rest : commit_with l.commits l.id ≡ commit_with (drop l.commit-index l.commits) l.id;
}
