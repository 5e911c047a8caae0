use Rattle.std.proofs.Common.{◌≡◌, List, map, take}
use denote.Ref.{Bor}
use Rattle.jj_walks_tests.specs.declared.commits.Commit.{Commit}
use Rattle.jj_walks_tests.specs.Branches.{ImplementsCommits}
use Rattle.jj_walks_tests.proofs.branches.commit_items.Given as goal

abbrev pub invariant-loop-commit : goal.invariant-loop-commit
invariant-loop-commit l = (shown : List (Bor Commit)) × (map (λ c. c.now) shown ≡ take l.commit-index l.commits) × ImplementsCommits l.commits shown l.items.items
