-- The first commits are numbered.
use Rattle.std.proofs.Common.{ℕ, List, ◌++◌, take}
use Rattle.std.specs.List.{AllZip}
use Rattle.jj_log.specs.Numbering.{Interns, IsNumbered, names_of}
use Rattle.jj_log.proofs.numbering.number_commits.Given as goal

abbrev pub invariant-loop-commit : goal.invariant-loop-commit
invariant-loop-commit l = (others : List (List ℕ)) × Interns (names_of l.commits ++ others) l.numbers
    × AllZip (IsNumbered (names_of l.commits ++ others)) (take l.commit-index l.commits) l.numbered.items
