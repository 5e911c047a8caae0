-- The remaining items of an iterator over the parents of a commit.
-- Cited by contracts of public items: ids_left, items_left, parents_left, value_of_item.
use Rattle.std.specs.Prelude.{ℕ, List, map, Result}
use Rattle.std.specs.declared.result.Result.TheVariants.{Ok, Err}
use denote.Ref.{Bor}
use Rattle.std.specs.List.{filter_map}
use Rattle.jj_walks_tests.specs.declared.commits.Commit.{Commit}
use Rattle.jj_walks_tests.specs.declared.commits.Parents.{Parents}
use Rattle.jj_walks_tests.specs.declared.commits.OkCommits.{OkCommits}
use Rattle.jj_walks_tests.specs.declared.commits.OkIds.{OkIds}
use Rattle.jj_walks_tests.specs.Commits.{commit_with, ids_of}

abbrev pub parents_left : Parents → List Commit
parents_left s = filter_map (commit_with s.commits.now) s.ids.now

-- the commit of an item, or its error
abbrev pub value_of_item : Result (Bor Commit) ℕ → Result Commit ℕ
value_of_item (Ok c) = Ok c.now
value_of_item (Err e) = Err e

abbrev pub items_left : OkCommits → List (Result Commit ℕ)
items_left s = map (λ c. Ok c) (parents_left s.found)

abbrev pub ids_left : OkIds → List (Result ℕ ℕ)
ids_left s = map (λ n. Ok n) (ids_of (parents_left s.found))
