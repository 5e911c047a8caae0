use Rattle.std.proofs.Common.{rules}
use Rattle.arrayvec.proofs.IterLemmas.{rest_runs, rest_runs_back}
use Rattle.jj_merges.proofs.merge.into_iter.MergeIntoIterator.into_iter.Goals as goal

pub returns-in-Inline : goal.returns-in-Inline
returns-in-Inline g c = record { into_iter_gives = (search rules, rest_runs, rest_runs_back) }

pub returns-in-Heap : goal.returns-in-Heap
returns-in-Heap g c = record { into_iter_gives = (search rules, rest_runs, rest_runs_back) }
