use Rattle.std.proofs.Common.{rules}
use Rattle.std.proofs.lemmas.Result.{MatchResult-weaker}
use Rattle.jj_mirror_tests.proofs.ShortTrees.{short_log}
use Rattle.jj_mirror_tests.proofs.logs.replayed_short_tree.Goals as goal

pub returns : goal.returns
returns c =
    MatchResult-weaker c.replay.result c.replay.ensures.cause (λ _ ok. ok) (λ e cause. search (rules, short_log, c.requires, cause))
