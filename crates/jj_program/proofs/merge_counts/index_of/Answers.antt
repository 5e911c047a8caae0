use Rattle.std.proofs.Common.{subst, sym}
use Rattle.jj_program.specs.ValueCounts.{AreCountsOf, HasNoValue}
use Rattle.jj_program.proofs.CountedValues.{counts_new}
use Rattle.jj_program.proofs.merge_counts.index_of.Goals as goal

pub returns-clause-same : goal.returns-clause-same
returns-clause-same c terms all =
    let counts = c.args.counts.now.items in
    let new = subst (λ counts. HasNoValue counts c.args.value.now) c.deref.ensures.value c.in_default.ensures.missing in
    subst (AreCountsOf terms) (sym c.in_ok-push.ensures.items) (counts_new terms counts c.args.value new all)
