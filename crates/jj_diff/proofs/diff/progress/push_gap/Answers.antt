use Rattle.jj_diff.proofs.diff.progress.push_gap.Goals as goal

pub push_matching-requires-clause-pending : goal.push_matching-requires-clause-pending
push_matching-requires-clause-pending g c = rw c.deref.ensures.value c.requires.pending

pub push_different-requires-clause-ranges : goal.push_different-requires-clause-ranges
push_different-requires-clause-ranges g c = rw (c.deref-2.ensures.value, c.deref-3.ensures.value) c.requires.ranges

pub push_different-requires-clause-cuts : goal.push_different-requires-clause-cuts
push_different-requires-clause-cuts g c = rw c.deref-3.ensures.value c.requires.cuts

pub push_different-requires-clause-prefix : goal.push_different-requires-clause-prefix
push_different-requires-clause-prefix g c =
    rw c.deref-2.ensures.value (rw c.deref.ensures.value at c.in_ok-push_matching.ensures.prefix)

pub push_different-requires-clause-last : goal.push_different-requires-clause-last
push_different-requires-clause-last g c = c.in_ok-push_matching.ensures.last (rw c.deref.ensures.value c.requires.gap)

pub push_different-requires-clause-row : goal.push_different-requires-clause-row
push_different-requires-clause-row g c = rw (c.deref-2.ensures.value, c.deref-3.ensures.value) c.requires.row

pub returns-clause-prefix : goal.returns-clause-prefix
returns-clause-prefix g c = rw c.deref-3.ensures.value at c.in_ok-push_different.ensures.prefix

pub returns-clause-start : goal.returns-clause-start
returns-clause-start g c = λ n at before.
    c.in_ok-push_different.ensures.start n at (c.in_ok-push_matching.ensures.start n (rw c.deref.ensures.value before))
