use Rattle.jj_merges.proofs.merge.Merge.resolve_trivial.Goals as goal

pub trivial_merge-requires : goal.trivial_merge-requires
trivial_merge-requires g c = rw c.as_slice.ensures.terms c.as_slice.ensures.odd

pub returns-clause-member : goal.returns-clause-member
returns-clause-member g c = rw (← c.as_slice.ensures.terms) c.trivial_merge.ensures.member

pub returns-clause-resolved : goal.returns-clause-resolved
returns-clause-resolved g c = rw (← c.as_slice.ensures.terms) c.trivial_merge.ensures.resolved

pub returns-clause-unresolved : goal.returns-clause-unresolved
returns-clause-unresolved g c = rw (← c.as_slice.ensures.terms) c.trivial_merge.ensures.unresolved
