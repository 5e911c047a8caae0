use Rattle.jj_core_c.proofs.ResolvedTerms.{index_in_range, resolves_at, resolves_to_none}
use Rattle.jj_core_c.proofs.merges.resolved_index.Goals as goal

pub returns-in-Some-clause-in_range : goal.returns-in-Some-clause-in_range
returns-in-Some-clause-in_range c = index_in_range c.args.terms.now c.in-Some.found.now c.requires.numbered c.in-Some.ensures.member

pub returns-in-Some-clause-resolved : goal.returns-in-Some-clause-resolved
returns-in-Some-clause-resolved c = resolves_at c.args.same_change c.args.terms.now c.in-Some.found.now c.requires.numbered c.in-Some.ensures.member c.in-Some.ensures.resolved

pub returns-in-None-clause-unresolved : goal.returns-in-None-clause-unresolved
returns-in-None-clause-unresolved c = resolves_to_none c.args.same_change c.args.terms.now c.in-None.ensures.unresolved
