use Rattle.std.proofs.Common.{Option, Some, None, IfSome}
use Rattle.std.specs.Prelude.{IfNone, MatchOption}
use Rattle.jj_merges_tests.proofs.callers.resolve_accepting.Goals as goal

-- case analysis on an option
by_cases : {X : Type 0} (o : Option X) (P : Type 0) (Q : X → Type 0) → IfSome o Q → IfNone o P → MatchOption o P Q
by_cases None P Q some none = none
by_cases (Some x) P Q some none = some

pub returns : goal.returns
returns c = by_cases c.resolve_trivial.result _ _ c.resolve_trivial.ensures.resolved c.resolve_trivial.ensures.unresolved
