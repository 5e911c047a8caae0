use Rattle.std.proofs.Common.{IfOk, subst, sym}
use Rattle.jj_matchers.specs.MentionedNames.{MentionsOnly}
use Rattle.jj_matchers.specs.SortedVisits.{sorted_visit_spec}
use Rattle.jj_program.specs.WalkCommand.{leaf_spec}
use Rattle.jj_program.proofs.file_set.matcher.FileSetMatcher.visit_sorted.Goals as goal

pub returns-in-Files-clause-names : goal.returns-in-Files-clause-names
returns-in-Files-clause-names c =
    subst (λ set. IfOk c.visit_sorted-in-Files.result (λ visit. MentionsOnly (leaf_spec set).names (sorted_visit_spec visit))) (sym c.in-Files.is) c.visit_sorted-in-Files.ensures.names

pub returns-in-Prefix-clause-names : goal.returns-in-Prefix-clause-names
returns-in-Prefix-clause-names c =
    subst (λ set. IfOk c.visit_sorted-in-Prefix.result (λ visit. MentionsOnly (leaf_spec set).names (sorted_visit_spec visit))) (sym c.in-Prefix.is) c.visit_sorted-in-Prefix.ensures.names

pub returns-in-Globs-clause-names : goal.returns-in-Globs-clause-names
returns-in-Globs-clause-names c =
    subst (λ set. IfOk c.visit_sorted-in-Globs.result (λ visit. MentionsOnly (leaf_spec set).names (sorted_visit_spec visit))) (sym c.in-Globs.is) c.visit_sorted-in-Globs.ensures.names
