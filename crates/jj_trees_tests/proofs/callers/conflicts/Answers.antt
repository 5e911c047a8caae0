use Rattle.std.proofs.Common.{◌∙◌, length, subst, sym}
use Rattle.std.specs.Option.{option_eq}
use Rattle.jj_merges.specs.Merge.{HaveSameCounts, IsDisjoint, IsOdd}
use Rattle.jj_backend.specs.contracts.backend.tree_value.TreeValuePartialEq.TheImpl as tree_values
use Rattle.jj_trees.specs.TreeMerges.{root_values, values_at}
use Rattle.jj_trees_tests.proofs.ConflictTerms.{length-values_at, length-root_values}
use Rattle.jj_trees_tests.proofs.callers.conflicts.Goals as goal

pub returns : goal.returns
returns g c = λ path terms labels among.
    let eq = option_eq tree_values.eq-value.it in
    let trees = (g.B.Backend.objects c.args.backend.now).trees in
    let values = values_at trees (root_values c.args.trees.now) path in
    let odd : IsOdd (length values) =
    subst IsOdd (sym (length-values_at trees (root_values c.args.trees.now) path ∙ length-root_values c.args.trees.now)) c.as_slice-terms.ensures.odd in
    let conflict = (c.in_ok-merged.ensures.conflicts path terms labels).0 among in (
      subst (λ t. HaveSameCounts eq t values) (sym conflict.2) (c.simplified_indices_laws.ensures.counts values odd),
      subst (IsDisjoint eq) (sym conflict.2) (c.simplified_indices_laws.ensures.disjoint values odd),
    )
