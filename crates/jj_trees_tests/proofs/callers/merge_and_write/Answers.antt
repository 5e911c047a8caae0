use Rattle.std.proofs.Common.{◌∙◌, inl}
use Rattle.std.proofs.lemmas.Result.{err_from_is_err_and}
use Rattle.std.specs.Option.{option_eq}
use Rattle.jj_merges.specs.declared.merge.SameChange.TheVariants.{Accept}
use Rattle.jj_backend.specs.contracts.backend.tree_value.TreeValuePartialEq.TheImpl as tree_values
use Rattle.jj_trees.specs.TreeMerges.{root_values}
use Rattle.jj_trees_tests.proofs.WrittenOutcomes.{only_ok, outcomes_ok, unlabeled_merge, write_errors}
use Rattle.jj_trees_tests.proofs.callers.merge_and_write.Goals as goal

pub returns-clause-outcomes : goal.returns-clause-outcomes
returns-clause-outcomes g c =
    let eq = option_eq tree_values.eq-value.it in
    let old = (g.B.Backend.objects c.args.backend.now).trees in
    let values = root_values c.args.trees.now in
    let m = c.in_ok-merge.merge in
    let merge = unlabeled_merge old eq Accept values c.unlabeled-labels.result m.resolved.items m.conflicts.items c.unlabeled-labels.ensures
    (record { resolves = c.in_ok-merge.ensures.resolved; conflicted = c.in_ok-merge.ensures.conflicts; ascending = c.in_ok-merge.ensures.ascending }) in
    outcomes_ok old eq Accept values c.args.side m.resolved.items m.conflicts.items merge _ (c.deref.ensures.value ∙ c.in_ok-chosen.ensures)
    (g.B.Backend.objects c.write_back.new.backend).trees c.write_back.result c.write_back.ensures.tree

pub returns-clause-only : goal.returns-clause-only
returns-clause-only g c =
    let eq = option_eq tree_values.eq-value.it in
    let old = (g.B.Backend.objects c.args.backend.now).trees in
    let values = root_values c.args.trees.now in
    let m = c.in_ok-merge.merge in
    let merge = unlabeled_merge old eq Accept values c.unlabeled-labels.result m.resolved.items m.conflicts.items c.unlabeled-labels.ensures
    (record { resolves = c.in_ok-merge.ensures.resolved; conflicted = c.in_ok-merge.ensures.conflicts; ascending = c.in_ok-merge.ensures.ascending }) in
    only_ok old eq Accept values c.args.side m.resolved.items m.conflicts.items merge _ (c.deref.ensures.value ∙ c.in_ok-chosen.ensures)
    (g.B.Backend.objects c.write_back.new.backend).trees c.write_back.result c.write_back.ensures.tree

pub returns-clause-error : goal.returns-clause-error
returns-clause-error g c =
    let eq = option_eq tree_values.eq-value.it in
    let old = (g.B.Backend.objects c.args.backend.now).trees in
    let values = root_values c.args.trees.now in
    let m = c.in_ok-merge.merge in
    let merge = unlabeled_merge old eq Accept values c.unlabeled-labels.result m.resolved.items m.conflicts.items c.unlabeled-labels.ensures
    (record { resolves = c.in_ok-merge.ensures.resolved; conflicted = c.in_ok-merge.ensures.conflicts; ascending = c.in_ok-merge.ensures.ascending }) in
    write_errors old eq Accept values c.args.side m.resolved.items m.conflicts.items merge g.B.Backend.objects g.B.Backend.may_fail_to_write c.args.backend.now _ _
    c.write_back.result c.in_ok-merge.ensures.read.not_deeper c.write_back.ensures.error

pub returns-in_err-merge-clause-error : goal.returns-in_err-merge-clause-error
returns-in_err-merge-clause-error g c =
    let p = err_from_is_err_and c.from_residual.result c.from_residual.ensures.1 in rw (p.1, p.2) (inl c.in_err-merge.ensures.error)
