use Rattle.std.proofs.Common.{◌≡◌, ◌∙◌, [], sym, ap, subst, length, Some}
use Rattle.std.proofs.lemmas.Result.{err_from_is_err_and}
use Rattle.std.specs.Option.{option_eq}
use Rattle.std.proofs.lemmas.List.{length-map}
use Rattle.jj_merges.specs.Merge.{IsOdd}
use Rattle.jj_paths.specs.Names.{path_of}
use Rattle.jj_backend.specs.declared.backend.tree_value.TreeValue.TheVariants.{Tree}
use Rattle.jj_trees.specs.TreeMerges.{root_values}
use Rattle.jj_trees.specs.DirectoryMerges.{conflict_entries, IsReadAt, FailsAt, IsMerge, IsWithin}
use Rattle.jj_backend.specs.contracts.backend.tree_value.TreeValuePartialEq.TheImpl as tree_values
use Rattle.jj_trees.proofs.Roots.{at_root, error_at_root, resolved_exactly, conflicts_exactly, ascending_triples, are_read, merge_error}
use Rattle.jj_trees.proofs.tree_merge.merge_trees_within.Goals as goal

pub merge_directory-requires-clause-odd : goal.merge_directory-requires-clause-odd
merge_directory-requires-clause-odd g c =
    let same : c.deref.result.now ≡ root_values c.args.trees.now =
    c.deref.ensures.value ∙ c.in_ok-values.ensures ∙ ap root_values c.as_slice.ensures.terms in
    subst IsOdd (sym (ap length same ∙ length-map c.args.trees.now (λ id. Some (Tree id)))) c.as_slice.ensures.odd

pub returns : goal.returns
returns g c =
    let same : c.deref.result.now ≡ root_values c.args.trees.now =
    c.deref.ensures.value ∙ c.in_ok-values.ensures ∙ ap root_values c.as_slice.ensures.terms in
    let trees = (g.B.Backend.objects c.args.backend.now).trees in
    let eq = option_eq tree_values.eq-value.it in
    let values = root_values c.args.trees.now in
    let may_read_tree = g.B.Backend.may_read_tree c.args.backend.now in
    let is_read = IsReadAt trees may_read_tree in
    let fails = FailsAt trees may_read_tree (g.B.Backend.may_fail c.args.backend.now) in
    let resolved = c.merge_directory.new.merged.resolved.items in
    let conflicts = c.merge_directory.new.merged.conflicts.items in
    let merge = subst (λ values. IsMerge trees eq c.args.same_change values c.args.labels.now resolved (conflict_entries conflicts)) same
    (at_root trees eq c.args.same_change c.deref.result.now c.args.labels.now (path_of c.root.result) c.new.result.items resolved
    (conflict_entries c.new-2.result.items) (conflict_entries conflicts) c.root.ensures c.new.ensures.items (ap conflict_entries c.new-2.ensures.items)
    c.in_ok-merge_directory.ensures.merge) in
    let within = subst (λ levels. IsWithin trees eq c.args.same_change is_read fails [] values levels) c.get.ensures.value
    (subst (λ values. IsWithin trees eq c.args.same_change is_read fails [] values c.get.result) same
    (subst (λ dir. IsWithin trees eq c.args.same_change is_read fails dir c.deref.result.now c.get.result) c.root.ensures
    c.in_ok-merge_directory.ensures.within)) in record {
      resolved = resolved_exactly trees eq c.args.same_change values c.args.labels.now resolved merge.resolves;
      conflicts = conflicts_exactly trees eq c.args.same_change values c.args.labels.now conflicts merge.conflicted;
      ascending = (merge.resolves.in_order, ascending_triples conflicts merge.conflicted.in_order);
      read = are_read trees eq c.args.same_change may_read_tree values _ fails within;
      error = tt;
    }

pub returns-in_err-merge_directory-clause-error : goal.returns-in_err-merge_directory-clause-error
returns-in_err-merge_directory-clause-error g c =
    let same : c.deref.result.now ≡ root_values c.args.trees.now =
    c.deref.ensures.value ∙ c.in_ok-values.ensures ∙ ap root_values c.as_slice.ensures.terms in
    let trees = (g.B.Backend.objects c.args.backend.now).trees in
    let eq = option_eq tree_values.eq-value.it in
    let may_read_tree = g.B.Backend.may_read_tree c.args.backend.now in
    let may_fail = g.B.Backend.may_fail c.args.backend.now in
    let p = err_from_is_err_and c.from_residual-in_err-merge_directory.result c.from_residual-in_err-merge_directory.ensures.1 in
    rw (p.1, p.2)
    (merge_error trees eq c.args.same_change may_read_tree (root_values c.args.trees.now) _ may_fail _
    (error_at_root trees eq c.args.same_change (IsReadAt trees may_read_tree) (FailsAt trees may_read_tree may_fail) _ _ _ _ _ _ c.root.ensures same c.get.ensures.value
    c.in_err-merge_directory.ensures.error))
