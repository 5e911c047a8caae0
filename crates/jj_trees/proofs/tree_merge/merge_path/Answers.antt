use Rattle.std.proofs.Common.{◌≡◌, ◌∙◌, refl}
use Rattle.std.specs.Option.{option_eq}
use Rattle.jj_backend.specs.contracts.backend.tree_value.TreeValuePartialEq.TheImpl as tree_values
use Rattle.jj_trees.proofs.Conflicting.{conflict_done, cloned_values}
use Rattle.jj_trees.proofs.tree_merge.merge_path.Goals as goal

pub returns-in_ok-push-in-Conflict-clause-appended : goal.returns-in_ok-push-in-Conflict-clause-appended
returns-in_ok-push-in-Conflict-clause-appended c = λ _.
    let eq = option_eq tree_values.eq-value.it in
    let given : c.from_vec-conflict.result ≡ c.args.values.items = c.from_vec-conflict.ensures ∙ c.from_vec.ensures.items in
    let terms = cloned_values _ _ _ c.in_ok-labels-in-Conflict.ensures.terms (λ v h. h) (λ w h. h) (λ v w h. h) in
    conflict_done (option_eq tree_values.eq-value.it) c.args.same_change c.args.values.items c.args.labels.now c.args.path
    c.args.merged.now.resolved.items c.args.merged.now.resolved.items c.args.merged.now.conflicts.items c.push-in-Conflict.new.self.items
    c.in_ok-labels-in-Conflict.terms c.in_ok-labels-in-Conflict.labels
    (λ v. rw (← c.deref.ensures.value) (c.in-Conflict.ensures.0 v))
    (rw (← c.deref.ensures.value) c.in-Conflict.ensures.1)
    (rw (← given) terms)
    (rw (← given) c.in_ok-labels-in-Conflict.ensures.labels)
    refl c.in_ok-push-in-Conflict.ensures.items
