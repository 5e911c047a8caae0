use Rattle.std.proofs.Common.{rules, ◌≡◌, ◌∙◌, ◌-◌, ap, get_or, length}
use Rattle.std.specs.Vec.{vec_len}
use Rattle.jj_dag.proofs.DenseSets.{taken_out}
use Rattle.jj_dag.proofs.dense_set.DenseSetNodeSetUsize.remove.Goals as goal

pub returns-then-index-len-clause-updates : goal.returns-then-index-len-clause-updates
returns-then-index-len-clause-updates c =
    let old = c.self.inside.members in
    let size : vec_len old ≡ length old.items = search rules in
    rw (← c.self.view_is) (taken_out old.items c.swap_remove.new.self.items c.self.inside.indices.items c.args.key.now c.in-Some.index c.self.invariant (search rules) (search rules)
    (record {
      len = search rules;
      moved = λ more. c.swap_remove.ensures.by_index.0 0 (search rules) ∙ ap (λ n. get_or old.items (n - 1) 0) size;
      same = λ k apart less. c.swap_remove.ensures.by_index.1 k 0 apart (search rules);
    }))

pub returns-else-index-len-clause-updates : goal.returns-else-index-len-clause-updates
returns-else-index-len-clause-updates c =
    let old = c.self.inside.members in
    let size : vec_len old ≡ length old.items = search rules in
    rw (← c.self.view_is) (taken_out old.items c.swap_remove.new.self.items c.self.inside.indices.items c.args.key.now c.in-Some.index c.self.invariant (search rules) (search rules)
    (record {
      len = search rules;
      moved = λ more. c.swap_remove.ensures.by_index.0 0 (search rules) ∙ ap (λ n. get_or old.items (n - 1) 0) size;
      same = λ k apart less. c.swap_remove.ensures.by_index.1 k 0 apart (search rules);
    }))
