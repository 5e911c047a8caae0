use Rattle.std.proofs.Common.{arith, ◌≡◌, ◌∙◌, true, sym, subst}
use Rattle.jj_dag.proofs.Walking.{Contains-from_has}
use Rattle.jj_log.specs.Edges.{IsOfType}
use Rattle.jj_log.specs.Numbers.{is_visible}
use Rattle.jj_log.proofs.targets.edge_to.Goals as goal

pub returns-then-contains-clause-edge_type : goal.returns-then-contains-clause-edge_type
returns-then-contains-clause-edge_type c =
    let visible : is_visible c.args.commits.now c.args.target ≡ true = grind (arith) in
    subst (λ ty. IsOfType c.args.commits.now c.args.parents.now ty c.args.target) (sym c.direct.ensures.edge_type)
    (visible, Contains-from_has c.args.parents.now c.args.target (sym c.contains.ensures ∙ c.if-contains.true))
