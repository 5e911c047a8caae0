use Rattle.std.proofs.Common.{◌++◌, ◌∙◌, ℕ, IfOk, List, subst}
use Rattle.jj_dag.specs.Outcomes.{IfFails}
use Rattle.jj_store_walks.specs.Histories.{AreMergeBases, IsErrorBelow}
use Rattle.jj_history.proofs.ancestry.bases.Goals as goal

pub returns-clause-bases : goal.returns-clause-bases
returns-clause-bases g c = subst (λ (firsts : List (List ℕ)). IfOk c.merge_bases.result (λ bases. AreMergeBases (g.B.Backend.objects c.args.store.now) firsts c.args.others.now bases.items)) (c.deref.ensures.value ∙ c.in_ok-firsts.ensures) c.merge_bases.ensures.bases

pub returns-clause-error : goal.returns-clause-error
returns-clause-error g c = subst (λ (firsts : List (List ℕ)). IfFails c.merge_bases.result (IsErrorBelow (g.B.Backend.objects c.args.store.now) (g.B.Backend.may_fail c.args.store.now) (firsts ++ c.args.others.now))) (c.deref.ensures.value ∙ c.in_ok-firsts.ensures) c.merge_bases.ensures.error
