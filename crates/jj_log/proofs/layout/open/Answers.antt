use Rattle.std.proofs.Common.{rules, ◌≡◌, ◌∙◌, None, subst}
use Rattle.std.specs.List.{Contains}
use Rattle.jj_log.proofs.Settling.{absent, opened_added}
use Rattle.jj_log.proofs.layout.open.Goals as goal

pub returns-clause-columns : goal.returns-clause-columns
returns-clause-columns c =
    let is : c.index_of.result ≡ None = search rules in
    let none = absent c.deref.result.now c.args.node c.index_of.result is c.index_of.ensures in
    c.in_ok-push.ensures.items ∙ opened_added c.args.columns.now.items c.args.node (subst (λ l. Contains l c.args.node → ⊥) c.deref.ensures.value none)
