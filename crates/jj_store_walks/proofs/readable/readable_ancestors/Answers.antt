use Rattle.std.proofs.Common.{sym, subst}
use Rattle.jj_store_walks.specs.Histories.{AreReadableAncestors, found_errors}
use Rattle.jj_store_walks.proofs.PartedAncestors.{if_both, readable}
use Rattle.jj_store_walks.proofs.readable.readable_ancestors.Goals as goal

pub returns : goal.returns
returns g c =
    let store = c.args.store.now in
    let may_fail = g.B.Backend.may_fail store in
    let objects = g.B.Backend.objects store in
    let found = c.in_ok-found.found.items in
    if_both c.part.result _ _ _ c.part.ensures.commits c.part.ensures.errors (λ parts commits errors.
    subst (AreReadableAncestors objects may_fail c.args.ids.now parts.commits.items) (sym errors)
    (subst (λ l. AreReadableAncestors objects may_fail c.args.ids.now l (found_errors found)) (sym commits) (readable objects may_fail c.args.ids.now found c.in_ok-found.ensures)))
