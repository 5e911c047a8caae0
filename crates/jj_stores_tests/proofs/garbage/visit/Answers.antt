use Rattle.std.proofs.Common.{◌∙◌, ◌++◌, inl, inr, refl, ap, sym, subst}
use Rattle.jj_stores_tests.specs.MemoryStores.{Adds, has_id}
use Rattle.jj_stores_tests.proofs.IdMaps.{by_id-get}
use Rattle.jj_stores_tests.proofs.Marking.{adds_id, was_fresh}
use Rattle.jj_stores_tests.proofs.garbage.visit.Goals as goal

pub returns-in-None : goal.returns-in-None
returns-in-None c = inl (inr (by_id-get c.args.operations.now c.args.id ∙ sym c.in-None.ensures.value), refl, λ q. refl, λ q. refl)

pub returns-in_ok-push_all-in-Some : goal.returns-in_ok-push_all-in-Some
returns-in_ok-push_all-in-Some c =
    let marked = c.args.marked.now in
    inr (
      c.in-Some.operation.now,
      by_id-get c.args.operations.now c.args.id ∙ sym c.in-Some.ensures.value,
      was_fresh c.in_ok-insert-in-Some.field-0 (has_id marked.operations c.args.id) c.in_ok-insert-in-Some.ensures.added c.if-not-branch.false,
      c.in_ok-push_all-in-Some.ensures ∙ ap (λ l. c.args.pending.now.items ++ l) c.deref.ensures.value,
      adds_id marked.operations c.insert.new.self c.args.id c.in_ok-insert-in-Some.ensures.updates,
      subst (Adds (has_id marked.views) (has_id c.insert-in-Some.new.self)) c.in_ok-view_id-in-Some.ensures.cases
          (adds_id marked.views c.insert-in-Some.new.self c.in_ok-view_id-in-Some.view_id c.in_ok-insert-in-Some-2.ensures.updates),
    )
