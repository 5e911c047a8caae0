use Rattle.std.proofs.Common.{◌∙◌, Some, ap, subst, rules}
use Rattle.jj_stores.specs.JoinRows.{AreRemainingRows}
use Rattle.jj_stores.specs.JoinSteps.{row_of, YieldsRow}
use Rattle.jj_stores.specs.ViewJoins.{IsViewJoin}
use Rattle.jj_stores.proofs.SelectedRefs.{remotes_shown}
use Rattle.jj_stores_tests.proofs.TakenItems.{one_taken, all_taken}
use Rattle.jj_stores_tests.proofs.callers.joined_bookmarks.Goals as goal

pub loop-row-init : goal.loop-row-init
loop-row-init c =
    let begun = c.in_ok-row-items.row-items in
    let remotes = remotes_shown _ (λ view. view.bookmarks.entries) (λ f view refs next called. search rules)
    _ _ _ _ c.in_ok-row-items.ensures.remotes.1 in
    record {
      can = tt;
      ends = tt;
      join = λ rest left. rw c.new-rows.ensures.items
          (subst (λ r. IsViewJoin c.args.view.now.local_bookmarks.entries r rest) remotes
          (subst (λ l. IsViewJoin l begun.remotes rest) c.in_ok-row-items.ensures.locals
          (subst (λ j. AreRemainingRows j rest) c.into_iter-row-iterator.ensures.into_iter_gives left)));
    }

pub loop-row-preserved : goal.loop-row-preserved
loop-row-preserved c =
    let gave = subst (λ r. YieldsRow c.loop-row.row-iterator r c.next.new.self) (c.in-Some.is ∙ ap Some c.in_ok-row.was)
    c.next.ensures.steps in
    record {
      can = tt;
      ends = tt;
      join = one_taken row_of (IsViewJoin c.args.view.now.local_bookmarks.entries _) _ (AreRemainingRows c.loop-row.row-iterator) c.loop-row.invariant.join
          _ c.in_ok-row.field-0 (AreRemainingRows c.next.new.self) c.in_ok-push.ensures.items gave;
    }

pub returns : goal.returns
returns c =
    all_taken row_of (IsViewJoin c.args.view.now.local_bookmarks.entries _) _ (AreRemainingRows c.loop-row.row-iterator) c.loop-row.invariant.join
    (subst (λ r. YieldsRow c.loop-row.row-iterator r c.next.new.self) c.in-None.is c.next.ensures.steps).0
