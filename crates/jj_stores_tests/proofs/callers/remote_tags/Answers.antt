use Rattle.std.proofs.Common.{subst, rules}
use Rattle.jj_stores.specs.FlatRefs.{IsFlattened, YieldsRef, symbol_ref_of}
use Rattle.jj_stores.proofs.SelectedRefs.{remotes_shown}
use Rattle.jj_stores_tests.proofs.TakenItems.{one_taken, all_taken}
use Rattle.jj_stores_tests.proofs.callers.remote_tags.Goals as goal

pub loop-tag-init : goal.loop-tag-init
loop-tag-init c =
    let remotes = remotes_shown _ (λ view. view.tags.entries) (λ f view refs next called. search rules)
    _ _ _ _ c.in_ok-tag-items.ensures.1 in
    record {
      can = tt;
      ends = tt;
      all = λ rest left. rw c.new-tags.ensures.items
          (subst (λ r. IsFlattened r rest) remotes
          (subst (λ j. IsFlattened j rest) c.into_iter-tag-iterator.ensures.into_iter_gives left));
    }

pub loop-tag-preserved : goal.loop-tag-preserved
loop-tag-preserved c = record {
  can = tt;
  ends = tt;
  all = one_taken symbol_ref_of (IsFlattened _) _ (IsFlattened c.loop-tag.tag-iterator) c.loop-tag.invariant.all _ c.in-Some.tag (IsFlattened c.next.new.self) c.in_ok-push.ensures.items
      (subst (λ r. YieldsRef c.loop-tag.tag-iterator r c.next.new.self) c.in-Some.is c.next.ensures.steps);
}

pub returns : goal.returns
returns c =
    all_taken symbol_ref_of (IsFlattened _) _ (IsFlattened c.loop-tag.tag-iterator) c.loop-tag.invariant.all
    (subst (λ r. YieldsRef c.loop-tag.tag-iterator r c.next.new.self) c.in-None.is c.next.ensures.steps).0
