use Rattle.std.proofs.Common.{◌∙◌, ◌∷◌, ◌++◌, [], ◌+◌, take, ap, sym, subst}
use Rattle.std.proofs.lemmas.List.{take_more}
use Rattle.jj_stores_tests.specs.MemoryStores.{by_id}
use Rattle.jj_stores_tests.proofs.Sweeping.{Removed, by_id-remove, removed_more}
use Rattle.jj_stores_tests.proofs.garbage.remove_all.Goals as goal

pub loop-id-preserved : goal.loop-id-preserved
loop-id-preserved g c =
    let x = c.id-item.result in
    let ids = c.args.ids.now in
    let old = by_id c.args.objects.now.entries in
    let now = by_id c.remove.new.self.entries in
    subst (λ l. Removed l old now) (ap (λ y. take c.loop-id.id-index ids ++ y ∷ []) c.id-item.is ∙ sym (take_more ids c.loop-id.id-index x c.loop-id-test.true))
    (removed_more (take c.loop-id.id-index ids) x old (by_id c.loop-id.objects.entries) now (by_id-remove c.loop-id.objects c.remove.new.self x c.remove.ensures.updates) c.loop-id.invariant)
