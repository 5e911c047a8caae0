use Rattle.std.proofs.Common.{◌≡◌, ◌⊎◌, ◌∷◌, [], ℕ, List, true, inl}
use Rattle.std.proofs.lemmas.List.Elements.{Contains-append_left, Contains-push}
use Rattle.jj_stores.specs.OpStores.{IsReachable, IsReachableView, is_newer}
use Rattle.jj_stores.specs.OpStores.IsReachable.{head}
use Rattle.jj_stores_tests.specs.MemoryStores.{by_id}
use Rattle.jj_stores_tests.proofs.Sweeping.{gc_deletes, gc_keeps, kept_stays}
use Rattle.jj_stores_tests.proofs.memory_op_store.MemoryOpStoreOpStore.gc.Goals as goal

pub invariant_of-self-2 : goal.invariant_of-self-2
invariant_of-self-2 c =
    let store = c.args.self.now in
    let operations = by_id store.operations.entries in
    let heads : List (List ℕ) = store.root_operation_id ∷ c.args.head_ids.now in
    let times = by_id store.operation_times.entries in
    let keeps = gc_keeps c.in_ok-marked.marked.operations times c.args.keep_newer (IsReachable operations) heads c.in_ok-start.start.items c.in_ok-operations.operations.items c.deref.result.now
    operations (by_id c.remove_all.new.objects.entries) c.in_ok-start.ensures c.in_ok-marked.ensures.operations c.in_ok-operations.ensures c.deref.ensures.value c.remove_all.ensures.removed c.remove_all.ensures.others in
    record {
      has_root = kept_stays (λ id. IsReachable operations heads id ⊎ (is_newer times c.args.keep_newer id ≡ true)) operations (by_id c.remove_all.new.objects.entries) store.root_operation_id keeps
          (inl (head (Contains-append_left (store.root_operation_id ∷ []) c.args.head_ids.now store.root_operation_id (Contains-push [] store.root_operation_id)))) store.has_root;
    }

pub returns-clause-kept_operations : goal.returns-clause-kept_operations
returns-clause-kept_operations c =
    let store = c.args.self.now in
    let operations = by_id store.operations.entries in
    gc_keeps c.in_ok-marked.marked.operations (by_id store.operation_times.entries) c.args.keep_newer (IsReachable operations) (store.root_operation_id ∷ c.args.head_ids.now) c.in_ok-start.start.items c.in_ok-operations.operations.items c.deref.result.now
    (by_id store.operations.entries) (by_id c.remove_all.new.objects.entries) c.in_ok-start.ensures c.in_ok-marked.ensures.operations c.in_ok-operations.ensures c.deref.ensures.value c.remove_all.ensures.removed c.remove_all.ensures.others

pub returns-clause-kept_views : goal.returns-clause-kept_views
returns-clause-kept_views c =
    let store = c.args.self.now in
    let operations = by_id store.operations.entries in
    gc_keeps c.in_ok-marked.marked.views (by_id store.view_times.entries) c.args.keep_newer (IsReachableView operations) (store.root_operation_id ∷ c.args.head_ids.now) c.in_ok-start.start.items c.in_ok-views.views.items c.deref-2.result.now
    (by_id store.views.entries) (by_id c.remove_all-2.new.objects.entries) c.in_ok-start.ensures (λ id some. c.in_ok-marked.ensures.views id) c.in_ok-views.ensures c.deref-2.ensures.value c.remove_all-2.ensures.removed c.remove_all-2.ensures.others

pub returns-clause-only_operations : goal.returns-clause-only_operations
returns-clause-only_operations c =
    let store = c.args.self.now in
    let operations = by_id store.operations.entries in
    gc_deletes c.in_ok-marked.marked.operations (by_id store.operation_times.entries) c.args.keep_newer (IsReachable operations) (store.root_operation_id ∷ c.args.head_ids.now) c.in_ok-start.start.items c.in_ok-operations.operations.items c.deref.result.now
    (by_id store.operations.entries) (by_id c.remove_all.new.objects.entries) c.in_ok-start.ensures c.in_ok-marked.ensures.operations c.in_ok-operations.ensures c.deref.ensures.value c.remove_all.ensures.removed c.remove_all.ensures.others

pub returns-clause-only_views : goal.returns-clause-only_views
returns-clause-only_views c =
    let store = c.args.self.now in
    let operations = by_id store.operations.entries in
    gc_deletes c.in_ok-marked.marked.views (by_id store.view_times.entries) c.args.keep_newer (IsReachableView operations) (store.root_operation_id ∷ c.args.head_ids.now) c.in_ok-start.start.items c.in_ok-views.views.items c.deref-2.result.now
    (by_id store.views.entries) (by_id c.remove_all-2.new.objects.entries) c.in_ok-start.ensures (λ id some. c.in_ok-marked.ensures.views id) c.in_ok-views.ensures c.deref-2.ensures.value c.remove_all-2.ensures.removed c.remove_all-2.ensures.others
