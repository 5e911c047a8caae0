use Rattle.std.proofs.Common.{◌≡◌, ◌∙◌, ◌<◌, length, map, take, Some, refl, ap, sym, subst, arith}
use Rattle.std.specs.BinaryHeap.{heap_items}
use Rattle.std.specs.Option.{option_copied, option_map}
use Rattle.std.proofs.lemmas.List.{take_all}
use Rattle.std.proofs.lemmas.List.Elements.{All-nil}
use Rattle.jj_stores.specs.FirstNameHeap.{name_and_index, AreFirstNames}
use Rattle.jj_stores.specs.ViewJoins.{IsAscending}
use Rattle.jj_stores.proofs.FirstNameHeap.{firsts_so_far, pushed, not_pushed}
use Rattle.jj_stores.proofs.op_store.remaining_remotes.RemainingRemotes.new.Goals.{in-Some+in_ok-push, in_default}
use Rattle.jj_stores.proofs.op_store.remaining_remotes.RemainingRemotes.new.Goals as goal

pub loop-remote_index-preserved : goal.loop-remote_index-preserved
loop-remote_index-preserved c =
    let remotes = c.args.remotes.items in
    let remote_index = c.loop-remote_index.remote_index in
    let remote = c.index.result.now in
    let below : remote_index < length remotes = omega (arith, c.loop-remote_index-test.true, c.len-remote_index-end.ensures, c.args.remotes.ok) in
    let first = c.first_name.ensures.first in
    let so_far = c.loop-remote_index.invariant in
    elim c.match-first_name.branch [
      | in-Some+in_ok-push w ↦ rw w.firsts-is (record {
        firsts = firsts_so_far remotes remote_index remote _ _ below c.index.ensures so_far.firsts c.first_name.ensures.ascending
            (pushed name_and_index _ _ _ w.in_ok-push.ensures.permutation _
            (ap (λ n. Some (n, remote_index)) w.as_name.ensures ∙ ap (option_map (λ n. (n, remote_index))) (sym (ap option_copied w.in-Some.is) ∙ first)));
        heap = w.in_ok-push.ensures.heap_order so_far.heap;
      })
      | in_default w ↦ rw w.firsts-is (record {
        firsts = firsts_so_far remotes remote_index remote _ _ below c.index.ensures so_far.firsts c.first_name.ensures.ascending
            (not_pushed _ (ap (option_map (λ n. (n, remote_index))) (sym (ap option_copied w.in_default.is) ∙ first)) (map name_and_index (heap_items c.loop-remote_index.firsts)));
        heap = so_far.heap;
      })
    ]

pub loop-remote_index-init : goal.loop-remote_index-init
loop-remote_index-init c = record {
  firsts = rw c.in_ok-firsts.ensures.items (record { same = λ count. refl; ascending = All-nil (λ r. IsAscending r.1) });
  heap = c.in_ok-firsts.ensures.heap_order;
}

pub invariant_of-result : goal.invariant_of-result
invariant_of-result c =
    let whole : take c.loop-remote_index.remote_index c.args.remotes.items ≡ c.args.remotes.items = take_all _ _ (omega (arith, c.loop-remote_index-test.false, c.loop-remote_index.auto.remote_index-end, c.len-remote_index-end.ensures, c.args.remotes.ok)) in
    (subst (λ v. AreFirstNames v (map name_and_index (heap_items c.loop-remote_index.firsts))) whole c.loop-remote_index.invariant.firsts, c.loop-remote_index.invariant.heap)
