use Rattle.std.proofs.Common.{rules, ◌≡◌, Err, [], ◌∷◌, ◌++◌, map, refl, sym, ap, ◌∙◌}
use Rattle.std.proofs.lemmas.List.{map-append}
use Rattle.jj_walks.proofs.DfsOkRuns.{IsRun-from_drains, as_walk_item}
use Rattle.jj_walks.proofs.walk_items.collect_dfs_ok.Goals as goal
use Rattle.jj_walks.proofs.walk_items.collect_dfs_ok.Goals.{in-Ok, in-Err-Node}

pub loop-item-init : goal.loop-item-init
loop-item-init g c =
    let source : c.into_iter-item-iterator.result ≡ c.in_ok-walk.walk = c.into_iter-item-iterator.ensures.into_iter_gives in
    record { can = rw source c.in_ok-walk.ensures.can_walk; finite = search rules; collected = rw c.new-items.ensures.items refl }

pub loop-item-preserved : goal.loop-item-preserved
loop-item-preserved g c =
    let before = c.loop-item.items.items in
    let shown : c.in-Some.item ≡ as_walk_item c.match-item.found =
    elim c.match-item.branch [ in-Ok w ↦ w.in-Ok.is ∙ sym (ap as_walk_item w.found-is) | in-Err-Node w ↦ w.in-Err-Node.is ∙ ap (λ e. Err e) w.in-Err-Node.field-0-is ∙ sym (ap as_walk_item w.found-is) ] in
    record {
      can = c.in-Some.ensures.steps.again;
      finite = search rules;
      collected = ap (λ l. l ++ c.in-Some.item ∷ []) c.loop-item.invariant.collected ∙ ap (λ y. map as_walk_item before ++ y ∷ []) shown
          ∙ sym (map-append as_walk_item before (c.match-item.found ∷ [])) ∙ sym (ap (λ l. map as_walk_item l) c.in_ok-push.ensures.items);
    }

pub returns : goal.returns
returns g c =
    let k = c.in_ok-walk.ensures.walk in
    let source : c.into_iter-item-iterator.result ≡ c.in_ok-walk.walk = c.into_iter-item-iterator.ensures.into_iter_gives in
    let run = rw (source, c.loop-item.invariant.collected) at c.loop-item.yielded_by in (
      k.starts,
      k.yielded,
      IsRun-from_drains g.F.Fn g.N.FnMut g.ID.PartialEq.eq g.NI.IntoIterator.into_iter_gives g.NI.IntoIter.Iterator.next_gives g.NI.IntoIter.Iterator.can_next g.NI.IntoIter.Iterator.remaining
          c.args.id_fn c.args.neighbors_fn k.starts c.loop-item.items.items [] c.in_ok-walk.walk k.whole (c.next.new.self, (c.loop-item.item-iterator, run, c.in-None.ensures.steps)),
    )
