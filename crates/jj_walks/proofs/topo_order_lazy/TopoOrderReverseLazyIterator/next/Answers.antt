use Rattle.std.proofs.Common.{◌≡◌, ◌+◌, ◌-◌, ◌^◌, ◌∙◌, sym, ap, arith, true≢false}
use Rattle.std.specs.HashSet.{hash_set_len}
use Rattle.jj_walks.specs.declared.topo_order_lazy.TopoOrderReverseLazy.{TopoOrderReverseLazy}
use Rattle.jj_walks.specs.GroupedSteps.{as_item}
use Rattle.jj_walks.proofs.GoingOn.{goes_on, progress}
use Rattle.jj_walks.proofs.topo_order_lazy.TopoOrderReverseLazyIterator.next.Goals as goal

pub returns-clause-steps : goal.returns-clause-steps
returns-clause-steps g c = record {
  yields = λ _. rw c.item_or_end.ensures.item c.next_node.ensures.yields;
  failed = λ _ error fails. c.item_or_end.ensures.item ∙ ap as_item (c.next_node.ensures.failed error fails);
  again = λ on. goes_on _ c.next_node.result c.item_or_end.result c.item_or_end.new.has_ended c.item_or_end.ensures.item c.item_or_end.ensures.end on c.next_node.ensures.can_go;
  ends = c.item_or_end.ensures.end;
  ended = λ e. absurd (true≢false (sym e ∙ c.if-self.false));
}

pub returns-clause-goes : goal.returns-clause-goes
returns-clause-goes g c =
    progress (λ (s : TopoOrderReverseLazy g.row.T.Denot g.row.ID.Denot g.row.E.Denot g.row.F.Denot g.row.N.Denot g.row.C.Denot). s.has_ended) _ (λ s. 1 + (2 ^ 63 - hash_set_len s.order.emitted)) c.args.self.now _
    (hash_set_len c.next_node.new.self.emitted ≡ hash_set_len c.args.self.now.order.emitted + 1) c.next_node.result c.item_or_end.result
    c.if-self.false (omega arith) (λ h. (let small = c.next_node.ensures.small in omega arith)) c.item_or_end.ensures.item c.item_or_end.ensures.end c.next_node.ensures.can_go c.next_node.ensures.count
