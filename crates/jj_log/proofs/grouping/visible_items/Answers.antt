use Rattle.std.proofs.Common.{◌+◌, take, get_or, subst}
use Rattle.std.proofs.lemmas.List.{take_all, take_more}
use Rattle.jj_log.specs.LogItems.{AreVisibleItems}
use Rattle.jj_log.proofs.VisibleItems.{more_items, no_items}
use Rattle.jj_log.proofs.grouping.visible_items.Goals as goal

pub loop-number-init : goal.loop-number-init
loop-number-init c = no_items c.args.commits.now c.new-items.result.items c.new-items.ensures.items

pub loop-number-preserved : goal.loop-number-preserved
loop-number-preserved c =
    let order = c.args.order.now in
    let i = c.loop-number.number-index in
    more_items c.args.commits.now (take (i + 1) order) (take i order) (get_or order i 0) c.loop-number.items.items c.push_visible.new.items.items (take_more order i 0 c.loop-number-test.true) c.loop-number.invariant c.in_ok-push_visible.ensures

pub returns : goal.returns
returns c =
    subst (λ l. AreVisibleItems c.args.commits.now l c.loop-number.items.items) (take_all c.loop-number.number-index c.args.order.now c.loop-number-test.false) c.loop-number.invariant
