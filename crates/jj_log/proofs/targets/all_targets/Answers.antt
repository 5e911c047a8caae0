use Rattle.std.proofs.Common.{arith, ◌≡◌, ◌+◌, ◌-◌, suc, length, drop, refl, subst}
use Rattle.std.specs.List.{Contains}
use Rattle.jj_log.specs.Targets.{KnowsTargets}
use Rattle.jj_log.proofs.NearTargets.{knows_all, knows_more, knows_none, parents_known}
use Rattle.jj_log.proofs.targets.all_targets.Goals as goal

pub add_targets-requires : goal.add_targets-requires
add_targets-requires c =
    let order = c.args.order.now in
    let i = length order - 1 - c.loop-index.index in
    let next : length order - c.loop-index.index ≡ suc i = omega arith in
    record {
      lists = c.loop-index.invariant.lists;
      parents = parents_known c.args.commits.now order c.requires c.loop-index.known.items i _ (omega arith) refl
          (subst (λ k. KnowsTargets c.args.commits.now c.loop-index.known.items (Contains (drop k order))) next c.loop-index.invariant.done);
    }

pub loop-index-preserved : goal.loop-index-preserved
loop-index-preserved c =
    let order = c.args.order.now in
    let i = length order - 1 - c.loop-index.index in
    let next : length order - c.loop-index.index ≡ suc i = omega arith in
    let here : i ≡ length order - (c.loop-index.index + 1) = omega arith in
    record {
      lists = c.in_ok-add_targets.ensures.lists;
      done = subst (λ k. KnowsTargets c.args.commits.now c.add_targets.new.known.items (Contains (drop k order))) here
          (knows_more c.args.commits.now order c.requires c.loop-index.known.items c.add_targets.new.known.items i _ (omega arith) refl c.in_ok-add_targets.ensures.others c.in_ok-add_targets.ensures.own
          (subst (λ k. KnowsTargets c.args.commits.now c.loop-index.known.items (Contains (drop k order))) next c.loop-index.invariant.done));
    }

pub loop-index-init : goal.loop-index-init
loop-index-init c = record {
  lists = c.in_ok-known.ensures;
  done = knows_none c.args.commits.now c.args.order.now c.requires c.in_ok-known.known.items (length c.args.order.now - 0) (omega arith);
}

pub returns : goal.returns
returns c =
    knows_all c.args.commits.now c.args.order.now c.requires c.loop-index.known.items _ (omega arith) c.loop-index.invariant.done
