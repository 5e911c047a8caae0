use Rattle.std.proofs.Common.{◌++◌, ◌∙◌, map, ap, sym, subst}
use Rattle.std.specs.List.{AllZip}
use Rattle.jj_stores.specs.JoinRows.{ref_of}
use Rattle.jj_stores.specs.ViewJoins.{RemovesAt, remotes_with}
use Rattle.jj_stores.proofs.TakenRefs.{all_lost, losing_more, losing_none, refs_more, still_least}
use Rattle.jj_stores.proofs.op_store.remaining_remotes.RemainingRemotes.take_refs.Goals as goal

pub loop-found-init : goal.loop-found-init
loop-found-init c = record {
  least = c.requires;
  refs = ap (λ l. map ref_of l ++ remotes_with c.args.self.now c.args.name.now) c.new-refs.ensures.items;
  losing = losing_none c.args.name.now c.args.self.now;
}

pub loop-found-preserved : goal.loop-found-preserved
loop-found-preserved c =
    let name = c.args.name.now in
    let so_far = c.loop-found.invariant in
    let taken = c.in-Some.ensures in
    record {
      least = still_least name c.loop-found.self (ref_of c.in-Some.found) c.take_ref.new.self taken so_far.least;
      refs = ap (λ l. map ref_of l ++ remotes_with c.take_ref.new.self name) c.in_ok-push.ensures.items
          ∙ refs_more name ref_of c.loop-found.self c.in-Some.found c.take_ref.new.self _ c.loop-found.refs.items taken so_far.refs;
      losing = losing_more name c.args.self.now c.loop-found.self (ref_of c.in-Some.found) c.take_ref.new.self taken so_far.losing;
    }

pub returns-clause-left : goal.returns-clause-left
returns-clause-left c =
    let name = c.args.name.now in
    let ended = c.in_default.ensures in
    subst (AllZip (RemovesAt name) c.args.self.now) (sym ended.1)
    (all_lost name c.args.self.now c.loop-found.self ended.0 ended.2 c.loop-found.invariant.losing)
