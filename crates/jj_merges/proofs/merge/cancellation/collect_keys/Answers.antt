use Rattle.std.proofs.Common.{take, rules, of_calls}
use Rattle.std.specs.Fn.{CalledAt}
use Rattle.std.proofs.lemmas.List.{take_more}
use Rattle.jj_merges.proofs.CallLaws.{CallsReturn-push}
use Rattle.jj_merges.proofs.merge.cancellation.collect_keys.Goals as goal

pub loop-value-preserved : goal.loop-value-preserved
loop-value-preserved g c =
    let xs = c.args.values.now in
    let i = c.loop-value.value-index in
    let m = c.f.ensures.met in
    let before = c.loop-value.invariant.0 in (
      search (of_calls, before),
      rw (take_more xs i c.value-item.result c.loop-value-test.true, c.in_ok-push.ensures.items, ← c.value-item.is)
          (CallsReturn-push (CalledAt g.F.FnMut) c.args.f (take i xs) c.loop-value.keys.items c.loop-value.f c.value-item.result c.f.result c.f.new.self c.loop-value.invariant.1 (search (rules, m))),
    )
