use Rattle.std.proofs.Common.{take}
use Rattle.std.proofs.lemmas.List.{take_more}
use Rattle.std.proofs.lemmas.List.Elements.{AllZip-push}
use Rattle.jj_merges.specs.Terms.{items}
use Rattle.jj_merges.proofs.merge.storage.Terms.from_slice.Goals as goal

pub loop-value-preserved : goal.loop-value-preserved
loop-value-preserved g c =
    let xs = c.args.values.now in
    let i = c.loop-value.value-index in
    let clone = c.in_ok-push_clone.ensures.ok in (
      c.in_ok-push_clone.ensures.inline_has_one,
      rw (take_more xs i c.value-item.result c.loop-value-test.true, clone.2, ← c.value-item.is)
          (AllZip-push g.T.Clone.is_clone (take i xs) (items c.loop-value.terms) c.value-item.result clone.0 c.loop-value.invariant.1 clone.1),
    )
