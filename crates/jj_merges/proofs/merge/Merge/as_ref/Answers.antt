use Rattle.std.proofs.Common.{◌∙◌, ap, arith, rules, length}
use Rattle.std.proofs.lemmas.List.{length-map, take_all}
use Rattle.jj_merges.specs.Terms.{items}
use Rattle.jj_merges.proofs.CallLaws.{map-taken}
use Rattle.jj_merges.proofs.StorageLaws.{is_merge_storage}
use Rattle.jj_merges.proofs.merge.Merge.as_ref.Goals as goal

pub loop-term-init : goal.loop-term-init
loop-term-init g c = (c.in_ok-terms.ensures.1, rw c.in_ok-terms.ensures.0)

pub push-requires : goal.push-requires
push-requires g c = (search rules, c.loop-term.invariant.0)

pub loop-term-preserved : goal.loop-term-preserved
loop-term-preserved g c = (
  c.in_ok-push.ensures.inline_has_one,
  map-taken (λ x. x.now) (items c.loop-term.terms) (items c.push.new.self) _ c.as_slice-values.result.now c.loop-term.term-index c.loop-term-test.true c.term-item.is
      c.in_ok-push.ensures.ok c.loop-term.invariant.1,
)

pub returns : goal.returns
returns g c =
    c.loop-term.invariant.1 ∙ (take_all c.loop-term.term-index c.as_slice-values.result.now c.loop-term-test.false ∙ c.as_slice-values.ensures.terms)

pub invariant_of-result : goal.invariant_of-result
invariant_of-result g c =
    is_merge_storage c.loop-term.terms c.loop-term.invariant.0
    (omega (arith, ap length (returns g c), length-map (items c.loop-term.terms) (λ x. x.now), c.as_slice-values.ensures.odd))
