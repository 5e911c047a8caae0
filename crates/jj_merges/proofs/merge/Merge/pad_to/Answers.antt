use Rattle.std.proofs.Common.{◌≡◌, ◌%◌, ap, arith, rules, length}
use Rattle.jj_merges.specs.Terms.{items}
use Rattle.jj_merges.proofs.DerivedCounts.{by_result, on_ok_both, padded_counts}
use Rattle.jj_merges.proofs.StorageLaws.{is_merge_storage, inline_has_one}
use Rattle.jj_merges.proofs.merge.Merge.pad_to.Goals as goal

pub returns-clause-counts : goal.returns-clause-counts
returns-clause-counts g c =
    let odd : length c.args.self.now % 2 ≡ 1 = omega (arith, c.num_sides.ensures.terms) in
    on_ok_both c.pad.result
    (λ appends long. padded_counts g.T.Clone.is_clone c.args.self.now (items c.pad.new.self) c.args.value.now odd (omega (arith, long)) (rw (← c.self.view_is) appends))
    c.pad.ensures.ok c.pad.ensures.len

pub pad-requires : goal.pad-requires
pad-requires g c = (
  search rules,
  (
    inline_has_one c.self.inside.terms c.self.invariant,
    omega (arith, ap length c.self.view_is, c.num_sides.ensures.terms, c.if-num_sides.false),
  ),
)

pub overflow_mul-num_sides : goal.overflow_mul-num_sides
overflow_mul-num_sides g c = omega (arith, c.requires)

pub invariant_of-self : goal.invariant_of-self
invariant_of-self g c =
    is_merge_storage c.pad.new.self c.pad.ensures.inline_has_one
    (by_result c.pad.result c.pad.ensures.len c.pad.ensures.err (λ long. omega (arith, long, c.num_sides.ensures.terms, c.if-num_sides.false))
    (λ same. omega (arith, ap length same, ap length c.self.view_is, c.num_sides.ensures.terms)))

pub returns-clause-terms : goal.returns-clause-terms
returns-clause-terms g c = rw (← c.self.view_is) c.pad.ensures.ok

pub returns-clause-len : goal.returns-clause-len
returns-clause-len g c =
    on_ok_both c.pad.result (λ long again. omega (arith, long, c.num_sides.ensures.terms, c.if-num_sides.false)) c.pad.ensures.len c.pad.ensures.len
