use Rattle.std.proofs.Common.{◌+◌, List, [], ap, arith, get_or, subst, take}
use Rattle.std.specs.Prelude.{IfSome}
use Rattle.std.proofs.lemmas.List.{length-set, length-take-le}
use Rattle.jj_program.specs.Lines.{Text}
use Rattle.jj_program.specs.MergeViews.{text_eq}
use Rattle.jj_program.specs.ValueCounts.{AreCountsOf, IsValueAt}
use Rattle.jj_program.specs.declared.merge_counts.ValueCount.{ValueCount}
use Rattle.jj_program.proofs.CountedValues.{counts_more, counts_within, none_more}
use Rattle.jj_program.proofs.SideCounts.{adds_even, adds_odd, removes_even, removes_odd}
use Rattle.jj_program.proofs.merge_counts.count_values.Goals as goal
use Rattle.jj_program.proofs.merge_counts.count_values.Goals.{then-index-eq0, else-index-eq0}

-- the default value out of range
abbrev no_text : Text
no_text = record { ref_ptr = (0, 0); now = [] }

pub overflow_add-found : goal.overflow_add-found
overflow_add-found c =
    let terms = take c.loop-index.index c.args.terms.now in
    let counts = c.index_of.new.counts.items in
    let here = subst (λ found. IfSome found (IsValueAt counts (get_or c.args.terms.now c.loop-index.index no_text).now)) c.in-Some.is c.in_ok-at.ensures.at in
    let same = subst (λ found. IfSome found (λ at. (terms : List Text) → AreCountsOf terms c.loop-index.counts.items → AreCountsOf terms counts)) c.in-Some.is c.in_ok-at.ensures.same in
    let all = same terms c.loop-index.invariant.counts in
    let bound = counts_within terms counts c.in-Some.at c.index-found.result.now here.0 all in
    let found = ap (λ (count : ValueCount). count.adds) c.index-found.ensures in
    let size = length-take-le c.loop-index.index c.args.terms.now (omega arith) in
    omega (arith, bound.0, found, size)

pub overflow_add-found-else-index-eq0 : goal.overflow_add-found-else-index-eq0
overflow_add-found-else-index-eq0 c =
    let terms = take c.loop-index.index c.args.terms.now in
    let counts = c.index_of.new.counts.items in
    let here = subst (λ found. IfSome found (IsValueAt counts (get_or c.args.terms.now c.loop-index.index no_text).now)) c.in-Some.is c.in_ok-at.ensures.at in
    let same = subst (λ found. IfSome found (λ at. (terms : List Text) → AreCountsOf terms c.loop-index.counts.items → AreCountsOf terms counts)) c.in-Some.is c.in_ok-at.ensures.same in
    let all = same terms c.loop-index.invariant.counts in
    let bound = counts_within terms counts c.in-Some.at c.index-found.result.now here.0 all in
    let found = ap (λ (count : ValueCount). count.removes) c.index-found.ensures in
    let size = length-take-le c.loop-index.index c.args.terms.now (omega arith) in
    omega (arith, bound.1, found, size)

pub loop-index-preserved : goal.loop-index-preserved
loop-index-preserved c =
    let xs = c.args.terms.now in
    let i = c.loop-index.index in
    let counts = c.index_of.new.counts.items in
    let e = c.index-found.result.now in
    let x = get_or xs i no_text in
    let here = subst (λ found. IfSome found (IsValueAt counts x.now)) c.in-Some.is c.in_ok-at.ensures.at in
    let same = subst (λ found. IfSome found (λ at. (terms : List Text) → AreCountsOf terms c.loop-index.counts.items → AreCountsOf terms counts)) c.in-Some.is c.in_ok-at.ensures.same in
    let all = same (take i xs) c.loop-index.invariant.counts in
    let text = ap (λ (count : ValueCount). count.text) c.index-found.ensures in
    let added = ap (λ (count : ValueCount). count.adds) c.index-found.ensures in
    let removed = ap (λ (count : ValueCount). count.removes) c.index-found.ensures in
    let size = length-set c.loop-index.hints c.hint_of-hint.result c.in-Some.at in
    elim c.if-index-eq0.branch [
      | then-index-eq0 w ↦
          rw w.counts-is (record {
            counts = counts_more (take i xs) (take (i + 1) xs) counts x c.in-Some.at
                (record { text = e.text; adds = e.adds + 1; removes = e.removes }) e 1 0 here all text
                (omega (arith, added)) (omega (arith, removed))
                (λ v. adds_even v xs i no_text c.loop-index-test.true (omega arith))
                (λ v. omega (arith, removes_even v xs i no_text c.loop-index-test.true (omega arith), none_more (text_eq v x)));
            hints = omega (arith, size, c.loop-index.invariant.hints);
            within = omega arith;
          })
      | else-index-eq0 w ↦
          rw w.counts-is (record {
            counts = counts_more (take i xs) (take (i + 1) xs) counts x c.in-Some.at
                (record { text = e.text; adds = e.adds; removes = e.removes + 1 }) e 0 1 here all text
                (omega (arith, added)) (omega (arith, removed))
                (λ v. omega (arith, adds_odd v xs i no_text c.loop-index-test.true (omega arith), none_more (text_eq v x)))
                (λ v. removes_odd v xs i no_text c.loop-index-test.true (omega arith));
            hints = omega (arith, size, c.loop-index.invariant.hints);
            within = omega arith;
          })
    ]
