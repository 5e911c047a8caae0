use Rattle.std.proofs.Common.{◌∙◌, ◌≤◌, ℕ, Bool, true, false, [], ap, arith, cond, get_or}
use Rattle.std.specs.Prelude.{count_by}
use Rattle.std.proofs.lemmas.List.{take_all}
use Rattle.jj_merges.specs.Merge as merge
use Rattle.jj_program.specs.Lines.{Text}
use Rattle.jj_program.specs.MergeViews.{text_eq}
use Rattle.jj_program.proofs.SideCounts.{adds_even, adds_odd, removes_even, removes_odd}
use Rattle.jj_program.proofs.merge_outcome.count_of.Goals as goal
use Rattle.jj_program.proofs.merge_outcome.count_of.Goals.{then-index-eq0, else-index-eq0}

-- the default value out of range
abbrev no_text : Text
no_text = record { ref_ptr = (0, 0); now = [] }

at_most_one : (b : Bool) → let n : ℕ = cond b 1 0 in n ≤ 1
at_most_one true = omega arith
at_most_one false = omega arith

pub loop-index-preserved : goal.loop-index-preserved
loop-index-preserved c =
    let v = c.args.value in
    let xs = c.args.terms.now in
    let i = c.loop-index.index in
    let x = get_or xs i no_text in
    let equal = c.one_if_equal-equal.ensures in
    elim c.if-index-eq0.branch [
      | then-index-eq0 w ↦
          record {
            adds = omega (arith, w.adds-is, equal, c.loop-index.invariant.adds, adds_even v xs i no_text c.loop-index-test.true (omega arith));
            removes = omega (arith, w.removes-is, c.loop-index.invariant.removes, removes_even v xs i no_text c.loop-index-test.true (omega arith));
            few_adds = omega (arith, w.adds-is, equal, at_most_one (text_eq v x), c.loop-index.invariant.few_adds);
            few_removes = omega (arith, w.removes-is, c.loop-index.invariant.few_removes);
            within = omega arith;
          }
      | else-index-eq0 w ↦
          record {
            adds = omega (arith, w.adds-is, c.loop-index.invariant.adds, adds_odd v xs i no_text c.loop-index-test.true (omega arith));
            removes = omega (arith, w.removes-is, equal, c.loop-index.invariant.removes, removes_odd v xs i no_text c.loop-index-test.true (omega arith));
            few_adds = omega (arith, w.adds-is, c.loop-index.invariant.few_adds);
            few_removes = omega (arith, w.removes-is, equal, at_most_one (text_eq v x), c.loop-index.invariant.few_removes);
            within = omega arith;
          }
    ]

pub returns-clause-adds : goal.returns-clause-adds
returns-clause-adds c =
    c.loop-index.invariant.adds ∙ ap (λ xs. count_by (text_eq c.args.value) (merge.adds xs)) (take_all c.loop-index.index c.args.terms.now (omega arith))

pub returns-clause-removes : goal.returns-clause-removes
returns-clause-removes c =
    c.loop-index.invariant.removes ∙ ap (λ xs. count_by (text_eq c.args.value) (merge.removes xs)) (take_all c.loop-index.index c.args.terms.now (omega arith))
