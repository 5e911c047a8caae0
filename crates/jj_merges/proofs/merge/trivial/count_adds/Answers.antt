use Rattle.std.proofs.Common.{◌<◌, length, arith, sym, ◌∙◌}
use Rattle.jj_merges.proofs.AddCounts.{weight-true, weight-false, count-adds-even, count-adds-odd}
use Rattle.jj_merges.proofs.merge.trivial.count_adds.Goals as goal
use Rattle.jj_merges.proofs.merge.trivial.count_adds.Goals.{then-index-eq0+then-eq, else-index-eq0, else-index-eq0-via-then-index-eq0+else-eq, else-index-eq0-via-else-index-eq0}

pub loop-index-preserved : goal.loop-index-preserved
loop-index-preserved g c =
    let p = g.T.PartialEq.eq c.args.value.now in
    let xs = c.args.values.now in
    let i = c.loop-index.index in
    let x = c.index-values-index.result in
    let hi : i < length xs = c.loop-index-test.true in
    elim c.if-index-eq0.branch [
      | then-index-eq0+then-eq w ↦
          let e = count-adds-even p xs i x hi c.index-values-index.is (omega arith) in
          let one = weight-true p x (sym w.eq.ensures ∙ w.if-eq.true) in
          (omega (arith, e, one, c.loop-index.invariant.0), omega (arith, c.loop-index.invariant.1))
      | else-index-eq0 w ↦
          elim w.else-index-eq0.branch [
            | else-index-eq0-via-then-index-eq0+else-eq u ↦
                let e = count-adds-even p xs i x hi c.index-values-index.is (omega arith) in
                let none = weight-false p x (sym u.eq.ensures ∙ u.if-eq.false) in
                (omega (arith, e, none, c.loop-index.invariant.0), omega (arith, c.loop-index.invariant.1))
            | else-index-eq0-via-else-index-eq0 u ↦
                let e = count-adds-odd p xs i x hi c.index-values-index.is (omega arith) in
                (omega (arith, e, c.loop-index.invariant.0), omega (arith, c.loop-index.invariant.1))
          ]
    ]
