use Rattle.std.proofs.Common.{◌∙◌, ◌+◌, [], arith, sym}
use Rattle.jj_merges.proofs.ResolutionScan.{is_keep, is_not_keep}
use Rattle.jj_program.specs.Lines.{Text}
use Rattle.jj_program.proofs.SortedSides.{both_more, left_more, none_or, sides_swap}
use Rattle.jj_program.proofs.SideDecisions.{conflict_added, conflict_kept, conflict_removed, decided_at_end}
use Rattle.jj_program.proofs.merge_outcome.outcome_of_sides.Goals as goal
use Rattle.jj_program.proofs.merge_outcome.outcome_of_sides.Goals.{then-eq-via-then-eq, then-eq-via-else-eq+then-is_other-2}

-- the default value out of range
abbrev no_text : Text
no_text = record { ref_ptr = (0, 0); now = [] }

pub returns-then-is_other : goal.returns-then-is_other
returns-then-is_other c =
    let (m, n, sides) = c.loop-i.invariant.sides in
    conflict_added c.args.same_change c.args.adds.now c.args.removes.now c.loop-i.i c.loop-i.j m n
    c.loop-i.added c.loop-i.removed no_text (c.compare_heads.ensures.less c.in-Less.is) sides
    (sym c.is_other.ensures ∙ c.if-is_other.true)

pub loop-i-preserved-in-Less : goal.loop-i-preserved-in-Less
loop-i-preserved-in-Less c =
    let (m, n, sides) = c.loop-i.invariant.sides in
    let alone = c.compare_heads.ensures.less c.in-Less.is in
    record {
      sides = (
        m + 1,
        n,
        left_more c.args.adds.now c.loop-i.i c.loop-i.added m c.args.removes.now c.loop-i.j
            c.loop-i.removed n no_text alone (none_or c.loop-i.added _ (sym c.is_other.ensures ∙ c.if-is_other.false)) sides,
      );
      keep = c.loop-i.invariant.keep;
      adds = omega (arith, alone.0);
      removes = c.loop-i.invariant.removes;
    }

pub loop-i-preserved-in-Equal : goal.loop-i-preserved-in-Equal
loop-i-preserved-in-Equal c =
    let (m, n, sides) = c.loop-i.invariant.sides in
    let matched = c.compare_heads.ensures.equal c.in-Equal.is in
    record {
      sides = (
        m,
        n,
        both_more c.args.adds.now c.loop-i.i c.loop-i.added m c.args.removes.now c.loop-i.j
            c.loop-i.removed n no_text matched sides,
      );
      keep = c.loop-i.invariant.keep;
      adds = omega (arith, matched.0);
      removes = omega (arith, matched.1);
    }

pub returns-then-eq : goal.returns-then-eq
returns-then-eq c =
    let (m, n, sides) = c.loop-i.invariant.sides in
    let alone = c.compare_heads.ensures.greater c.in-Greater.is in
    elim c.then-eq.branch [
      | then-eq-via-then-eq w ↦
          conflict_kept c.args.same_change c.args.adds.now c.args.removes.now c.loop-i.i c.loop-i.j m n
          c.loop-i.added c.loop-i.removed no_text (is_keep c.args.same_change (sym c.eq.ensures ∙ w.if-eq.true)) alone sides
      | then-eq-via-else-eq+then-is_other-2 w ↦
          conflict_removed c.args.same_change c.args.adds.now c.args.removes.now c.loop-i.i c.loop-i.j m n
          c.loop-i.added c.loop-i.removed no_text alone sides (sym w.is_other-else-eq.ensures ∙ w.if-is_other-2.true)
    ]

pub loop-i-preserved : goal.loop-i-preserved
loop-i-preserved c =
    let (m, n, sides) = c.loop-i.invariant.sides in
    let alone = c.compare_heads.ensures.greater c.in-Greater.is in
    record {
      sides = (
        m,
        n + 1,
        sides_swap c.args.removes.now (c.loop-i.j + 1) _ (n + 1) c.args.adds.now c.loop-i.i c.loop-i.added m
            (left_more c.args.removes.now c.loop-i.j c.loop-i.removed n c.args.adds.now c.loop-i.i
            c.loop-i.added m no_text alone (none_or c.loop-i.removed _ (sym c.is_other-else-eq.ensures ∙ c.if-is_other-2.false))
            (sides_swap c.args.adds.now c.loop-i.i c.loop-i.added m c.args.removes.now c.loop-i.j c.loop-i.removed n sides)),
      );
      keep = λ keep. absurd (is_not_keep c.args.same_change (sym c.eq.ensures ∙ c.if-eq.false) keep);
      adds = c.loop-i.invariant.adds;
      removes = omega (arith, alone.0);
    }

pub returns : goal.returns
returns c =
    let (m, n, sides) = c.loop-i.invariant.sides in
    decided_at_end c.args.same_change c.args.adds.now c.args.removes.now c.loop-i.i c.loop-i.j m n
    c.loop-i.added c.loop-i.removed c.loop-i.invariant.keep sides (omega arith) c.loop-i.invariant.adds
    (omega arith) c.loop-i.invariant.removes c.requires.one_more
