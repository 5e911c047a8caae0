use Rattle.std.proofs.Common.{arith, subst, sym}
use Rattle.jj_content_merges.specs.Comparisons.{IsAt, IsBefore, IsSwept}
use Rattle.jj_content_merges.specs.Rows.{rows_of}
use Rattle.jj_content_merges.proofs.Comparing.{left_advanced, right_advanced}
use Rattle.jj_content_merges.proofs.files.comparing.step.Goals as goal

pub returns-then-base_end-clause-swept : goal.returns-then-base_end-clause-swept
returns-then-base_end-clause-swept c =
    subst (λ hunks. IsSwept c.args.left.now.inputs.1.now c.args.left.now.inputs.0.now c.args.right.now.inputs.1.now hunks c.args.right.now.hunks.items
    c.advance.new.self.index c.args.right.now.index (IsBefore hunks c.args.right.now.hunks.items c.advance.new.self.index c.args.right.now.index)
    (rows_of c.push_overlap.new.splitter.rows.items) c.push_overlap.new.splitter.at.items) (sym c.advance.ensures.hunks)
    (subst (λ n. IsSwept c.args.left.now.inputs.1.now c.args.left.now.inputs.0.now c.args.right.now.inputs.1.now c.args.left.now.hunks.items c.args.right.now.hunks.items n c.args.right.now.index
    (IsBefore c.args.left.now.hunks.items c.args.right.now.hunks.items n c.args.right.now.index)
    (rows_of c.push_overlap.new.splitter.rows.items) c.push_overlap.new.splitter.at.items) (sym c.advance.ensures.index)
    (left_advanced c.args.left.now.inputs.1.now c.args.left.now.inputs.0.now c.args.right.now.inputs.1.now c.args.left.now.hunks.items c.args.right.now.hunks.items c.args.left.now.index c.args.right.now.index
    (rows_of c.push_overlap.new.splitter.rows.items) c.push_overlap.new.splitter.at.items c.in_ok-push_overlap.ensures.swept c.args.left.now.base c.args.left.now.other c.requires.left
    (omega (arith, c.base_end.ensures, c.base_end-2.ensures, c.if-base_end.true))))

pub returns-else-base_end-clause-swept : goal.returns-else-base_end-clause-swept
returns-else-base_end-clause-swept c =
    subst (λ hunks. IsSwept c.args.left.now.inputs.1.now c.args.left.now.inputs.0.now c.args.right.now.inputs.1.now c.args.left.now.hunks.items hunks
    c.args.left.now.index c.advance-else-base_end.new.self.index (IsBefore c.args.left.now.hunks.items hunks c.args.left.now.index c.advance-else-base_end.new.self.index)
    (rows_of c.push_overlap.new.splitter.rows.items) c.push_overlap.new.splitter.at.items) (sym c.advance-else-base_end.ensures.hunks)
    (subst (λ n. IsSwept c.args.left.now.inputs.1.now c.args.left.now.inputs.0.now c.args.right.now.inputs.1.now c.args.left.now.hunks.items c.args.right.now.hunks.items c.args.left.now.index n
    (IsBefore c.args.left.now.hunks.items c.args.right.now.hunks.items c.args.left.now.index n)
    (rows_of c.push_overlap.new.splitter.rows.items) c.push_overlap.new.splitter.at.items) (sym c.advance-else-base_end.ensures.index)
    (right_advanced c.args.left.now.inputs.1.now c.args.left.now.inputs.0.now c.args.right.now.inputs.1.now c.args.left.now.hunks.items c.args.right.now.hunks.items c.args.left.now.index c.args.right.now.index
    (rows_of c.push_overlap.new.splitter.rows.items) c.push_overlap.new.splitter.at.items c.in_ok-push_overlap.ensures.swept c.args.right.now.base c.args.right.now.other
    (subst (λ base. IsAt base c.args.right.now.inputs.1.now c.args.right.now.hunks.items c.args.right.now.index c.args.right.now.base c.args.right.now.other) c.requires.base c.requires.right)
    (omega (arith, c.base_end.ensures, c.base_end-2.ensures, c.if-base_end.false))))
