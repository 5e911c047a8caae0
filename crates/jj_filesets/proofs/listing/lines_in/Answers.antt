use Rattle.std.proofs.Common.{◌∙◌, [], ap, sym}
use mathlib.Core.Bool.{false≢true}
use Rattle.jj_filesets.specs.Listing.{IsLineIn}
use Rattle.jj_filesets.specs.Selection.{none}
use Rattle.jj_filesets.proofs.Selecting.{takes_at, leaves_at}
use Rattle.jj_filesets.proofs.listing.lines_in.Goals as goal
use Rattle.jj_filesets.proofs.listing.lines_in.Goals.{then-branch+in_ok-push, else-branch}

pub loop-line-init : goal.loop-line-init
loop-line-init c = rw c.new-found.ensures.items none

pub loop-line-preserved : goal.loop-line-preserved
loop-line-preserved c =
    let inside = IsLineIn c.args.expression.now c.args.nul in
    elim c.if-branch.branch [
      | then-branch+in_ok-push w ↦
          takes_at inside (λ l. l.now) c.args.lines.now c.loop-line.line-index (record { ref_ptr = (0, 0); now = [] }) c.loop-line.found.items _ c.loop-line-test.true c.loop-line.invariant
          (c.in_ok-is_line_in.ensures.0 w.if-branch.true)
          (ap (λ v. v.items) w.found-is ∙ w.in_ok-push.ensures.items)
      | else-branch w ↦
          leaves_at inside (λ l. l.now) c.args.lines.now c.loop-line.line-index (record { ref_ptr = (0, 0); now = [] }) c.loop-line.found.items _ c.loop-line-test.true c.loop-line.invariant
          (λ has. false≢true (sym w.if-branch.false ∙ c.in_ok-is_line_in.ensures.1 has))
          (ap (λ v. v.items) w.found-is)
    ]
