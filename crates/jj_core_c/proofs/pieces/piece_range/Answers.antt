use Rattle.std.proofs.Common.{◌≤◌, ℕ, arith, get_or, subst, sym}
use Rattle.jj_core_c.proofs.PieceLists.{piece_in_range, start_is}
use Rattle.jj_core_c.proofs.pieces.piece_range.Goals as goal
use Rattle.jj_core_c.proofs.pieces.piece_range.Goals.{then-index-eq0, else-index-eq0}

pub returns-clause-start : goal.returns-clause-start
returns-clause-start c =
    elim c.if-index-eq0.branch [
      | then-index-eq0 w ↦ start_is c.args.ends.now c.args.index c.if-index-eq0.start (λ e. w.start-is) (λ more. absurd (omega (arith, w.if-index-eq0.true)))
      | else-index-eq0 w ↦ start_is c.args.ends.now c.args.index c.if-index-eq0.start (λ e. absurd (omega (arith, e, w.if-index-eq0.false))) (λ more. w.start-is)
    ]

pub returns-clause-ordered : goal.returns-clause-ordered
returns-clause-ordered c =
    subst (λ (n : ℕ). n ≤ get_or c.args.ends.now c.args.index 0) (sym (returns-clause-start c))
    (piece_in_range c.args.len 0 c.args.ends.now c.args.index c.requires.divided c.requires.in_range).0

pub returns-clause-within : goal.returns-clause-within
returns-clause-within c = (piece_in_range c.args.len 0 c.args.ends.now c.args.index c.requires.divided c.requires.in_range).1
