use Rattle.std.proofs.Common.{◌∙◌, ◌<◌, ◌++◌, ◌∷◌, [], add-one, ap, arith, get_or, length, refl, sym}
use Rattle.std.specs.Prelude.{slice_index}
use Rattle.std.proofs.lemmas.List.{get_or_default}
use Rattle.jj_merges.specs.Simplify.{at_indices}
use Rattle.jj_program.specs.MergeSimplify.{is_left, positions_below, remove_at}
use Rattle.jj_program.proofs.ClassedTerms.{no_text}
use Rattle.jj_program.proofs.LeftPositions.{positions-fails, positions-passes, rank-below}
use Rattle.jj_program.proofs.LeftTerms.{indices_at, two-terms}
use Rattle.jj_program.proofs.merge_simplify.terms_left.Goals as goal
use Rattle.jj_program.proofs.merge_simplify.terms_left.Goals.{then-is_left+in_ok-push-2+in_ok-push-3, else-is_left}

pub loop-position-preserved : goal.loop-position-preserved
loop-position-preserved c =
    let terms = c.args.terms.now in
    let adds = c.args.adds.now in
    let test = is_left c.args.classes.now c.args.heads.now in
    let p = c.loop-position.position in
    elim c.if-is_left.branch [
      | then-is_left+in_ok-push-2+in_ok-push-3 w ↦
          let left = sym c.is_left.ensures ∙ w.if-is_left.true in
          let next = ap (λ n. positions_below n test) (add-one p) ∙ positions-passes test p left in
          let x = get_or terms (remove_at p) no_text in
          let y = get_or terms (slice_index adds p) no_text in
          let some : 0 < length (positions_below p test) = omega (arith, rank-below test 0 p refl (omega arith)) in
          let within_x : remove_at p < length terms = omega arith in
          let within_y : slice_index adds p < length terms = omega (arith, c.requires.adds p 0 (omega arith)) in
          ap (λ v. v.items) w.left-is
          ∙ w.in_ok-push-3.ensures.items
          ∙ ap (λ xs. xs ++ y ∷ []) (w.in_ok-push-2.ensures.items ∙ ap (λ xs. xs ++ x ∷ []) c.loop-position.invariant)
          ∙ two-terms terms adds (positions_below p test) p x y some within_x (get_or_default terms (remove_at p) no_text x within_x) within_y (get_or_default terms (slice_index adds p) no_text y within_y)
          ∙ ap (λ ps. at_indices terms (indices_at adds ps)) (sym next)
      | else-is_left w ↦
          let none = sym c.is_left.ensures ∙ w.if-is_left.false in
          let next = ap (λ n. positions_below n test) (add-one p) ∙ positions-fails test p none in
          ap (λ v. v.items) w.left-is ∙ c.loop-position.invariant ∙ ap (λ ps. at_indices terms (indices_at adds ps)) (sym next)
    ]
