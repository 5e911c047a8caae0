use Rattle.std.proofs.Common.{◌∙◌, ◌*◌, ◌∷◌, ◌++◌, [], ap, arith, sym}
use Rattle.std.proofs.lemmas.List.FromFn.{map-range_with_len_more}
use Rattle.jj_program.proofs.merge_simplify.adds_of.Goals as goal

pub loop-position-preserved : goal.loop-position-preserved
loop-position-preserved c =
    let p = c.loop-position.position in
    c.in_ok-push.ensures.items ∙ ap (λ xs. xs ++ 2 * p ∷ []) c.loop-position.invariant ∙ sym (map-range_with_len_more (λ p. 2 * p) 0 p p (omega arith))
