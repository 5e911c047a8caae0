use Rattle.std.proofs.Common.{ap, below_more, refl, subst, sym}
use Rattle.jj_diff.specs.Inputs.{bytes_of}
use Rattle.jj_diff.specs.Anchors.{StandsOnceInEach, token_at, lists_of}
use Rattle.jj_diff.proofs.diff.anchors.find_token.Goals as goal

pub returns-then-stands_once_in_each-clause-found : goal.returns-then-stands_once_in_each-clause-found
returns-then-stands_once_in_each-clause-found g c = λ lt.
    subst (StandsOnceInEach g.C.CompareBytes.canonical (bytes_of c.args.row.now) (lists_of c.args.offsets.now)) (ap g.C.CompareBytes.canonical c.token_at-token.ensures)
    (c.if-stands_once_in_each.ensures.once refl)

pub loop-index-preserved : goal.loop-index-preserved
loop-index-preserved g c =
    below_more (λ k. ¬ (StandsOnceInEach g.C.CompareBytes.canonical (bytes_of c.args.row.now) (lists_of c.args.offsets.now) (g.C.CompareBytes.canonical (token_at c.args.first.now c.args.first_offsets.now k))))
    c.loop-index.index c.loop-index.invariant
    (λ each. c.if-stands_once_in_each.ensures.not_once refl (
    subst (StandsOnceInEach g.C.CompareBytes.canonical (bytes_of c.args.row.now) (lists_of c.args.offsets.now)) (sym (ap g.C.CompareBytes.canonical c.token_at-token.ensures)) each))
