use Rattle.std.proofs.Common.{◌∙◌, ap, refl, List, ℕ, arith}
use Rattle.std.specs.Ordering.{nat_cmp, is_le}
use Rattle.std.proofs.lemmas.Bool.Decides.{nat_tests}
use Rattle.std.proofs.lemmas.Cmp.{same_from_slice_cmp}
use Rattle.jj_matchers.specs.PatternOrder.{is_at_most}
use Rattle.jj_matchers.proofs.matchers.pattern_order.is_prefix_at_most.Goals as goal

pub returns : goal.returns
returns c =
    c.is_le.ensures
    ∙ same_from_slice_cmp nat_cmp is_le is_at_most refl (λ _ _. refl) (λ _ _. refl) (λ x y xs ys o h. grind (arith, nat_tests)) c.literal_prefix.result.now c.args.bytes.now c.cmp.result c.cmp.ensures
    ∙ ap (λ (prefix : List ℕ). is_at_most prefix c.args.bytes.now) c.literal_prefix.ensures
