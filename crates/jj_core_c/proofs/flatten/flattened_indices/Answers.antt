use Rattle.std.proofs.Common.{◌≡◌, ◌∙◌, ◌%◌, ℕ, List, ap, arith, length, subst, sym, true}
use Rattle.std.specs.List.{range_with_len}
use Rattle.std.proofs.lemmas.List.FromFn.{length-range_with_len}
use Rattle.jj_merges.specs.Flatten.{flattened_terms}
use Rattle.jj_core_c.specs.FlattenResults.{IsNested, indexed_merges, term_count}
use Rattle.jj_core_c.specs.Pieces.{are_ends, pieces_of}
use Rattle.jj_core_c.proofs.PieceLists.{length_pieces}
use Rattle.jj_core_c.proofs.flatten.flattened_indices.Goals as goal

pub returns-then-ends-eq0 : goal.returns-then-ends-eq0
returns-then-ends-eq0 c nested =
    let len = length_pieces (range_with_len 0 (term_count c.args.ends.now)) 0 c.args.ends.now in
    absurd (omega (arith, len, nested.0, c.if-ends-eq0.true))

pub merges_of-requires : goal.merges_of-requires
merges_of-requires c =
    let len = ap length (c.deref.ensures.value ∙ c.in_ok-indices.ensures) ∙ length-range_with_len 0 c.term_count.result ∙ c.term_count.ensures in
    subst (λ (n : ℕ). are_ends n c.args.ends.now ≡ true) (sym len) c.requires

pub flatten_merges-requires : goal.flatten_merges-requires
flatten_merges-requires c =
    let len = ap length c.in_ok-merges.ensures.0 ∙ length_pieces c.deref.result.now 0 c.args.ends.now in
    omega (arith, len, c.if-ends-eq0.false)

pub returns : goal.returns
returns c =
    let merges = c.in_ok-merges.merges.items in
    let is : merges ≡ indexed_merges c.args.ends.now =
    c.in_ok-merges.ensures.0 ∙ ap (λ (l : List ℕ). pieces_of l c.args.ends.now) (c.deref.ensures.value ∙ c.in_ok-indices.ensures ∙ ap (range_with_len 0) c.term_count.ensures) in
    let len = ap length c.in_ok-merges.ensures.0 ∙ length_pieces c.deref.result.now 0 c.args.ends.now in
    let odd : length merges % 2 ≡ 1 = omega (arith, len, c.if-ends-eq0.false) in
    (c.in_ok-flatten_merges.ensures ∙ ap flattened_terms is, subst IsNested is (odd, c.in_ok-merges.ensures.1))
