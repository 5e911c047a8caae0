use Rattle.std.proofs.Common.{ap, arith, length}
use Rattle.std.specs.Prelude.{count_by}
use Rattle.std.proofs.lemmas.List.Sorted.{length_permutation, sum_by-IsPermutation}
use Rattle.jj_program.specs.MergeViews.{text_eq}
use Rattle.jj_program.proofs.SortedSides.{same}
use Rattle.jj_program.proofs.merge_outcome.outcome.Goals as goal

pub returns : goal.returns
returns c = c.outcome_of_sides.ensures c.args.terms.now (λ v.
    let added = sum_by-IsPermutation (same v) c.in_ok-adds.adds.items c.sort_strings.new.strings.items
    c.in_ok-sort_strings.ensures.permutation in
    let removed = sum_by-IsPermutation (same v) c.in_ok-adds.removes.items
    c.sort_strings-2.new.strings.items c.in_ok-sort_strings-2.ensures.permutation in
    let adds_lent = ap (count_by (text_eq v)) c.deref-2.ensures.value in
    let removes_lent = ap (count_by (text_eq v)) c.deref-3.ensures.value in
    omega (arith, c.in_ok-adds.ensures.counts v, added, removed, adds_lent, removes_lent))

pub outcome_of_sides-requires-clause-one_more : goal.outcome_of_sides-requires-clause-one_more
outcome_of_sides-requires-clause-one_more c =
    let added = length_permutation c.in_ok-adds.adds.items c.sort_strings.new.strings.items c.in_ok-sort_strings.ensures.permutation in
    let removed = length_permutation c.in_ok-adds.removes.items c.sort_strings-2.new.strings.items c.in_ok-sort_strings-2.ensures.permutation in
    let adds_lent = ap length c.deref-2.ensures.value in
    let removes_lent = ap length c.deref-3.ensures.value in
    omega (arith, c.requires, c.in_ok-adds.ensures.lengths, added, removed, adds_lent, removes_lent)
