use Rattle.std.proofs.Common.{◌≡◌, ◌∙◌, All, map, subst, sym}
use Rattle.std.specs.List.Sorted.{IsPermutation, IsSorted}
use Rattle.std.proofs.lemmas.List.Sorted.{All-permutation, IsPermutation-map}
use Rattle.std.proofs.lemmas.Result.{on_ok_weaker}
use Rattle.jj_program.specs.MergeViews.{text_cmp}
use Rattle.jj_program.specs.TextKeys.{IsEntry, text_of}
use Rattle.jj_program.proofs.TextKeys.{texts_sorted}
use Rattle.jj_program.proofs.text_sort.sort_strings.Goals as goal

pub returns-clause-permutation : goal.returns-clause-permutation
returns-clause-permutation c =
    let old = c.args.strings.now.items in
    let sorted = c.sort_unstable.new.self.items in
    let listed : map text_of c.list_entries.new.entries.items ≡ old = c.in_ok-list_entries.ensures.strings ∙ c.deref.ensures.value in
    let moved : IsPermutation (map text_of c.list_entries.new.entries.items) (map text_of sorted) = IsPermutation-map text_of _ sorted c.sort_unstable.ensures.permutation in
    on_ok_weaker c.list_strings.result
    (λ written. subst (IsPermutation old) (sym (written ∙ (λ i. map text_of (c.deref-2.ensures.value i)))) (subst (λ l. IsPermutation l (map text_of sorted)) listed moved))
    c.list_strings.ensures

pub returns-clause-sorted : goal.returns-clause-sorted
returns-clause-sorted c =
    let sorted = c.sort_unstable.new.self.items in
    let are : All IsEntry sorted = All-permutation IsEntry _ sorted c.sort_unstable.ensures.permutation c.in_ok-list_entries.ensures.keys in
    on_ok_weaker c.list_strings.result
    (λ written. subst (IsSorted text_cmp) (sym (written ∙ (λ i. map text_of (c.deref-2.ensures.value i)))) (texts_sorted sorted are c.sort_unstable.ensures.sorted))
    c.list_strings.ensures
