use Rattle.std.proofs.Common.{rules, of_calls, ◌≡◌, ◌+◌, ◌<◌, true, subst, sym, length, get_or}
use Rattle.std.specs.Ordering.{is_lt}
use Rattle.std.specs.List.Sorted.{IsSortedBy}
use Rattle.std.specs.FinMap.{is_sorted}
use Rattle.std.proofs.lemmas.Cmp.{nat_list_cmp_total}
use Rattle.std.proofs.lemmas.List.MinMax.{ranks_by}
use Rattle.std.proofs.lemmas.List.Sorted.{answers_always}
use Rattle.jj_paths.specs.Paths.{Name, name_cmp}
use Rattle.jj_backend.specs.Trees.{Entries}
use Rattle.jj_backend.specs.declared.backend.tree_value.TreeValue.{TreeValue}
use Rattle.jj_backend.proofs.UnsortedEntries.{same_values, named_twice}
use Rattle.jj_backend.proofs.backend.tree.Tree.from_entries.Goals as goal

pub find_duplicate-requires : goal.find_duplicate-requires
find_duplicate-requires c =
    subst (IsSortedBy (λ (x : Name × TreeValue) (y : Name × TreeValue). is_lt (name_cmp x.0 y.0))) (sym c.as_slice.ensures.value)
    (c.sort_unstable_by.ensures.sorted (λ x y. is_lt (name_cmp x.0 y.0)) (ranks_by nat_list_cmp_total (λ (x : Name × TreeValue). x.0)) (answers_always _ _ _ (λ f a r g h. search (rules, of_calls, h))))

pub returns-in-None-clause-values : goal.returns-in-None-clause-values
returns-in-None-clause-values c =
    same_values c.args.entries.items c.sort_unstable_by.new.self.items c.sort_unstable_by.ensures.permutation (subst (λ es. is_sorted name_cmp es ≡ true) c.as_slice.ensures.value c.in-None.ensures)

pub returns-in-Some-clause-duplicate : goal.returns-in-Some-clause-duplicate
returns-in-Some-clause-duplicate c =
    let at = subst (λ (es : Entries). (c.in-Some.index + 1 < length es)
    × ((d : Name × TreeValue) → (get_or es c.in-Some.index d).0 ≡ (get_or es (c.in-Some.index + 1) d).0)) c.as_slice.ensures.value c.in-Some.ensures in
    named_twice c.args.entries.items c.sort_unstable_by.new.self.items c.in-Some.index c.take_name.result c.sort_unstable_by.ensures.permutation at.0 c.take_name.ensures at.1
