use Rattle.std.proofs.Common.{All, map, subst, sym}
use Rattle.std.proofs.lemmas.List.Sorted.{All-permutation, Contains-permutation, IsPermutation-map}
use Rattle.jj_program.specs.TermClasses.{AreSortedEntriesOf, IsEntryOf, index_of}
use Rattle.jj_program.proofs.ClassedTerms.{terms-sorted}
use Rattle.jj_program.proofs.term_classes.classes_of.Goals as goal

pub classes_of_sorted-requires : goal.classes_of_sorted-requires
classes_of_sorted-requires c =
    let terms = c.args.terms.now in
    let before = c.in_ok-entries.entries.items in
    let sorted = c.sort_unstable.new.self.items in
    let moved = c.sort_unstable.ensures.permutation in
    let each : All (IsEntryOf terms) sorted = All-permutation (IsEntryOf terms) before sorted moved c.in_ok-entries.ensures.0 in
    subst (AreSortedEntriesOf terms) (sym c.deref.ensures.value) (
      (
        each,
        λ index within. Contains-permutation (map index_of before) (map index_of sorted) index (IsPermutation-map index_of before sorted moved) (c.in_ok-entries.ensures.1 index within),
      ),
      terms-sorted terms sorted each c.sort_unstable.ensures.sorted,
    )
