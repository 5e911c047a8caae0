use Rattle.std.proofs.Common.{◌≡◌, ◌∙◌, length, map, ap, sym, subst, arith}
use Rattle.std.specs.List.Sorted.{IsPermutation}
use Rattle.std.proofs.lemmas.List.{length-map, take_all}
use Rattle.std.proofs.lemmas.List.Sorted.{length_permutation}
use Rattle.jj_paths.specs.Names.{path_of}
use Rattle.jj_matchers.specs.KeyedMarks.{keyed_path}
use Rattle.jj_matchers.proofs.SortedMarks.{deduped_ascend, put_whole, same_marks}
use Rattle.jj_matchers.proofs.matchers.marks.sorted_marks.Goals as goal

pub returns-clause-ascending : goal.returns-clause-ascending
returns-clause-ascending c = deduped_ascend c.sort_unstable.new.self.items c.dedup.new.self.items c.dedup.ensures.filtered c.sort_unstable.ensures.sorted

pub returns-clause-same : goal.returns-clause-same
returns-clause-same c =
    let keyed = c.sort_by_keys.new.marks in
    let items = c.deref-mark-items.result.now in
    let copied = c.loop-mark.sorted.items in
    let moved : IsPermutation (map path_of c.args.marks.now) (map keyed_path keyed) =
    subst (λ l. IsPermutation l (map keyed_path keyed)) (ap (map keyed_path) c.deref_mut.ensures.value ∙ c.in_ok-keyed.ensures) c.sort_by_keys.ensures in
    let same : map keyed_path c.deref_mut.result.now ≡ map keyed_path c.in_ok-keyed.keyed.items = ap (map keyed_path) c.deref_mut.ensures.value in
    let long : length keyed ≡ length c.in_ok-keyed.keyed.items =
    sym (length-map keyed keyed_path) ∙ length_permutation (map keyed_path c.deref_mut.result.now) (map keyed_path keyed) c.sort_by_keys.ensures ∙ ap length same ∙ length-map c.in_ok-keyed.keyed.items keyed_path in
    let back = put_whole c.in_ok-keyed.keyed.len c.in_ok-keyed.keyed.items keyed long (omega arith) in
    let copy : map path_of copied ≡ map keyed_path keyed = c.loop-mark.invariant ∙ ap (map keyed_path) (take_all c.loop-mark.mark-index items (omega arith) ∙ c.deref-mark-items.ensures.value ∙ back) in
    same_marks c.sort_unstable.new.self.items c.dedup.new.self.items c.dedup.ensures.filtered (map path_of c.args.marks.now) (map keyed_path keyed) copied moved copy c.sort_unstable.ensures.permutation
