use Rattle.std.proofs.Common.{◌≡◌, ◌+◌, ◌*◌, ap, arith, rules, length, ◌∙◌}
use Rattle.std.specs.Prelude.{slice_index_or}
use Rattle.std.specs.List.{swap_remove}
use Rattle.jj_merges.specs.Merge.{adds, removes}
use Rattle.jj_merges.specs.Terms.{items}
use Rattle.jj_merges.proofs.SwapRemoveLaws.{adds_without_both, removes_without_both, added, removed_is}
use Rattle.jj_merges.proofs.DerivedCounts.{count-swap_remove}
use Rattle.jj_merges.proofs.Sides.{length-adds, length-removes}
use Rattle.jj_merges.proofs.StorageLaws.{is_on_heap, is_merge_storage-heap}
use Rattle.jj_merges.proofs.merge.Merge.swap_remove.Goals as goal

pub returns : goal.returns
returns g c =
    let m = c.args.self.now in
    let odd = c.as_slice-len.ensures.odd in
    let a = c.args.add_index in
    let r = c.args.remove_index in
    let x = c.swap_remove-add.result in
    let y = c.swap_remove-remove.result in
    let e : items c.swap_remove-add.new.self ≡ swap_remove m (a * 2) x = c.swap_remove-add.ensures.items ∙ ap (λ xs. swap_remove xs (a * 2) x) c.self.view_is in
    let both = c.swap_remove-remove.ensures.items ∙ ap (λ xs. swap_remove xs (r * 2 + 1) y) e in
    let removed = removed_is m odd a r x y c.requires.add c.requires.remove (c.swap_remove-remove.ensures.value ∙ ap (λ xs. slice_index_or xs (r * 2 + 1) y) e) in
    let added = added m odd a r x y c.requires.add c.requires.remove (c.swap_remove-add.ensures.value ∙ ap (λ xs. slice_index_or xs (a * 2) x) c.self.view_is) in
    let removes = ap removes both ∙ removes_without_both m odd a r x y c.requires.add c.requires.remove in
    let adds = ap adds both ∙ adds_without_both m odd a r x y c.requires.add c.requires.remove in
    record {
      removed = removed;
      added = added;
      removes = removes;
      adds = adds;
      counts = λ eq v. count-swap_remove eq v m (items c.swap_remove-remove.new.self) r a y x c.requires.remove c.requires.add removed added removes adds;
    }

pub swap_remove-add-requires : goal.swap_remove-add-requires
swap_remove-add-requires g c =
    let m = c.args.self.now in
    let same = ap length c.self.view_is in (
      search rules,
      (
        omega (arith, same, length-adds m, c.requires.add, c.as_slice-len.ensures.odd),
        is_on_heap c.self.inside.terms c.self.invariant (omega (arith, same, length-removes m, c.requires.remove)),
      ),
    )

pub swap_remove-remove-requires : goal.swap_remove-remove-requires
swap_remove-remove-requires g c = (
  search rules,
  (
    omega (arith, ap length c.self.view_is, length-removes c.args.self.now, c.requires.remove, c.swap_remove-add.ensures.len, c.as_slice-len.ensures.odd),
    c.swap_remove-add.ensures.is_on_heap,
  ),
)

pub overflow_mul-add_index : goal.overflow_mul-add_index
overflow_mul-add_index g c = omega (arith, length-adds c.args.self.now, c.requires.add, c.as_slice-len.type_inv.0, ap length c.as_slice-len.ensures.terms, c.as_slice-len.ensures.odd)

pub overflow_mul-remove_index : goal.overflow_mul-remove_index
overflow_mul-remove_index g c = omega (arith, length-removes c.args.self.now, c.requires.remove, c.as_slice-len.type_inv.0, ap length c.as_slice-len.ensures.terms)

pub overflow_add-remove_index : goal.overflow_add-remove_index
overflow_add-remove_index g c = omega (arith, length-removes c.args.self.now, c.requires.remove, c.as_slice-len.type_inv.0, ap length c.as_slice-len.ensures.terms)

pub invariant_of-self : goal.invariant_of-self
invariant_of-self g c =
    is_merge_storage-heap c.swap_remove-remove.new.self c.swap_remove-remove.ensures.is_on_heap
    (omega (arith, c.swap_remove-remove.ensures.len, c.swap_remove-add.ensures.len, ap length c.self.view_is, c.as_slice-len.ensures.odd))
