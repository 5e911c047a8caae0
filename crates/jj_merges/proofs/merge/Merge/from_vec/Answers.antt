use Rattle.std.proofs.Common.{◌∙◌, ap, append-nil, arith, length, sym}
use Rattle.jj_merges.proofs.StorageLaws.{is_merge_storage-single}
use Rattle.jj_merges.proofs.merge.Merge.from_vec.Goals.{then-not-spilled+in_default, else-not-spilled}
use Rattle.jj_merges.proofs.merge.Merge.from_vec.Goals as goal

pub invariant_of-result : goal.invariant_of-result
invariant_of-result g c = is_merge_storage-single c.single.result c.in-Some.value c.single.ensures

pub returns : goal.returns
returns g c =
    elim c.if-not-spilled.branch [
      | then-not-spilled+in_default w ↦ c.in-Ok.ensures.ok ∙ (ap (λ v. v.items) w.values-is ∙ (sym (append-nil w.pop.new.self.items) ∙ sym w.in_default.ensures.items))
      | else-not-spilled w ↦ c.in-Ok.ensures.ok ∙ ap (λ v. v.items) w.values-is
    ]

pub invariant_of-result-2 : goal.invariant_of-result-2
invariant_of-result-2 g c = omega (arith, ap length (returns g c), c.requires)
