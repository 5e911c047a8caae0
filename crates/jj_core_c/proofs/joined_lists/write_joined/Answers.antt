use Rattle.std.proofs.Common.{◌<◌, ◌∙◌, ℕ, List, ap, inr, length, refl, rules, subst, sym}
use Rattle.jj_core_c.specs.Buffers.{Writes}
use Rattle.jj_core_c.proofs.JoinedResults.{length_ends}
use Rattle.jj_core_c.proofs.joined_lists.write_joined.Goals as goal

pub returns-then-ends-len : goal.returns-then-ends-len
returns-then-ends-len c = λ found joins.
    let less : length c.args.ends.now < length c.args.lists.now.ends.items = search rules in
    (inr (subst (λ (n : ℕ). length c.args.ends.now < n) (ap length joins.1 ∙ length_ends 0 found) less), refl, refl)

pub returns : goal.returns
returns c = λ found joins.
    let items = subst (λ (l : List ℕ). Writes c.args.buffer.now c.write_indices.new.buffer l c.write_indices.result) (c.as_slice-2.ensures.value ∙ joins.0) c.write_indices.ensures in
    let ends = subst (λ (l : List ℕ). Writes c.args.ends.now c.write_indices-count.new.buffer l c.write_indices-count.result) (c.as_slice.ensures.value ∙ joins.1) c.write_indices-count.ensures in
    (items, (sym (length_ends 0 found), ends.1))
