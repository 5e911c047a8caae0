use Rattle.std.proofs.Common.{◌≡◌, ◌∙◌, ◌++◌, ◌∷◌, [], ap, arith, rules, length, subst, sym}
use Rattle.std.proofs.lemmas.Bool.{false≢true}
use Rattle.std.proofs.lemmas.List.{nil_from_length}
use Rattle.jj_merges.specs.Terms.{items, IsMergeStorage}
use Rattle.jj_merges.proofs.merge.Merge.into_resolved.Goals as goal

pub into_single-requires : goal.into_single-requires
into_single-requires g c = (search rules, subst IsMergeStorage c.in-Inline.is c.self.invariant)

pub returns-in-Inline : goal.returns-in-Inline
returns-in-Inline g c = sym c.self.view_is ∙ (ap items c.in-Inline.is ∙ c.into_single.ensures)

pub invariant_of-result : goal.invariant_of-result
invariant_of-result g c = subst IsMergeStorage c.in-Heap.is c.self.invariant

pub returns-then-len-gt1 : goal.returns-then-len-gt1
returns-then-len-gt1 g c =
    let same = sym (ap items c.in-Heap.is) ∙ c.self.view_is in
    (same, omega (arith, ap length same, c.len.ensures, c.if-len-gt1.true, c.in-Heap.values.ok.0))

pub destroy_empty-requires : goal.destroy_empty-requires
destroy_empty-requires g c = omega (arith, c.in-Some.ensures.len, c.len.ensures, c.if-len-gt1.false)

pub unreachable-requires : goal.unreachable-requires
unreachable-requires g c =
    let odd = subst IsMergeStorage c.in-Heap.is c.self.invariant in
    false≢true (c.in-None.ensures.variant.1 (omega (arith, odd, c.in-Heap.values.ok.0)))

pub returns-in-Some : goal.returns-in-Some
returns-in-Some g c =
    let rest = c.pop.new.self.items in
    let none : rest ≡ [] = nil_from_length rest (omega (arith, c.pop.new.self.ok.0, c.in-Some.ensures.len, c.len.ensures, c.if-len-gt1.false)) in
    sym c.self.view_is ∙ (ap items c.in-Heap.is ∙ (c.in-Some.ensures.items ∙ ap (λ xs. xs ++ c.in-Some.value ∷ []) none))
