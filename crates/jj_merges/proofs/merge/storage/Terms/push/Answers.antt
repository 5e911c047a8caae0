use Rattle.std.proofs.Common.{◌≡◌, ◌∙◌, ◌++◌, ◌∷◌, [], ap, arith, rules, subst, sym}
use Rattle.std.proofs.lemmas.List.{nil_from_length}
use Rattle.jj_merges.specs.Terms.{items, IsOnHeap}
use Rattle.jj_merges.proofs.merge.storage.Terms.push.Goals as goal

pub spill-requires : goal.spill-requires
spill-requires g c = (search rules, c.requires)

pub unreachable-requires : goal.unreachable-requires
unreachable-requires g c = subst IsOnHeap c.in-Inline.is c.in_ok-spill.ensures.ok

pub returns-clause-ok : goal.returns-clause-ok
returns-clause-ok g c =
    let v = c.in-Heap.values in
    let empty : v.items ≡ [] = nil_from_length v.items (omega (arith, v.ok.0, v.ok.1, c.capacity.ensures, c.if-capacity-gt0.false)) in
    let before : items c.args.self.now ≡ [] = sym c.in_ok-spill.ensures.items ∙ (ap items c.in-Heap.is ∙ empty) in
    c.single.ensures ∙ ap (λ xs. xs ++ c.args.value ∷ []) (sym before)
