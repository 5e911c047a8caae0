use Rattle.std.proofs.Common.{◌≡◌, ◌++◌, subst, sym, arith}
use Rattle.std.specs.List.{Contains}
use Rattle.std.specs.List.Sorted.{IsStrictlyIncreasing}
use Rattle.std.proofs.lemmas.List.Elements.{Contains-append_left, Contains-append_right}
use Rattle.jj_program.proofs.Numberings.{AreBelow, below_contained, joined_ascending}
use Rattle.jj_program.proofs.numbering.Numbering.from_parts.Goals as goal

pub invariant_of-result : goal.invariant_of-result
invariant_of-result c =
    let low = c.loop-id.ids.items in
    let high = c.args.others.now in
    let joined : c.extend_from_slice.new.self.items ≡ low ++ high = c.in_ok-extend_from_slice.ensures.items in
    let below : AreBelow low c.args.size = subst (AreBelow low) (omega arith) c.loop-id.invariant in
    record { ascending = subst IsStrictlyIncreasing (sym joined) (joined_ascending low high c.args.size below c.requires.ascending c.requires.above) }

pub returns-clause-below : goal.returns-clause-below
returns-clause-below c = λ id less.
    let low = c.loop-id.ids.items in
    let high = c.args.others.now in
    let joined : c.extend_from_slice.new.self.items ≡ low ++ high = c.in_ok-extend_from_slice.ensures.items in
    let below : AreBelow low c.args.size = subst (AreBelow low) (omega arith) c.loop-id.invariant in
    subst (λ xs. Contains xs id) (sym joined) (Contains-append_left low high id (below_contained low c.args.size id below less))

pub returns-clause-others : goal.returns-clause-others
returns-clause-others c = λ id among.
    let low = c.loop-id.ids.items in
    let high = c.args.others.now in
    let joined : c.extend_from_slice.new.self.items ≡ low ++ high = c.in_ok-extend_from_slice.ensures.items in
    subst (λ xs. Contains xs id) (sym joined) (Contains-append_right low high id among)
