use Rattle.std.proofs.Common.{◌≡◌, ◌∷◌, ◌++◌, [], List, Bool, length, subst, ap, ◌∙◌, arith}
use Rattle.std.specs.Prelude.{MatchBool, not}
use Rattle.std.specs.List.Sorted.{IsPermutation}
use Rattle.std.specs.Vec.Iter.{into_iter_items}
use Rattle.std.proofs.lemmas.List.{nil_from_length}
use Rattle.jj_decode.proofs.MovedEntries.{unequal_to_moved, sorted_moved, one_more_moved, none_equal}
use Rattle.jj_decode.proofs.hash_tables.into_hash_set.Goals as goal

pub loop-member-preserved : goal.loop-member-preserved
loop-member-preserved g c =
    let K : Type 0 = g.row.K.Denot in
    let step = rw c.in-Some.is at c.next.ensures.steps in
    let member : K = c.in-Some.member in
    let all : List K = c.args.members.items in
    let rest : List K = into_iter_items c.next.new.self in
    let moved : List K = c.loop-member.set.keys in
    let new : List K = c.insert.new.self.keys in
    let before : IsPermutation all (member ∷ (rest ++ moved)) =
    subst (λ (ks : List K). IsPermutation all (ks ++ moved)) step.0
    c.loop-member.invariant.moved in
    let unequal = unequal_to_moved g.met.K.Ord.total all rest moved member c.requires before in
    let added = c.in_ok-insert.ensures.added
    ∙ ap not (none_equal g.K.Ord.cmp g.K.PartialEq.eq g.met.K.Ord.matches_eq member moved unequal) in
    let inserted : IsPermutation (member ∷ moved) new =
    subst (λ (b : Bool). MatchBool b (IsPermutation (member ∷ moved) new) (new ≡ moved)) added
    c.in_ok-insert.ensures.keys in
    record {
      can = tt;
      ends = tt;
      moved = one_more_moved all rest moved new member before inserted;
      len = omega (arith, c.loop-member.invariant.len, step.1, ap length step.0);
      unique = c.insert.ensures.unique;
    }

pub returns-clause-members : goal.returns-clause-members
returns-clause-members g c =
    let K : Type 0 = g.row.K.Denot in
    let step = rw c.in-None.is at c.next.ensures.steps in
    let all : List K = c.args.members.items in
    let moved : List K = c.loop-member.set.keys in
    let rest : List K = into_iter_items c.loop-member.member-iterator in
    let none : rest ≡ [] = nil_from_length rest (omega (arith, c.loop-member.invariant.len, step.0)) in
    let permuted : IsPermutation all moved =
    subst (λ (ks : List K). IsPermutation all (ks ++ moved)) none c.loop-member.invariant.moved in
    sorted_moved g.met.K.Ord.total all moved c.requires permuted
