use Rattle.std.proofs.Common.{◌≡◌, ◌++◌, ◌∷◌, [], ◌∙◌, true, ℕ, List, map, ap, sym, subst, Bor}
use Rattle.std.specs.Cmp.Lexicographic.{slice_cmp, nat_list_cmp_total}
use Rattle.std.specs.List.Sorted.{IsStrictlySortedBy}
use Rattle.std.specs.Map.{keys_of}
use Rattle.std.specs.Map.Iter.{deref_pair}
use Rattle.std.specs.Ordering.{nat_cmp}
use Rattle.std.proofs.lemmas.List.{map-append, append_assoc, append-nil}
use Rattle.std.proofs.lemmas.Map.Iter.{rest_more}
use Rattle.jj_stores.proofs.ClonedEntries.{push_cloned, named_cloned}
use Rattle.jj_stores.proofs.op_store.copies.clone_map.Goals as goal

pub loop-name-preserved : goal.loop-name-preserved
loop-name-preserved g c =
    let V : Type 0 = g.row.V.Denot in
    let x : Bor (List ℕ) × Bor V = (c.in-Some.name, c.in-Some.value) in
    let e : List ℕ × V = deref_pair x in
    let rest : List (List ℕ × V) = c.next.new.self in
    let left = rest_more deref_pair c.loop-name.name-iterator rest c.next.result x c.in-Some.is
    c.next.ensures.steps in
    let done : List (List ℕ × V) = map deref_pair c.loop-name.yielded in
    let more : map deref_pair (c.loop-name.yielded ++ x ∷ []) ≡ done ++ e ∷ [] =
    map-append deref_pair c.loop-name.yielded (x ∷ []) in
    let before = c.loop-name.invariant in
    let all : done ++ e ∷ rest ≡ c.args.map.now.entries =
    ap (λ (z : List (List ℕ × V)). done ++ z) (sym left) ∙ before.left in
    let IsSorted : List (List ℕ × V) → Type 0 =
    λ es. IsStrictlySortedBy (slice_cmp nat_cmp) (keys_of es) in
    let f : List ℕ × V = (c.in_ok-name.name, c.in_ok-clone_in.field-0) in
    record {
      can = tt;
      ends = tt;
      left = ap (λ (z : List (List ℕ × V)). z ++ rest) more ∙ append_assoc done (e ∷ []) rest
          ∙ all;
      ordered = before.ordered;
      copied = rw (more, c.in_ok-insert.ensures.entries)
          (push_cloned (λ v w. g.V.PartialEq.eq w v ≡ true) nat_list_cmp_total
          done rest c.loop-name.copy.entries e f (subst IsSorted (sym all) before.ordered)
          before.copied (c.in_ok-name.ensures.cases, c.in_ok-clone_in.ensures));
    }

pub returns : goal.returns
returns g c =
    let V : Type 0 = g.row.V.Denot in
    let done : List (List ℕ × V) = map deref_pair c.loop-name.yielded in
    let all : done ≡ c.args.map.now.entries =
    sym (append-nil done)
    ∙ ap (λ (z : List (List ℕ × V)). done ++ z) (sym c.in-None.ensures.steps.0)
    ∙ c.loop-name.invariant.left in
    rw (← all) (named_cloned g.V.PartialEq.eq done c.loop-name.copy.entries
    c.loop-name.invariant.copied)
