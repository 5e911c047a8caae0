use Rattle.std.proofs.Common.{◌≡◌, ◌∷◌, ◌++◌, List, Option, None, subst, ◌∙◌}
use Rattle.std.specs.Prelude.{MatchOption}
use Rattle.std.specs.List.Sorted.{IsPermutation}
use Rattle.std.specs.Map.{lookup, set_value}
use Rattle.std.proofs.lemmas.Cmp.{on_total}
use Rattle.std.proofs.lemmas.Map.Iter.{rest_more}
use Rattle.jj_decode.specs.HashTableProofs.{sorted_by_keys}
use Rattle.jj_decode.proofs.MovedEntries.{unequal_to_moved, sorted_moved, one_more_moved, lookup_none}
use Rattle.jj_decode.proofs.hash_tables.into_hash_map.Goals as goal

pub loop-key-preserved : goal.loop-key-preserved
loop-key-preserved g c =
    let K : Type 0 = g.row.K.Denot in
    let V : Type 0 = g.row.V.Denot in
    let entry : K × V = (c.in-Some.key, c.in-Some.value) in
    let all : List (K × V) = c.args.map.entries in
    let rest : List (K × V) = c.next.new.self in
    let moved : List (K × V) = c.loop-key.table.entries in
    let new : List (K × V) = c.insert.new.self.entries in
    let left : c.loop-key.key-iterator ≡ entry ∷ rest = rest_more (λ (e : K × V). e)
    c.loop-key.key-iterator rest c.next.result entry c.in-Some.is c.next.ensures.steps in
    let before : IsPermutation all (entry ∷ (rest ++ moved)) =
    subst (λ (es : List (K × V)). IsPermutation all (es ++ moved)) left
    c.loop-key.invariant.moved in
    let sorted = sorted_by_keys (λ (e : K × V). e.0) g.K.Ord.cmp all c.requires in
    let unequal = unequal_to_moved (on_total (λ (e : K × V). e.0) g.met.K.Ord.total) all rest moved
    entry sorted before in
    let none : lookup (g.K.PartialEq.eq entry.0) moved ≡ None =
    lookup_none g.K.Ord.cmp g.K.PartialEq.eq g.met.K.Ord.matches_eq entry.0 moved unequal in
    let inserted : IsPermutation (entry ∷ moved) new =
    subst (λ (old : Option V). MatchOption old (IsPermutation (entry ∷ moved) new)
    (λ _. new ≡ set_value (g.K.PartialEq.eq entry.0) moved entry.1))
    (c.in_ok-insert.ensures.old ∙ none) c.in_ok-insert.ensures.entries in
    record {
      can = tt;
      ends = tt;
      moved = one_more_moved all rest moved new entry before inserted;
      unique = c.insert.ensures.unique;
    }

pub returns-clause-entries : goal.returns-clause-entries
returns-clause-entries g c =
    let K : Type 0 = g.row.K.Denot in
    let V : Type 0 = g.row.V.Denot in
    let all : List (K × V) = c.args.map.entries in
    let moved : List (K × V) = c.loop-key.table.entries in
    let permuted : IsPermutation all moved =
    subst (λ (es : List (K × V)). IsPermutation all (es ++ moved)) c.in-None.ensures.steps.0
    c.loop-key.invariant.moved in
    sorted_moved (on_total (λ (e : K × V). e.0) g.met.K.Ord.total) all moved
    (sorted_by_keys (λ (e : K × V). e.0) g.K.Ord.cmp all c.requires) permuted
