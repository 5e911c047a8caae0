-- The heap of a k-way merge: the first names of remotes, each with the index of its remote.
-- Machinery of private functions and fields.
use Rattle.std.specs.Prelude.{◌≡◌, ℕ, suc, List, [], ◌∷◌, Option}
use Rattle.std.specs.Cmp.Lexicographic.{slice_cmp}
use Rattle.std.specs.List.{All, cons_option, slice_get, sum_by}
use Rattle.std.specs.Map.{keys_of}
use Rattle.std.specs.Option.{option_map}
use Rattle.std.specs.Ordering.{nat_cmp, ordering_then}
use Rattle.std.specs.declared.cmp.Ordering.{Ordering}
use Rattle.std.specs.declared.cmp.Reverse.{Reverse}
use Rattle.jj_ids.specs.Names.{name_bytes}
use Rattle.jj_ids.specs.declared.ref_name.names.Name.{Name}
use Rattle.jj_stores.specs.ViewJoins.{Named, IsAscending}

-- the name and index of a heap item
abbrev pub name_and_index : {K : Type 0} → Reverse (Name K × ℕ) → List ℕ × ℕ
name_and_index f = (name_bytes f.0.0, f.0.1)

-- the order of a max-heap with the least name on top; of equal names, the least index
abbrev pub earlier_cmp : List ℕ × ℕ → List ℕ × ℕ → Ordering
earlier_cmp a b = ordering_then (slice_cmp nat_cmp b.0 a.0) (nat_cmp b.1 a.1)

module _ {R : Type 0} where
  -- the first name, if there is any, with an index
  abbrev pub first_name_at : ℕ → Named R → Option (List ℕ × ℕ)
  first_name_at index refs = option_map (λ name. (name, index)) (slice_get (keys_of refs) 0)

  -- the first names of remotes whose indices are counted from this one
  abbrev pub first_names_from : ℕ → Named (Named R) → List (List ℕ × ℕ)
  first_names_from index [] = []
  first_names_from index (remote ∷ remotes) =
      cons_option (first_name_at index remote.1) (first_names_from (suc index) remotes)

  -- firsts is a permutation of the first names of remotes, whose refs ascend by name
  pub record AreFirstNames (remotes : Named (Named R)) (firsts : List (List ℕ × ℕ)) : Type 0 where
    pub same : (count : List ℕ × ℕ → ℕ)
        → sum_by count firsts ≡ sum_by count (first_names_from 0 remotes)
    pub ascending : All (λ remote. IsAscending remote.1) remotes
