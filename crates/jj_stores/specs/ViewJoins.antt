-- The join of local and remote refs by name.
-- Cited by contracts of public items: Named.
use Rattle.std.specs.Prelude.{◌≡◌, ℕ, List, [], ◌∷◌, ◌++◌, false, Option, Some, None, MatchOption, IsSome}
use Rattle.std.specs.Cmp.Lexicographic.{slice_cmp}
use Rattle.std.specs.List.{All, filter_map}
use Rattle.std.specs.List.Sorted.{IsStrictlySortedBy}
use Rattle.std.specs.Map.{keys_of, lookup}
use Rattle.std.specs.Option.{option_map, option_to_list}
use Rattle.std.specs.Ordering.{nat_cmp, is_gt}
use Rattle.std.specs.Str.{bytes_eq}

-- an association list from names
abbrev pub Named : Type 0 → Type 0
Named V = List (List ℕ × V)

-- the names ascend strictly
abbrev pub IsAscending : {V : Type 0} → Named V → Type 0
IsAscending refs = IsStrictlySortedBy (slice_cmp nat_cmp) (keys_of refs)

-- the name is at most each of the names of refs
abbrev pub IsLeast : {V : Type 0} → List ℕ → Named V → Type 0
IsLeast name refs = All (λ q. is_gt (slice_cmp nat_cmp name q) ≡ false) (keys_of refs)

-- new is old without its first ref, which is found, if that has this name; else found is None
abbrev pub RemovesFirst : {V : Type 0} → List ℕ → Named V → Option V → Named V → Type 0
RemovesFirst name old found new = (found ≡ lookup (bytes_eq name) old)
    × (old ≡ option_to_list (option_map (λ v. (name, v)) found) ++ new)

module _ {R : Type 0} where
  -- the refs of this name at the remotes, in order of the remotes
  abbrev pub remotes_with : Named (Named R) → List ℕ → Named R
  remotes_with remotes name = filter_map (λ remote. option_map (λ r. (remote.0, r))
      (lookup (bytes_eq name) remote.1)) remotes

  -- the ref of this name, if any, is removed from the refs of a remote, which ascend
  pub record RemovesAt (name : List ℕ) (old new : List ℕ × Named R) : Type 0 where
    pub remote : new.0 ≡ old.0
    pub refs : RemovesFirst name old.1 (lookup (bytes_eq name) old.1) new.1
    pub ascending : IsAscending old.1

module _ {T R : Type 0} where
  -- the row of a local ref and remote refs; None if there is neither
  abbrev pub join_of : Option T → Named R → Option (Option T × Named R)
  join_of None [] = None
  join_of None (r ∷ rs) = Some (None, r ∷ rs)
  join_of (Some t) rs = Some (Some t, rs)

  -- the row of a name
  abbrev pub join_at : Named T → Named (Named R) → List ℕ → Option (Option T × Named R)
  join_at locals remotes name =
      join_of (lookup (bytes_eq name) locals) (remotes_with remotes name)

  -- rows is the full outer join: rows in ascending order of names, one for each name that has a
  -- local or a remote ref
  pub record IsViewJoin (locals : Named T) (remotes : Named (Named R))
      (rows : Named (Option T × Named R)) : Type 0 where
    pub ascending : IsAscending rows
    pub at_each : (name : List ℕ) → lookup (bytes_eq name) rows ≡ join_at locals remotes name

  -- the least name of the join, or None if there are no refs
  abbrev pub IsFirstName : Named T → Named (Named R) → Option (List ℕ) → Type 0
  IsFirstName locals remotes first = MatchOption first
      ((locals ≡ []) × All (λ remote. remote.1 ≡ []) remotes)
      (λ name. IsSome (join_at locals remotes name) × IsLeast name locals
      × All (λ remote. IsLeast name remote.1) remotes)

-- the least name of the refs of remotes, or None if there are none
abbrev pub IsFirstOfRemotes : {R : Type 0} → Named (Named R) → Option (List ℕ) → Type 0
IsFirstOfRemotes remotes first = IsFirstName {T = Unit {0}} [] remotes first
