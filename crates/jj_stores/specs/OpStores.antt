-- The calls of stores of views and operations, on finite maps from ids: reads, writes, prefixes of
-- ids, and garbage collection.
-- Cited by contracts of public items: AddsEqual, FixedValues, IsKeptOperation, IsKeptView,
-- IsReachable, IsReachableView, IsResolution, LacksOthers, ReadsEqual, RemovesOthers, SetsTime,
-- is_newer, is_not_found.
use Rattle.std.specs.Prelude.{◌≡◌, ◌≢◌, int_lt, ◌⊎◌, ℕ, Bool, true, false, List, Option, None, Some, IsSome, IsSomeAnd, Result, MatchResult, nat_eq}
use Rattle.std.specs.Bool.{MatchBool}
use Rattle.std.specs.List.{Contains, starts_with}
use Rattle.std.specs.Option.{option_map_or}
use Rattle.jj_content.specs.Hex.{hex}
use Rattle.jj_ids.specs.declared.object_id.prefix_resolution.PrefixResolution.{PrefixResolution}
use Rattle.jj_ids.specs.declared.object_id.prefix_resolution.PrefixResolution.TheVariants.{NoMatch, SingleMatch, AmbiguousMatch}
use Rattle.jj_backend.specs.Objects.{ById, IsFree, put}
use Rattle.jj_backend.specs.declared.backend.timestamp.MillisSinceEpoch.{MillisSinceEpoch}
use Rattle.jj_stores.specs.declared.op_store.errors.OpStoreError.{OpStoreError}
use Rattle.jj_stores.specs.declared.op_store.errors.OpStoreError.TheVariants.{ObjectNotFound}
use Rattle.jj_stores.specs.declared.op_store.operation.Operation.{Operation}

-- the values of a store that no call changes
pub record FixedValues : Type 0 where
  pub name : List ℕ
  pub root_operation_id : List ℕ

-- no object has the id
abbrev pub is_not_found : OpStoreError → Bool
is_not_found (ObjectNotFound object_type hash source) = true
is_not_found _ = false

module _ {V : Type 0} where
  -- A read returns a value equal to the one found for the id, or ObjectNotFound only if there is
  -- none, or an error that the store may fail with.
  abbrev pub ReadsEqual : (V → V → Bool) → (OpStoreError → Type 0) → Option V
      → Result V OpStoreError → Type 0
  ReadsEqual eq may_fail found result =
      MatchResult result (λ r. IsSomeAnd found (λ v. eq r v ≡ true))
      (λ e. MatchBool (is_not_found e) (found ≡ None) (may_fail e))

  -- The new map is the old one, with the id mapped to a value equal to this one. The id was
  -- unmapped, or mapped to that value already.
  abbrev pub AddsEqual : (V → V → Bool) → ById V → ById V → List ℕ → V → Type 0
  AddsEqual eq old new id value = (stored : V) × (eq stored value ≡ true)
      × IsFree old id stored × (new ≡ put old id stored)

  -- nothing is left under other ids
  abbrev pub LacksOthers : (List ℕ → Type 0) → ById V → Type 0
  LacksOthers IsKept new = (id : List ℕ) → ¬ IsKept id → new id ≡ None

  -- only values under other ids are removed
  abbrev pub RemovesOthers : (List ℕ → Type 0) → ById V → ById V → Type 0
  RemovesOthers IsKept old new = (id : List ℕ)
      → (new id ≡ old id) ⊎ ((new id ≡ None) × ¬ IsKept id)

  -- ---- prefixes of ids

  -- the id is mapped, and its hex encoding starts with the prefix
  abbrev pub IsMatch : ById V → List ℕ → List ℕ → Type 0
  IsMatch values prefix id = IsSome (values id) × (starts_with nat_eq (hex id) prefix ≡ true)

  -- the mapped ids that the prefix matches: none, only one, or several
  abbrev pub IsResolution : ById V → List ℕ → PrefixResolution (List ℕ) → Type 0
  IsResolution values prefix NoMatch = (id : List ℕ) → ¬ IsMatch values prefix id
  IsResolution values prefix (SingleMatch id) = IsMatch values prefix id
      × ((other : List ℕ) → IsMatch values prefix other → other ≡ id)
  IsResolution values prefix AmbiguousMatch = (id : List ℕ) × (other : List ℕ) × (id ≢ other)
      × IsMatch values prefix id × IsMatch values prefix other

-- ---- reachability

-- the heads and their ancestors
pub data IsReachable (operations : ById Operation) (heads : List (List ℕ)) : List ℕ → Type 0 where
  head : {id : List ℕ} → Contains heads id → IsReachable operations heads id
  parent : {id parent_id : List ℕ} {operation : Operation} → IsReachable operations heads id
      → operations id ≡ Some operation → Contains operation.parents.items parent_id
      → IsReachable operations heads parent_id

-- the id of the view of a reachable operation
abbrev pub IsReachableView : ById Operation → List (List ℕ) → List ℕ → Type 0
IsReachableView operations heads view_id = (id : List ℕ) × (operation : Operation)
    × IsReachable operations heads id × (operations id ≡ Some operation)
    × (operation.view_id ≡ view_id)

-- ---- times of writes, and the values that survive garbage collection

-- the time of the last write of each value, by its id
abbrev pub Times : Type 0
Times = ById MillisSinceEpoch

-- the id has a new time, and each other id its old one
abbrev pub SetsTime : Times → Times → List ℕ → Type 0
SetsTime old new id = (time : MillisSinceEpoch) × (new ≡ put old id time)

-- the value with this id was written after the time
abbrev pub is_newer : Times → MillisSinceEpoch → List ℕ → Bool
is_newer times time id = option_map_or (λ written. int_lt time.0 written.0) (times id) false

-- the operation is a head, an ancestor of one, or newer than the time
abbrev pub IsKeptOperation : ById Operation → List (List ℕ) → Times → MillisSinceEpoch → List ℕ
    → Type 0
IsKeptOperation operations heads times time id =
    IsReachable operations heads id ⊎ (is_newer times time id ≡ true)

-- the view is that of a head or of an ancestor of one, or newer than the time
abbrev pub IsKeptView : ById Operation → List (List ℕ) → Times → MillisSinceEpoch → List ℕ → Type 0
IsKeptView operations heads times time id =
    IsReachableView operations heads id ⊎ (is_newer times time id ≡ true)
