-- Association lists from ids as finite maps, and sets of ids.
-- Cited by contracts of public items: by_id, has_id, is_kept.
use Rattle.std.specs.Prelude.{◌≡◌, ℕ, ◌⊎◌, ◌&&◌, ◌||◌, Bool, true, false, List, ◌++◌, Some, None, if◌then◌else◌, not, nat_eq}
use Rattle.std.specs.BTreeSet.{BTreeSet, contains}
use Rattle.std.specs.Cmp.Lexicographic.{slice_cmp}
use Rattle.std.specs.List.{starts_with}
use Rattle.std.specs.Map.{lookup}
use Rattle.std.specs.Ordering.{nat_cmp}
use Rattle.std.specs.Str.{bytes_eq}
use Rattle.jj_backend.specs.Objects.{ById}
use Rattle.jj_backend.specs.declared.backend.timestamp.MillisSinceEpoch.{MillisSinceEpoch}
use Rattle.jj_content.specs.Hex.{hex}
use Rattle.jj_stores.specs.OpStores.{Times, is_newer}
use Rattle.jj_stores.specs.declared.op_store.operation.Operation.{Operation}

-- the map of an association list
unfoldable pub by_id : {V : Type 0} → List (List ℕ × V) → ById V
by_id entries = λ id. lookup (bytes_eq id) entries

-- the prefix matches the id, which is not the first one
abbrev pub is_other_match : List ℕ → List ℕ → List ℕ → Bool
is_other_match prefix id other =
    not (bytes_eq other id) && starts_with nat_eq (hex other) prefix

-- the set has the id
abbrev pub has_id : BTreeSet (List ℕ) → List ℕ → Bool
has_id ids id = contains (slice_cmp nat_cmp) ids id

-- the id is marked, or newer than the time
abbrev pub is_kept : BTreeSet (List ℕ) → Times → MillisSinceEpoch → List ℕ → Bool
is_kept marked times time id = has_id marked id || is_newer times time id

-- ---- the mark phase

-- the set gains the id
abbrev pub Adds : (List ℕ → Bool) → (List ℕ → Bool) → List ℕ → Type 0
Adds old new id = (q : List ℕ) → new q ≡ (if bytes_eq id q then true else old q)

-- Nothing changes, if the operation is marked already or missing; or it is marked now, its view is,
-- and its parents are pending.
abbrev pub IsVisit : ById Operation → List ℕ → (pending new_pending : List (List ℕ))
    → (marked new_marked views new_views : List ℕ → Bool) → Type 0
IsVisit operations id pending new_pending marked new_marked views new_views =
    (((marked id ≡ true) ⊎ (operations id ≡ None)) × (new_pending ≡ pending)
    × ((q : List ℕ) → new_marked q ≡ marked q) × ((q : List ℕ) → new_views q ≡ views q))
    ⊎ ((operation : Operation) × (operations id ≡ Some operation) × (marked id ≡ false)
    × (new_pending ≡ pending ++ operation.parents.items)
    × Adds marked new_marked id × Adds views new_views operation.view_id)
