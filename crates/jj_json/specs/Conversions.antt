-- The result of a conversion to JSON.
-- Cited by contracts of public items: IsJsonResult, IsJsonList.
use Rattle.std.specs.Prelude.{◌≡◌, List, Result, Ok, Err}
use Rattle.std.specs.List.{AllZip}
use Rattle.serde_json.specs.Data.{Data, array}
use Rattle.serde_json.specs.View.{view, items_of}
use Rattle.serde_json.specs.declared.value.Value.{Value}
use Rattle.jj_json.specs.declared.to_json.ToJsonError.{ToJsonError}
use Rattle.jj_json.specs.declared.to_json.ToJsonError.TheVariants.{Memory, TimestampOutOfRange}

-- Ok with the JSON value only if every timestamp has a date, TimestampOutOfRange only if one has
-- none, or Memory.
abbrev pub IsJsonResult : Type 0 → (Data → Type 0) → Result Value ToJsonError → Type 0
IsJsonResult in_range is_json (Ok value) = in_range × is_json (view value)
IsJsonResult in_range is_json (Err TimestampOutOfRange) = in_range → ⊥
IsJsonResult in_range is_json (Err Memory) = Unit {0}

-- the JSON array of the items' JSON values
abbrev pub IsJsonList : {X : Type 0} → (X → Data → Type 0) → List X → Data → Type 0
IsJsonList is_json xs d = (ds : List Data) × AllZip is_json xs ds × (d ≡ array (items_of ds))
