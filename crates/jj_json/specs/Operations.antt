-- JSON values of operations. The strings of timestamps are not determined here.
-- Cited by contracts of public items: HasDates, IsMetadataJson, IsOperationJson, IsRangeJson.
use Rattle.std.specs.Prelude.{◌≡◌, ℕ, List, Option, Some, None, fold, codes, string_bytes}
use Rattle.std.specs.declared.string.String.{String}
use Rattle.serde_json.specs.Data.{Data, null, boolean, string, object, Members, no_members, member, put}
use Rattle.jj_dates.specs.Times.{IsDate}
use Rattle.jj_json.specs.Records.{IsJsonString, ids_json}
use Rattle.jj_stores.specs.declared.op_store.operation.Operation.{Operation}
use Rattle.jj_stores.specs.declared.op_store.operation.OperationMetadata.{OperationMetadata}
use Rattle.jj_stores.specs.declared.op_store.operation.TimestampRange.{TimestampRange}

-- ---- time ranges

-- the start and the end are within the range of dates
abbrev pub HasDates : TimestampRange → Type 0
HasDates range = IsDate range.start × IsDate range.end

-- the object of the JSON values of a start and an end; the keys ascend
abbrev pub range_json : Data → Data → Data
range_json start end =
    object (member (codes "end") end (member (codes "start") start no_members))

-- value is the object of two strings, the start and the end
abbrev pub IsRangeJson : Data → Type 0
IsRangeJson value = (start : Data) × (end : Data) × IsJsonString start × IsJsonString end
    × (value ≡ range_json start end)

-- ---- metadata

-- `A` is the allocator of the strings
module _ {A : Type 0} where
  -- the members with an attribute added
  abbrev pub with_attribute : Members → String A × String A → Members
  with_attribute members e = put (string_bytes e.0) (string (string_bytes e.1)) members

  -- the members of the object of attributes
  abbrev pub attribute_members : List (String A × String A) → Members
  attribute_members = fold with_attribute no_members

  -- the object of attributes
  abbrev pub attributes_json : List (String A × String A) → Data
  attributes_json attributes = object (attribute_members attributes)

-- the name of a workspace, or null
abbrev pub workspace_json : Option (List ℕ) → Data
workspace_json None = null
workspace_json (Some name) = string name

-- the members with description, hostname and username added
abbrev pub with_strings : OperationMetadata → Members → Members
with_strings m members =
    put (codes "username") (string (string_bytes m.username))
    (put (codes "hostname") (string (string_bytes m.hostname))
    (put (codes "description") (string (string_bytes m.description)) members))

-- the members of metadata whose time range has this JSON value; the keys ascend
abbrev pub metadata_members : OperationMetadata → Data → Members
metadata_members m time =
    member (codes "attributes") (attributes_json m.attributes.entries)
    (member (codes "description") (string (string_bytes m.description))
    (member (codes "hostname") (string (string_bytes m.hostname))
    (member (codes "is_snapshot") (boolean m.is_snapshot)
    (member (codes "time") time
    (member (codes "username") (string (string_bytes m.username))
    (member (codes "workspace_name") (workspace_json m.workspace_name) no_members))))))

-- the JSON value is that of the metadata, with some strings for its times
abbrev pub IsMetadataJson : OperationMetadata → Data → Type 0
IsMetadataJson m value = (time : Data) × IsRangeJson time
    × (value ≡ object (metadata_members m time))

-- ---- operations: the members of the metadata, and the parents

-- the JSON value is that of the operation, with some strings for its times
abbrev pub IsOperationJson : Operation → Data → Type 0
IsOperationJson o value = (time : Data) × IsRangeJson time
    × (value ≡ object (put (codes "parents") (ids_json o.parents.items)
    (metadata_members o.metadata time)))
