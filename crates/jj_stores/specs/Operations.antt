-- The content bytes of operations, field by field, and the root operation.
-- Cited by contracts of public items: IsMetadata, IsOperation, IsRange, IsRootOperation,
-- metadata_content, operation_content, range_content.
use Rattle.std.specs.Prelude.{◌≡◌, ℕ, pos, false, List, [], ◌++◌, None, IsSomeAnd, string_bytes, string_cmp}
use Rattle.std.specs.BTreeMap.{BTreeMap, IsOrdered}
use Rattle.std.specs.Cmp.Lexicographic.{slice_cmp}
use Rattle.std.specs.List.Sorted.{IsStrictlySortedBy}
use Rattle.std.specs.Map.{keys_of}
use Rattle.std.specs.Ordering.{nat_cmp}
use Rattle.std.specs.declared.string.String.{String}
use Rattle.std.specs.declared.vec.Vec.{Vec}
use Rattle.jj_content.specs.Content.{AreValues, IsOptionOf, bool_content, list_content, string_content, option_content, entry_content}
use Rattle.jj_backend.specs.Contents.{AreBytes, bytes_content, IsText, IsTimestamp, timestamp_content}
use Rattle.jj_backend.specs.declared.backend.timestamp.Timestamp.{Timestamp}
use Rattle.jj_stores.specs.declared.op_store.operation.Operation.{Operation}
use Rattle.jj_stores.specs.declared.op_store.operation.OperationMetadata.{OperationMetadata}
use Rattle.jj_stores.specs.declared.op_store.operation.TimestampRange.{TimestampRange}

-- ---- time ranges

-- both times of the range are valid
abbrev pub IsRange : TimestampRange → Type 0
IsRange range = IsTimestamp range.start × IsTimestamp range.end

-- the content of a time range: its start, then its end
abbrev pub range_content : TimestampRange → List ℕ
range_content range = timestamp_content range.start ++ timestamp_content range.end

-- ---- metadata: time and description; host and user; snapshot flag, workspace and attributes

-- the time and the description are valid
abbrev pub IsEvent : OperationMetadata → Type 0
IsEvent m = IsRange m.time × IsText (string_bytes m.description)

-- the content of the time and the description
abbrev pub event_content : OperationMetadata → List ℕ
event_content m = range_content m.time ++ string_content (string_bytes m.description)

-- the host and the user are valid strings
abbrev pub IsAgent : OperationMetadata → Type 0
IsAgent m = IsText (string_bytes m.hostname) × IsText (string_bytes m.username)

-- the content of the host and the user
abbrev pub agent_content : OperationMetadata → List ℕ
agent_content m =
    string_content (string_bytes m.hostname) ++ string_content (string_bytes m.username)

-- `A` is the allocator of the strings and lists
module _ {A : Type 0} where
  -- the names of the attributes strictly ascend, and all are valid strings
  abbrev pub AreAttributes : List (String A × String A) → Type 0
  AreAttributes entries = IsStrictlySortedBy string_cmp (keys_of entries)
      × AreValues (λ e. IsText (string_bytes e.0) × IsText (string_bytes e.1)) entries

  -- the content of the attributes: the list of the entries
  abbrev pub attributes_content : List (String A × String A) → List ℕ
  attributes_content = list_content (entry_content (λ s. string_content (string_bytes s))
      (λ s. string_content (string_bytes s)))

-- the workspace's name and the attributes are valid
abbrev pub IsContext : OperationMetadata → Type 0
IsContext m = Unit {0} × (IsOptionOf IsText m.workspace_name × AreAttributes m.attributes.entries)

-- the content of the snapshot flag, the workspace's name and the attributes
abbrev pub context_content : OperationMetadata → List ℕ
context_content m = bool_content m.is_snapshot
    ++ (option_content string_content m.workspace_name ++ attributes_content m.attributes.entries)

-- the metadata are valid
abbrev pub IsMetadata : OperationMetadata → Type 0
IsMetadata m = IsEvent m × (IsAgent m × IsContext m)

-- the content of metadata
abbrev pub metadata_content : OperationMetadata → List ℕ
metadata_content m = event_content m ++ (agent_content m ++ context_content m)

-- ---- operations

-- predecessors by commit id
module _ {A : Type 0} where
  abbrev pub ArePredecessors : BTreeMap (List ℕ) (Vec (List ℕ) A) → Type 0
  ArePredecessors m = IsOrdered (slice_cmp nat_cmp) m
      × AreValues (λ e. AreBytes e.0 × AreValues AreBytes e.1.items) m.entries

  abbrev pub predecessors_content : BTreeMap (List ℕ) (Vec (List ℕ) A) → List ℕ
  predecessors_content m = list_content (entry_content bytes_content
      (λ ids. list_content bytes_content ids.items)) m.entries

-- the view and the parents; the metadata and the predecessors
abbrev pub AreLinks : Operation → Type 0
AreLinks o = AreBytes o.view_id × AreValues AreBytes o.parents.items

-- the content of the view's id and the parents
abbrev pub links_content : Operation → List ℕ
links_content o = bytes_content o.view_id ++ list_content bytes_content o.parents.items

-- the metadata and the predecessors are valid
abbrev pub AreDetails : Operation → Type 0
AreDetails o = IsMetadata o.metadata × IsOptionOf ArePredecessors o.commit_predecessors

-- the content of the metadata and the predecessors
abbrev pub details_content : Operation → List ℕ
details_content o = metadata_content o.metadata
    ++ option_content predecessors_content o.commit_predecessors

-- the operation is a valid one
abbrev pub IsOperation : Operation → Type 0
IsOperation o = AreLinks o × AreDetails o

-- the content of an operation
abbrev pub operation_content : Operation → List ℕ
operation_content o = links_content o ++ details_content o

-- ---- the root operation: no parents, empty metadata at the Unix epoch, and no predecessors

-- the Unix epoch, in UTC
abbrev pub beginning : Timestamp
beginning = record { timestamp = record { 0 = pos 0 }; tz_offset = pos 0 }

-- the operation is the root operation: it has this view and no parents
pub record IsRootOperation (view_id : List ℕ) (o : Operation) : Type 0 where
  pub view : o.view_id ≡ view_id
  pub parents : o.parents.items ≡ []
  pub start : o.metadata.time.start ≡ beginning
  pub end : o.metadata.time.end ≡ beginning
  pub description : string_bytes o.metadata.description ≡ []
  pub hostname : string_bytes o.metadata.hostname ≡ []
  pub username : string_bytes o.metadata.username ≡ []
  pub is_snapshot : o.metadata.is_snapshot ≡ false
  pub workspace_name : o.metadata.workspace_name ≡ None
  pub attributes : o.metadata.attributes.entries ≡ []
  pub predecessors : IsSomeAnd o.commit_predecessors (λ m. m.entries ≡ [])
