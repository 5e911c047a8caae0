-- The contents of operations and their metadata, composed of those of their fields.
-- Cited by contracts of public items: MetadataContents, OperationContents, RangeContents,
-- metadata_contents, operation_contents, range_contents.
use Rattle.std.specs.Prelude.{ℕ, List, string_bytes, string_cmp, ⊤}
use Rattle.std.proofs.Common.{Global}
use Rattle.std.specs.Ordering.{nat_cmp}
use Rattle.std.specs.Cmp.Lexicographic.{slice_cmp}
use Rattle.std.specs.declared.string.String.{String}
use Rattle.std.specs.declared.vec.Vec.{Vec}
use Rattle.jj_content.specs.Content.{AreValues, bool_content, list_content, string_content}
use Rattle.jj_content.specs.PrefixFreeProofs.{list_lawful, on_lawful}
use Rattle.jj_decode.specs.Contents.{AreContents, IsContentOf, BothContents, ListContents, OptionContents, MapContents}
use Rattle.jj_decode.specs.ContentsProofs.{contents_on, both_contents, list_contents, option_contents, map_contents, bool_contents, string_contents}
use Rattle.jj_backend.specs.Contents.{AreBytes, bytes_content, IsText}
use Rattle.jj_backend.specs.RecordLaws.{bytes_lawful, text_lawful}
use Rattle.jj_decode.specs.RecordContents.{StringContents, BytesContents, bytes_contents, TimestampContents, timestamp_contents}
use Rattle.jj_stores.specs.Operations.{IsRange, range_content, IsEvent, event_content, IsAgent, agent_content, IsContext, context_content, AreAttributes, attributes_content, IsMetadata, metadata_content, ArePredecessors, predecessors_content, AreLinks, links_content, AreDetails, details_content, IsOperation, operation_content}

-- ---- time ranges

-- the contents of time ranges
abbrev pub RangeContents : List ℕ → Type 0
RangeContents = BothContents TimestampContents TimestampContents

pub range_contents : AreContents IsRange range_content RangeContents
range_contents = contents_on (λ range. (range.start, range.end))
    (both_contents timestamp_contents timestamp_contents)

-- ---- metadata: time and description; host and user; snapshot flag, workspace and attributes

-- the contents of the times and descriptions of metadata
abbrev pub EventContents : List ℕ → Type 0
EventContents = BothContents RangeContents StringContents

event_contents : AreContents IsEvent event_content EventContents
event_contents = contents_on (λ m. (m.time, string_bytes m.description))
    (both_contents range_contents string_contents)

-- the contents of the hosts and users of metadata
abbrev pub AgentContents : List ℕ → Type 0
AgentContents = BothContents StringContents StringContents

agent_contents : AreContents IsAgent agent_content AgentContents
agent_contents = contents_on (λ m. (string_bytes m.hostname, string_bytes m.username))
    (both_contents string_contents string_contents)

-- the contents of attributes
abbrev pub AttributesContents : List ℕ → Type 0
AttributesContents = MapContents {K = String Global} {V = String Global} string_cmp
    (λ s. IsText (string_bytes s)) (λ s. string_content (string_bytes s))
    (λ s. IsText (string_bytes s)) (λ s. string_content (string_bytes s))

attributes_contents : AreContents (AreAttributes {A = Global}) (attributes_content {A = Global})
    AttributesContents
attributes_contents = map_contents string_cmp (on_lawful string_bytes text_lawful)
    (on_lawful string_bytes text_lawful)

-- the contents of the snapshot flags, workspaces and attributes of metadata
abbrev pub ContextContents : List ℕ → Type 0
ContextContents = BothContents (IsContentOf (λ _. ⊤) bool_content)
    (BothContents (OptionContents StringContents) AttributesContents)

context_contents : AreContents IsContext context_content ContextContents
context_contents = contents_on (λ m. (m.is_snapshot, (m.workspace_name, m.attributes.entries)))
    (both_contents bool_contents
    (both_contents (option_contents string_contents) attributes_contents))

-- the contents of metadata
abbrev pub MetadataContents : List ℕ → Type 0
MetadataContents = BothContents EventContents (BothContents AgentContents ContextContents)

pub metadata_contents : AreContents IsMetadata metadata_content MetadataContents
metadata_contents = contents_on (λ m. (m, (m, m)))
    (both_contents event_contents (both_contents agent_contents context_contents))

-- ---- operations: the view and the parents; the metadata and the predecessors

-- the contents of the predecessors of operations
abbrev pub PredecessorsContents : List ℕ → Type 0
PredecessorsContents = MapContents {K = List ℕ} {V = Vec (List ℕ) Global} (slice_cmp nat_cmp)
    AreBytes bytes_content
    (λ ids. AreValues AreBytes ids.items) (λ ids. list_content bytes_content ids.items)

predecessors_contents : AreContents (ArePredecessors {A = Global})
    (predecessors_content {A = Global}) PredecessorsContents
predecessors_contents = contents_on (λ m. m.entries) (map_contents (slice_cmp nat_cmp) bytes_lawful
    (on_lawful (λ ids. ids.items) (list_lawful bytes_lawful)))

-- the contents of the views and parents of operations
abbrev pub LinksContents : List ℕ → Type 0
LinksContents = BothContents BytesContents (ListContents BytesContents)

links_contents : AreContents AreLinks links_content LinksContents
links_contents = contents_on (λ o. (o.view_id, o.parents.items))
    (both_contents bytes_contents (list_contents bytes_contents))

-- the contents of the metadata and predecessors of operations
abbrev pub DetailsContents : List ℕ → Type 0
DetailsContents = BothContents MetadataContents (OptionContents PredecessorsContents)

details_contents : AreContents AreDetails details_content DetailsContents
details_contents = contents_on (λ o. (o.metadata, o.commit_predecessors))
    (both_contents metadata_contents (option_contents predecessors_contents))

-- the contents of operations
abbrev pub OperationContents : List ℕ → Type 0
OperationContents = BothContents LinksContents DetailsContents

pub operation_contents : AreContents IsOperation operation_content OperationContents
operation_contents = contents_on (λ o. (o, o)) (both_contents links_contents details_contents)
