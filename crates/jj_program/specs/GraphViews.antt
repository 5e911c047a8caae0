-- The models of adjacency lists and of the state of `graph`.
-- Machinery of private functions and fields.
use Rattle.std.specs.Prelude.{◌≡◌, ◌≢◌, ◌<◌, ℕ, ◌++◌, List, Option, length, slice_index, unwrap_or, map}
use Rattle.std.specs.Option.{option_map}
use Rattle.std.specs.List.{slice_range}
use Rattle.jj_program.specs.declared.edges.Edges.{Edges}
use Rattle.jj_program.specs.Parts.{Part, part_in}
use Rattle.jj_program.specs.declared.graph_command.GraphRequest.{GraphRequest as GraphRequestValue}
use Rattle.jj_program.specs.declared.graph_command.GraphRequest.TheVariants.{Order as Order', Heads as Heads', Common as Common'}
use Rattle.jj_program.specs.declared.graph_command.GraphReading.{GraphReading}
use Rattle.jj_program.specs.GraphCommand.{GraphRequest, Order, Heads, Common, GraphState}

-- the adjacency list of an id
abbrev pub listed_by : Edges → ℕ → Option (List ℕ)
listed_by edges id = option_map (λ part. slice_range edges.targets.items part.0 part.1)
    (part_in edges.limit edges.table.items edges.others id)

-- where it starts and ends among the targets; an empty part for an id without a list
abbrev pub part_at : Edges → ℕ → Part
part_at edges id = unwrap_or (part_in edges.limit edges.table.items edges.others id) (0, 0)

-- a request
abbrev pub graph_request_of : GraphRequestValue → GraphRequest
graph_request_of (Order' ids) = Order ids.items
graph_request_of (Heads' ids) = Heads ids.items
graph_request_of (Common' set1 set2) = Common set1.items set2.items

-- the ids of a request
abbrev pub ids_of : GraphRequest → List ℕ
ids_of (Order ids) = ids
ids_of (Heads ids) = ids
ids_of (Common set1 set2) = set1 ++ set2

-- the state after the lines so far
abbrev pub graph_state_of : GraphReading → GraphState
graph_state_of reading = record {
  listed = listed_by reading.edges;
  requests = map graph_request_of reading.requests.items;
}

-- not empty, no leading `+`, and no leading zero before another digit
abbrev pub IsPlain : List ℕ → Type 0
IsPlain text = (0 < length text) × (slice_index text 0 ≡ 48 → length text < 2)
    × (slice_index text 0 ≢ 43)
