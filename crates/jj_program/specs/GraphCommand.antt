-- The command `graph`: adjacency lists, and requests for the topological order, the heads or the
-- closest common nodes of some ids.
-- Cited by contracts of public items through LineFaults, Program.
use Rattle.std.specs.Prelude.{◌≡◌, ◌⊎◌, ℕ, ◌==◌, List, [], ◌∷◌, ◌++◌, if◌then◌else◌, codes, map, Option, Some, None, is_some, unwrap_or, Result, Ok, Err, ◌^◌, Bool, ◌&&◌, nat_lt}
use Rattle.std.specs.Str.Parse.{digits_value}
use Rattle.std.specs.Fmt.{decimal}
use Rattle.std.specs.List.Sorted.{IsStrictlyIncreasing}
use Rattle.jj_dag.specs.Graph.{Graph, StrictlyReaches, IsGreatestTopologicalOrder, AreMaximalElements}
use Rattle.jj_dag.specs.CommonNodes.{AreClosestCommon}
use Rattle.jj_program.specs.declared.fault.Fault.{Fault}
use Rattle.jj_program.specs.declared.fault.LineFault.{LineFault}
use Rattle.jj_program.specs.declared.fault.LineFault.TheVariants.{BadNumber, RepeatedNode}
use Rattle.jj_program.specs.declared.graph_command.GraphForm.{GraphForm}
use Rattle.jj_program.specs.declared.graph_command.GraphForm.TheVariants.{Node, Order as Order', Heads as Heads', Common as Common'}
use Rattle.jj_program.specs.declared.graph_command.TheConstants.{GRAPH_FORMS}
use Rattle.jj_program.specs.Forms.{Kind, line_of, table}
use Rattle.jj_program.specs.Lines.{AreLinesOf, line_text, lines_of, after_lines, result_and_then}
use Rattle.std.specs.Str.{bytes_eq}

-- a request
pub data GraphRequest : Type 0 where
  Order : List ℕ → GraphRequest
  Heads : List ℕ → GraphRequest
  Common : List ℕ → List ℕ → GraphRequest

-- the adjacency lists so far by id, and the requests
pub record GraphState : Type 0 where
  pub listed : ℕ → Option (List ℕ)
  pub requests : List GraphRequest

-- the string is the canonical decimal form of a number below 2^64
abbrev pub is_number : List ℕ → Bool
is_number text = nat_lt (digits_value 10 text) (2 ^ 64)
    && bytes_eq (decimal (digits_value 10 text)) text

-- ids
abbrev pub number_kind : Kind ℕ
number_kind = record { is_one = is_number; value_of = digits_value 10; otherwise = BadNumber }

-- adds the adjacency list of the first id, unless the node has one
abbrev pub with_node : GraphState → List ℕ → Result GraphState LineFault
with_node state [] = Ok state
with_node state (id ∷ neighbors) = if is_some (state.listed id) then Err RepeatedNode
    else Ok (record {
      listed = λ other. if id == other then Some neighbors else state.listed other;
      requests = state.requests;
    })

-- appends a request
abbrev pub with_request : GraphState → GraphRequest → Result GraphState LineFault
with_request state request =
    Ok (record { listed = state.listed; requests = state.requests ++ request ∷ [] })

-- the transition by an action
abbrev pub graph_act : GraphState → GraphForm → (first second : List ℕ)
    → Result GraphState LineFault
graph_act state Node first second = with_node state first
graph_act state Order' first second = with_request state (Order first)
graph_act state Heads' first second = with_request state (Heads first)
graph_act state Common' first second = with_request state (Common first second)

-- the action and the ids of a line
abbrev pub graph_line : List (List ℕ) → Result (GraphForm × List ℕ × List ℕ) LineFault
graph_line = line_of number_kind number_kind (table GRAPH_FORMS)

-- the transition at a line
abbrev pub graph_step : GraphState → List (List ℕ) → Result GraphState LineFault
graph_step state fields =
    result_and_then (graph_line fields) (λ line. graph_act state line.0 line.1 line.2)

-- the state after a whole input, or its first fault
abbrev pub graph_state : List ℕ → Result GraphState Fault
graph_state text =
    after_lines graph_step 1 (record { listed = λ id. None; requests = [] }) (lines_of text)

-- the graph of the adjacency lists; a node without one has no neighbors
abbrev pub graph_of : (ℕ → Option (List ℕ)) → Graph
graph_of listed id = unwrap_or (listed id) []

-- some node is strictly reachable from itself
abbrev pub HasCycle : Graph → Type 0
HasCycle graph = (id : ℕ) × StrictlyReaches graph id id

-- a line of numbers
abbrev pub numbers_line : List ℕ → List ℕ → List ℕ
numbers_line name ids = line_text name (map decimal ids)

-- the line of a request on an acyclic graph
abbrev pub IsLineOfRequest : Graph → GraphRequest → List ℕ → Type 0
IsLineOfRequest graph (Order ids) line = (order : List ℕ)
    × IsGreatestTopologicalOrder graph ids order × (line ≡ numbers_line (codes "order") order)
IsLineOfRequest graph (Heads ids) line = (heads : List ℕ) × AreMaximalElements graph ids heads
    × IsStrictlyIncreasing heads × (line ≡ numbers_line (codes "heads") heads)
IsLineOfRequest graph (Common set1 set2) line = (common : List ℕ)
    × AreClosestCommon graph set1 set2 common × IsStrictlyIncreasing common
    × (line ≡ numbers_line (codes "common") common)

-- the line of a request: `cycle` if the graph has one anywhere
abbrev pub IsGraphLine : Graph → GraphRequest → List ℕ → Type 0
IsGraphLine graph request line = (HasCycle graph × (line ≡ line_text (codes "cycle") []))
    ⊎ ((¬ HasCycle graph) × IsLineOfRequest graph request line)

-- the output has one line per request, on the graph of the whole input; or the input has this fault
abbrev pub IsGraphResult : List ℕ → Result (List ℕ) Fault → Type 0
IsGraphResult text (Ok output) = (state : GraphState) × (graph_state text ≡ Ok state)
    × AreLinesOf (IsGraphLine (graph_of state.listed)) state.requests output
IsGraphResult text (Err fault) = graph_state text ≡ Err fault
