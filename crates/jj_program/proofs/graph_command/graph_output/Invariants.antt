-- The output has the lines of the requests so far.
use Rattle.std.proofs.Common.{map, take}
use Rattle.std.specs.Prelude.{string_bytes}
use Rattle.jj_dag.specs.Graph.{Graph}
use Rattle.jj_program.specs.ListedGraphs.{Represents}
use Rattle.jj_program.specs.Lines.{AreLinesOf}
use Rattle.jj_program.specs.GraphCommand.{IsGraphLine}
use Rattle.jj_program.specs.GraphViews.{graph_request_of}
use Rattle.jj_program.proofs.graph_command.graph_output.Given as goal

abbrev pub invariant-loop-request : goal.invariant-loop-request
invariant-loop-request l = (shown : Graph) → Represents l.graph shown → AreLinesOf (IsGraphLine shown) (map graph_request_of (take l.request-index l.request-items)) (string_bytes l.output)
