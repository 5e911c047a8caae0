-- The model of the fallible iterator over nodes.
-- Machinery of private functions and fields.
use Rattle.std.specs.Prelude.{ℕ, List, map, Result}
use Rattle.std.specs.declared.result.Result.TheVariants.{Ok}
use Rattle.jj_dag.specs.declared.array_graph.SoundNodes.{SoundNodes}

abbrev pub sound_left : SoundNodes → List (Result ℕ ℕ)
sound_left s = map (λ node. Ok node) s.nodes.now
