use Rattle.std.proofs.Common.{map, take}
use Rattle.jj_fast_import.specs.Values.{reference_value}
use Rattle.jj_import.specs.ImportStates.{AreReferences, state_of}
use Rattle.jj_import.proofs.importer.Importer.merged.Given as goal

abbrev pub invariant-loop-reference : goal.invariant-loop-reference
invariant-loop-reference l = AreReferences (state_of l.self) (map reference_value (take l.reference-index l.references)) l.ids.items
