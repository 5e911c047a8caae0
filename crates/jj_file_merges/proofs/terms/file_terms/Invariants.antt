use Rattle.std.proofs.Common.{take}
use Rattle.jj_file_merges.specs.FileTerms.{AreFiles}
use Rattle.jj_file_merges.proofs.terms.file_terms.Given as goal

abbrev pub invariant-loop-value : goal.invariant-loop-value
invariant-loop-value l = AreFiles (take l.value-index l.values) l.terms.items
