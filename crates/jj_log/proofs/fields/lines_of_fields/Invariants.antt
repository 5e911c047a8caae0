-- The lines so far, and those of the remaining bytes, are those of all bytes.
use Rattle.std.proofs.Common.{◌≡◌, ◌++◌, drop}
use Rattle.std.specs.Result.{result_map_both}
use Rattle.jj_log.specs.Fields.{lines_of_fields}
use Rattle.jj_log.specs.declared.fields.Place.TheVariants.{Start}
use Rattle.jj_log.proofs.fields.lines_of_fields.Given as goal

abbrev pub invariant-loop-at : goal.invariant-loop-at
invariant-loop-at l = result_map_both (λ more. l.lines.items ++ more) (λ end. end) (lines_of_fields l.place l.at (drop l.at l.input)) ≡ lines_of_fields Start 0 l.input
