-- The fields so far and those of the remaining line are those of the whole line.
use Rattle.std.proofs.Common.{◌≡◌, ◌++◌, ◌+◌, ◌-◌, ◌≤◌, length, drop}
use Rattle.std.specs.List.{position_or_len}
use Rattle.std.specs.Str.{IsCharBoundary}
use Rattle.jj_program.specs.Lines.{texts_of}
use Rattle.jj_program.proofs.LineFields.{first_fields_of, is_lf}
use Rattle.jj_program.proofs.lines.split_line.Given as goal

abbrev pub invariant-loop-start : goal.invariant-loop-start
invariant-loop-start l = record {
  within : l.start ≤ length l.text;
  boundary : IsCharBoundary l.text l.start;
  fields : texts_of l.fields.items ++ first_fields_of (drop l.start l.text) ≡ first_fields_of l.text;
  place : l.start + position_or_len is_lf (drop l.start l.text) ≡ position_or_len is_lf l.text;
}

abbrev pub decreases-loop-start : goal.decreases-loop-start
decreases-loop-start l = length l.text - l.start
