-- The strings so far are those of the entries so far.
use Rattle.std.proofs.Common.{◌≡◌, map, take}
use Rattle.jj_program.specs.TextKeys.{text_of}
use Rattle.jj_program.proofs.text_sort.list_strings.Given as goal

abbrev pub invariant-loop-entry : goal.invariant-loop-entry
invariant-loop-entry l = l.strings.items ≡ map text_of (take l.entry-index l.entries)
