-- The entries so far are those of the strings so far.
use Rattle.std.proofs.Common.{◌≡◌, All, map, take}
use Rattle.jj_program.specs.TextKeys.{IsEntry, text_of}
use Rattle.jj_program.proofs.text_sort.list_entries.Given as goal

abbrev pub invariant-loop-string : goal.invariant-loop-string
invariant-loop-string l = (map text_of l.entries.items ≡ take l.string-index l.strings) × All IsEntry l.entries.items
