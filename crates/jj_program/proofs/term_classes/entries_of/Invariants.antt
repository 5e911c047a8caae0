-- The entries of the terms so far.
use Rattle.std.proofs.Common.{◌≡◌, All, map}
use Rattle.std.specs.List.{range_with_len}
use Rattle.jj_program.specs.TermClasses.{IsEntryOf, index_of}
use Rattle.jj_program.proofs.term_classes.entries_of.Given as goal

abbrev pub invariant-loop-index : goal.invariant-loop-index
invariant-loop-index l = All (IsEntryOf l.terms) l.entries.items × (map index_of l.entries.items ≡ range_with_len 0 l.index)
