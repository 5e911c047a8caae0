-- State of `IntoIter`.
-- Cited by contracts of public items: remaining_terms.
use Rattle.std.specs.Prelude.{List}
use Rattle.std.specs.Option.{option_to_list}
use Rattle.std.specs.Vec.Iter.{into_iter_items}
use Rattle.jj_merges.specs.declared.merge.into_iter.Remaining.{Remaining}
use Rattle.jj_merges.specs.declared.merge.into_iter.Remaining.TheVariants.{Inline, Heap}

module _ {T : Type 0} where
  -- the terms that are not yet yielded
  abbrev pub remaining_terms : Remaining T → List T
  remaining_terms (Inline value) = option_to_list value
  remaining_terms (Heap values) = into_iter_items values
