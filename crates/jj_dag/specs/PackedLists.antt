-- Lists in one array, by where each starts and ends.
-- Machinery of private functions and fields.
use Rattle.std.specs.Prelude.{ℕ, List, drop, map}
use Rattle.std.specs.List.{slice_range}
use Rattle.jj_dag.specs.declared.packed_lists.PackedLists.{PackedLists}

-- the complete lists
abbrev pub lists_of : PackedLists → List (List ℕ)
lists_of packed = map (λ part. slice_range packed.numbers.items part.0 part.1) packed.parts.items

-- the list to which numbers are appended
abbrev pub open_list_of : PackedLists → List ℕ
open_list_of packed = drop packed.open_start packed.numbers.items
