-- The keys and the entries of sets and maps of numbers.
-- Machinery of private functions and fields.
use Rattle.std.specs.Prelude.{ℕ, List}
use Rattle.jj_dag.specs.declared.number_set.NumberMap.{NumberMap}
use Rattle.jj_dag.specs.declared.number_set.NumberMap.TheVariants as map
use Rattle.jj_dag.specs.declared.number_set.NumberSet.{NumberSet}
use Rattle.jj_dag.specs.declared.number_set.NumberSet.TheVariants as set

-- the numbers in a set, whichever representation it has
abbrev pub keys_of : NumberSet → List ℕ
keys_of (set.Dense s) = s
keys_of (set.Hashed s) = s.keys

-- the entries of a map, whichever representation it has
abbrev pub entries_of : {V : Type 0} → NumberMap V → List (ℕ × V)
entries_of (map.Dense m) = m.entries.items
entries_of (map.Hashed m) = m.entries
