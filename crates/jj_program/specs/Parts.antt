-- Adjacency lists as parts of one array, and dense numbers of ids.
-- Machinery of private functions and fields.
use Rattle.std.specs.Prelude.{◌≡◌, ◌<◌, ◌≤◌, ℕ, List, [], Option, Some, None, ◌+◌, suc, if◌then◌else◌, length, nat_lt, slice_index, slice_index_or}
use Rattle.std.specs.BTreeMap.{BTreeMap, get}
use Rattle.std.specs.List.{Contains, sum_by}
use Rattle.std.specs.Ordering.{nat_cmp}

-- 1. Parts, by a table of the ids below a limit and a map of the others.

-- where the list of a node starts and ends
abbrev pub Part : Type 0
Part = ℕ × ℕ

-- the part of an entry of the table, which has none if it would end before it starts
abbrev pub entry_part : Part → Option Part
entry_part entry = if nat_lt entry.1 entry.0 then None else Some entry

-- the part of an id
abbrev pub part_in : ℕ → List Part → BTreeMap ℕ Part → ℕ → Option Part
part_in limit table others id =
    if nat_lt id limit then entry_part (slice_index_or table id (1, 0)) else get nat_cmp others id

-- each part starts before it ends, and ends within an array of this length
abbrev pub AreParts : (ℕ → Option Part) → ℕ → Type 0
AreParts part_of n = (id : ℕ) (part : Part) → part_of id ≡ Some part
    → (part.0 ≤ part.1) × (part.1 ≤ n)

-- 2. Numbers.

-- edges of the graph of these lists are between numbers of these ids
abbrev pub AreWithin : List ℕ → List (List ℕ) → Type 0
AreWithin ids lists = (a b : ℕ) → Contains (slice_index_or lists a []) b
    → (a < length ids) × (b < length ids)

-- the number of an id in a sorted list
abbrev pub IsNumberOf : List ℕ → ℕ → ℕ → Type 0
IsNumberOf ids id number = (number < length ids) × (slice_index ids number ≡ id)

-- the id of a number; out of range, an id that is above all in the list
abbrev pub id_of : List ℕ → ℕ → ℕ
id_of ids number =
    if nat_lt number (length ids) then slice_index ids number
    else suc (sum_by (λ id. id) ids + number)
