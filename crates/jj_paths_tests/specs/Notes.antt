-- The note and the count that a tree has at a path.
-- Cited by contracts of public items: count_at, note_at.
use Rattle.std.specs.Prelude.{ℕ, Option, String, unwrap_or}
use Rattle.std.specs.Global.{Global}
use Rattle.std.specs.Option.{option_and_then}
use Rattle.jj_paths.specs.Paths.{Path}
use Rattle.jj_paths.specs.Tree.{Tree, value_at}

-- the note at a path, and none if there is no node or the node has none
abbrev pub note_at : Tree (Option (String Global)) → Path → Option (String Global)
note_at notes path = option_and_then (λ note. note) (value_at notes path)

-- the count at a path, and 0 if there is no node
abbrev pub count_at : Tree ℕ → Path → ℕ
count_at counts path = unwrap_or (value_at counts path) 0
