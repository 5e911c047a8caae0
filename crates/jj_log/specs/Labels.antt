-- The labels and the names of commits.
-- Cited by contracts of public items: label_of, name_of.
use Rattle.std.specs.Prelude.{ℕ, List, [], slice_get, string_bytes}
use Rattle.std.specs.Option.{option_map_or}
use Rattle.jj_log.specs.declared.commits.Commit.{Commit}

-- the label of the commit at this index; none is the empty string
abbrev pub label_of : List Commit → ℕ → List ℕ
label_of commits n =
    option_map_or (λ c. option_map_or string_bytes c.label []) (slice_get commits n) []

-- the name of the commit at this index; none is the empty string
abbrev pub name_of : List Commit → ℕ → List ℕ
name_of commits n = option_map_or (λ c. string_bytes c.name) (slice_get commits n) []
