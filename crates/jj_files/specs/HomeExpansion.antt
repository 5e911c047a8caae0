-- Expansion of `~/`.
-- Cited by contracts of public items: expand_home.
use Rattle.std.specs.Prelude.{ℕ, if◌then◌else◌, List, Option, Some, None, drop, codes}
use Rattle.std.specs.List.{starts_with}
use Rattle.std.specs.Prelude.{nat_eq}
use Rattle.std.specs.Path.{path_join}

-- replaces a leading `~/` by the home directory, if there is one
abbrev pub expand_home : Option (List ℕ) → List ℕ → List ℕ
expand_home None path = path
expand_home (Some home) path =
    if starts_with nat_eq path (codes "~/") then path_join home (drop 2 path) else path
