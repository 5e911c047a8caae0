-- The components so far are a common prefix, and `left` stores the paths after it.
use Rattle.std.proofs.Common.{◌≡◌, ◌++◌, ◌∷◌, [], List, ℕ, MatchOption}
use Rattle.std.specs.Path.{path_bytes, path_components, components_remaining}
use Rattle.jj_files.proofs.file_util.path_components.strip_common_prefix.Given as goal

abbrev pub invariant-loop-ours : goal.invariant-loop-ours
invariant-loop-ours l = (prefix : List (List ℕ))
    × (path_components l.from ≡ prefix ++ components_remaining l.from_left)
    × (path_components l.to ≡ prefix ++ components_remaining l.to_left)
    × MatchOption l.left (prefix ≡ [])
    (λ left. (first : List ℕ) × (rest : List (List ℕ)) × (prefix ≡ first ∷ rest)
    × (path_components (path_bytes left.0) ≡ components_remaining l.from_left)
    × (path_components (path_bytes left.1) ≡ components_remaining l.to_left))
