-- Byte strings and merges of them, without their capacities.
-- Cited by contracts of public items: contents, merge_contents.
use Rattle.std.specs.Prelude.{ℕ, List, map}
use Rattle.std.proofs.Common.{Vec, Global}

-- the byte strings
abbrev pub merge_contents : List (Vec ℕ Global) → List (List ℕ)
merge_contents terms = map (λ term. term.items) terms

-- the hunks as merges of byte strings
abbrev pub contents : List (List (Vec ℕ Global)) → List (List (List ℕ))
contents hunks = map merge_contents hunks
