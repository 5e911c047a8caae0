-- Sums over contents that a merge keeps.
-- Cited by contracts of public items: IsAdditive.
use Rattle.std.specs.Prelude.{◌≡◌, ℕ, ◌+◌, List, [], ◌++◌}

-- f of a concatenation is the sum of f of its parts, as the number of LFs is
pub record IsAdditive (f : List ℕ → ℕ) : Type 0 where
  pub empty : f [] ≡ 0
  pub append : (xs ys : List ℕ) → f (xs ++ ys) ≡ f xs + f ys
