-- Sets of one prefix, and of one pattern.
use Rattle.std.proofs.Common.{◌≡◌, true, false, zero, suc, List, [], ◌∷◌, ◌++◌, refl, sym, subst, arith}
use Rattle.std.specs.Prelude.{◌↔◌}
use Rattle.std.specs.List.{Any}
use Rattle.jj_paths.specs.Paths.{IsBelow, Name, Path, path_string}
use Rattle.jj_globs.specs.GlobMeaning.{GlobSpec, IsMatch}
use Rattle.jj_matchers.specs.PathLists.{has_prefix}
use Rattle.jj_matchers.specs.Patterns.{IsAccepted, Patterns, is_accepted}

-- some element of a list of one
module _ {X : Type 0} (P : X → Type 0) (x : X) where
  pub any_one : Any P (x ∷ []) → P x
  any_one (zero, y, below, is, holds) = subst P (sym is) holds
  any_one (suc k, y, below, is, holds) = absurd (omega arith)

  pub one_any : P x → Any P (x ∷ [])
  one_any holds = (0, x, omega arith, refl, holds)

-- the prefixes have exactly the paths at or below one path
abbrev pub HasBelow : List Path → Path → Type 0
HasBelow prefixes base = (path : Path) → (has_prefix prefixes path ≡ true) ↔ Any (IsBelow path) (base ∷ [])

pub one_prefix : (prefixes : List Path) (base path : Path) → HasBelow prefixes base → (has_prefix prefixes path ≡ true) ↔ IsBelow path base
one_prefix prefixes base path has = (
  λ accepted. any_one (IsBelow path) base ((has path).0 accepted),
  λ below. (has path).1 (one_any (IsBelow path) base below),
)

-- the path is below the directory, and the glob matches the rest
abbrev pub LiesBelow : Path → GlobSpec → Path → Type 0
LiesBelow dir glob path = (name : Name) × (rest : Path) × (path ≡ dir ++ name ∷ rest)
    × IsMatch glob (path_string (name ∷ rest))

-- the set of one pattern
abbrev pub one_pattern : Path → GlobSpec → Patterns
one_pattern dir glob = record { prefix_paths = false; patterns = (dir, glob) ∷ [] }

-- the set has exactly the paths that the other set's patterns match
abbrev pub HasMatchesOf : Patterns → Patterns → Type 0
HasMatchesOf own set = (path : Path) → (is_accepted own path ≡ true) ↔ IsAccepted set path

pub accepts_one : (set : Patterns) (dir : Path) (glob : GlobSpec) (path : Path) → HasMatchesOf set (one_pattern dir glob)
    → (is_accepted set path ≡ true) ↔ LiesBelow dir glob path
accepts_one set dir glob path accepts =
    let Below : Path × GlobSpec → Type 0 = λ pattern. LiesBelow pattern.0 pattern.1 path in (
      (λ accepted. any_one Below (dir, glob) ((accepts path).0 accepted)),
      (λ below. (accepts path).1 (one_any Below (dir, glob) below)),
    )
