-- Sorted lists of globs in which each has a link to an earlier one.
-- Machinery of private functions and fields.
use Rattle.std.specs.Prelude.{◌≡◌, ℕ, Bool, true, false, ◌&&◌, List, ◌∷◌, ◌++◌, drop, length, map, nat_eq, nat_lt}
use Rattle.std.specs.List.{list_all, list_any, starts_with}
use Rattle.jj_globs.specs.GlobMeaning.{GlobSpec}
use Rattle.jj_globs.specs.GlobPrefix.{glob_prefix}
use Rattle.jj_matchers.specs.PatternOrder.{is_at_most, is_sorted_by_prefix}
use Rattle.jj_matchers.specs.declared.matchers.pattern_order.LinkedPattern.{LinkedPattern}

abbrev pub globs_of : List LinkedPattern → List GlobSpec
globs_of patterns = map (λ linked. linked.pattern) patterns

-- whether the literal prefix of the glob is a proper prefix of the bytes
abbrev pub encloses : List ℕ → GlobSpec → Bool
encloses bytes glob = nat_lt (length (glob_prefix glob)) (length bytes)
    && starts_with nat_eq bytes (glob_prefix glob)

-- no pattern between a pattern and the one that it is linked to encloses it
abbrev pub AreLinked : List LinkedPattern → Type 0
AreLinked patterns = (earlier : List LinkedPattern) (linked : LinkedPattern)
    (later : List LinkedPattern) → patterns ≡ earlier ++ linked ∷ later
    → list_any (encloses (glob_prefix linked.pattern))
    (globs_of (drop linked.enclosing_len earlier)) ≡ false

-- sorted by literal prefix, and linked
pub record AreSortedAndLinked (patterns : List LinkedPattern) : Type 0 where
  pub order : is_sorted_by_prefix (globs_of patterns) ≡ true
  pub links : AreLinked patterns

-- the first part of the list: those with a literal prefix that is at most the bytes
pub record IsCutAt (bytes : List ℕ) (patterns low : List LinkedPattern) : Type 0 where
  pub high : List LinkedPattern
  pub split : patterns ≡ low ++ high
  pub at_most : list_all (λ glob. is_at_most (glob_prefix glob) bytes) (globs_of low) ≡ true
  pub past : list_any (λ glob. is_at_most (glob_prefix glob) bytes) (globs_of high) ≡ false
