-- The syntax tree of a pattern.
-- Cited by contracts of public items: IsOnlySpelling, IsSpellingError.
use Rattle.std.specs.Prelude.{◌≡◌, ℕ, List}
use Rattle.jj_globs.specs.GlobGrammar.{IsSpelled}
use Rattle.jj_globs.specs.GlobMeaning.{Sequence}
use Rattle.jj_globs.specs.declared.glob.error.GlobError.{GlobError}
use Rattle.jj_globs.specs.declared.glob.error.GlobError.TheVariants.{Memory, UnclosedClass, InvalidRange, NonAsciiRange, UnopenedAlternates, UnclosedAlternates, DanglingEscape}

-- the pattern spells this tree and no other
pub record IsOnlySpelling (text : List ℕ) (tree : Sequence) : Type 0 where
  pub spelled : IsSpelled text tree
  pub only : (other : Sequence) → IsSpelled text other → other ≡ tree

-- the pattern spells no tree
abbrev pub SpellsNone : List ℕ → Type 0
SpellsNone text = (tree : Sequence) → ¬ IsSpelled text tree

-- the pattern spells no tree, or memory ran out
abbrev pub IsSpellingError : List ℕ → GlobError → Type 0
IsSpellingError text Memory = Unit {0}
IsSpellingError text UnclosedClass = SpellsNone text
IsSpellingError text InvalidRange = SpellsNone text
IsSpellingError text NonAsciiRange = SpellsNone text
IsSpellingError text UnopenedAlternates = SpellsNone text
IsSpellingError text UnclosedAlternates = SpellsNone text
IsSpellingError text DanglingEscape = SpellsNone text
