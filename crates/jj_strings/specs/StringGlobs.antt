-- Globs as string patterns: without separator, so that `?` and `*` match `/` too.
-- Cited by contracts of public items: StringGlob, as_glob.
use Rattle.std.specs.Prelude.{ℕ, Bool, false, List}
use Rattle.jj_globs.specs.GlobMeaning.{GlobSpec}

-- the string of the glob, and whether it ignores ASCII case
pub record StringGlob : Type 0 where
  pub text : List ℕ
  pub icase : Bool

-- the glob, with its options
abbrev pub as_glob : StringGlob → GlobSpec
as_glob g = record { text = g.text; options = record { separator = false; icase = g.icase } }
