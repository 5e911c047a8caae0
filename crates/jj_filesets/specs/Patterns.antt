-- The paths that a pattern matches.
-- Cited by contracts of public items: IsBelowMatch, Matches.
use Rattle.std.specs.Prelude.{◌≡◌}
use Rattle.jj_paths.specs.Paths.{Path, IsBelow, path_string}
use Rattle.jj_globs.specs.GlobMeaning.{GlobSpec, IsMatch}
use Rattle.jj_filesets.specs.declared.fileset.pattern.FilePattern.{FilePattern}
use Rattle.jj_filesets.specs.declared.fileset.pattern.FilePattern.TheVariants.{All, Nothing, PrefixPath, FilePath, FileGlob, PrefixGlob}

-- the glob matches the path or an ancestor of it; the root is an ancestor of all paths
abbrev pub IsBelowMatch : GlobSpec → Path → Type 0
IsBelowMatch glob path = (base : Path) × IsBelow path base × IsMatch glob (path_string base)

-- the path is in the set of the pattern
abbrev pub Matches : FilePattern → Path → Type 0
Matches All path = Unit {0}
Matches Nothing path = ⊥
Matches (PrefixPath base) path = IsBelow path base
Matches (FilePath file) path = path ≡ file
Matches (FileGlob glob) path = IsMatch glob (path_string path)
Matches (PrefixGlob glob) path = IsBelowMatch glob path
