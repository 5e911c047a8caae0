-- The path of a mark with a cached key.
-- Machinery of private functions and fields.
use Rattle.jj_paths.specs.Paths.{Path}
use Rattle.jj_paths.specs.Names.{path_of}
use Rattle.jj_matchers.specs.declared.matchers.marks.KeyedMark.{KeyedMark}

abbrev pub keyed_path : KeyedMark → Path
keyed_path mark = path_of mark.path
