-- The entries before this one were removed.
use Rattle.std.proofs.Common.{Ok, map, take, string_bytes}
use Rattle.jj_files.specs.Directories.{RemovesEach}
use Rattle.jj_files.proofs.file_util.dirs.remove_dir_contents.Given as goal

abbrev pub invariant-loop-name : goal.invariant-loop-name
invariant-loop-name g l =
    let names = map string_bytes l.name-items in
    g.D.DirAccess.may_list l.fn.dirs l.path (Ok names)
    × RemovesEach g.D.DirAccess.may_remove l.path (take l.name-index names) l.fn.dirs l.dirs
