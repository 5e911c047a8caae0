use Rattle.std.proofs.Common.{◌≡◌, map, string_bytes}
use Rattle.jj_paths.specs.Names.{name_of}
use Rattle.jj_paths.specs.AppendedNames.{append_names}
use Rattle.jj_paths.proofs.repo_path.extend.push_names.Given as goal

-- the names so far are appended
abbrev pub invariant-loop-name : goal.invariant-loop-name
invariant-loop-name g l = string_bytes l.text ≡ append_names (string_bytes l.fn.text) (map name_of l.yielded)
