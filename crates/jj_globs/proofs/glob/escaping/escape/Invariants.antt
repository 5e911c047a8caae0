use Rattle.std.proofs.Common.{◌≡◌, ◌++◌}
use Rattle.std.specs.String.{string_bytes}
use Rattle.std.specs.Str.Iter.{chars_rest}
use Rattle.jj_globs.specs.GlobEscape.{literal_glob}
use Rattle.jj_globs.proofs.glob.escaping.escape.Given as goal

abbrev pub invariant-loop-c : goal.invariant-loop-c
invariant-loop-c l = string_bytes l.glob ++ literal_glob (chars_rest l.c-iterator) ≡ literal_glob l.text
