use Rattle.std.proofs.Common.{◌≡◌, ◌++◌}
use Rattle.std.specs.String.{string_bytes}
use Rattle.std.specs.Str.Iter.{chars_rest}
use Rattle.jj_content.specs.Symbols.{escaped_string}
use Rattle.jj_content.proofs.symbol_util.escape_string_to_buf.Given as goal

abbrev pub invariant-loop-c : goal.invariant-loop-c
invariant-loop-c l = string_bytes l.escaped ++ escaped_string (chars_rest l.c-iterator) ≡ string_bytes l.initial.escaped ++ escaped_string l.unescaped
