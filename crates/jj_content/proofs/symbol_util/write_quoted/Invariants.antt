use Rattle.std.proofs.Common.{◌≡◌, ◌++◌, ◌∷◌, List, ℕ}
use Rattle.std.specs.Fmt.{WritesInCalls}
use Rattle.std.specs.Str.Iter.{chars_rest}
use Rattle.jj_content.specs.Symbols.{escaped_string}
use Rattle.jj_content.proofs.symbol_util.write_quoted.Given as goal

abbrev pub invariant-loop-c : goal.invariant-loop-c
invariant-loop-c g l =
    (prefix : List ℕ) × WritesInCalls g.W.Write.write_str_gives l.fn.writer (34 ∷ prefix) l.writer × (prefix ++ escaped_string (chars_rest l.c-iterator) ≡ escaped_string l.text)
