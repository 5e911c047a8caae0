-- The bytes before `at` are written in lower case.
use Rattle.std.proofs.Common.{◌≡◌, ℕ, ◌<◌, get_or}
use Rattle.std.specs.Char.{to_ascii_lowercase}
use Rattle.jj_strings.proofs.str_util.caseless_search.lowercase_into.Given as goal

abbrev pub invariant-loop-at : goal.invariant-loop-at
invariant-loop-at l = (k : ℕ) → k < l.at
    → get_or l.lowered k 0 ≡ to_ascii_lowercase (get_or l.bytes k 0)
