-- The words so far and those of the rest are those of the field.
use Rattle.std.proofs.Common.{◌≡◌, ◌++◌, map, string_bytes, length}
use denote.Text.{Utf8}
use denote.Shadow.{shadow}
use Rattle.jj_log.specs.InputLines.{words_of}
use Rattle.jj_log.proofs.input.parse_parents.Given as goal

abbrev pub invariant-loop-name : goal.invariant-loop-name
invariant-loop-name l = shadow (Utf8 l.rest) × (map (λ s. string_bytes s) l.parents.items ++ words_of l.rest ≡ words_of l.fn.field)

abbrev pub decreases-loop-name : goal.decreases-loop-name
decreases-loop-name l = length l.rest
