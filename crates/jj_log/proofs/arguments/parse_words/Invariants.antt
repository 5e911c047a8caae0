-- The command line so far and the words that are left have the result of all words.
use Rattle.std.proofs.Common.{◌≡◌, Ok, drop, map}
use Rattle.std.specs.Prelude.{string_bytes}
use Rattle.jj_log.specs.CommandLines.{after_words, command_line}
use Rattle.jj_log.proofs.arguments.parse_words.Given as goal

abbrev pub invariant-loop-index : goal.invariant-loop-index
invariant-loop-index l =
    after_words (Ok l.line) l.index (drop l.index (map (λ word. string_bytes word) l.words)) ≡ command_line (map (λ word. string_bytes word) l.words)
