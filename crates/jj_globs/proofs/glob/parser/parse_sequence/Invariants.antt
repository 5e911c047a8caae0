use Rattle.std.proofs.Common.{◌≡◌, ◌≤◌, ◌+◌, length, map, reverse}
use Rattle.jj_globs.specs.GlobSyntax.{symbol_of, lexemes, parse, tokens_of}
use Rattle.jj_globs.proofs.glob.parser.parse_sequence.Given as goal

abbrev pub invariant-loop-symbol : goal.invariant-loop-symbol
invariant-loop-symbol l = record {
  fits : l.open_groups + length l.rest ≤ length l.fn.text;
  reads : tokens_of l.fn.text ≡ parse l.open_groups l.is_after_group (reverse l.tokens.items) (lexemes (map symbol_of l.rest));
}

abbrev pub decreases-loop-symbol : goal.decreases-loop-symbol
decreases-loop-symbol l = length l.rest
