use Rattle.std.proofs.Common.{◌≡◌, [], Ok}
use Rattle.std.specs.Vec.Iter.{into_iter_items}
use Rattle.jj_filesets.specs.Parsing.{before, state_of, parsed_after}
use Rattle.jj_filesets.proofs.fileset.parser.parse_tokens.Given as goal

abbrev pub invariant-loop-lexeme : goal.invariant-loop-lexeme
invariant-loop-lexeme l =
    parsed_after l.len (Ok (state_of l.parser)) (into_iter_items l.lexeme-iterator)
    ≡ parsed_after l.len (Ok (before [] [])) l.fn.lexemes.items
