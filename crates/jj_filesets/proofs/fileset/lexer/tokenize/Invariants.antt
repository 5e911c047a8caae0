use Rattle.std.proofs.Common.{length}
use Rattle.jj_filesets.proofs.Lexed.{IsLexed}
use Rattle.jj_filesets.proofs.fileset.lexer.tokenize.Given as goal

abbrev pub invariant-loop-byte : goal.invariant-loop-byte
invariant-loop-byte l = IsLexed l.total l.fn.text l.rest l.lexemes.items

abbrev pub decreases-loop-byte : goal.decreases-loop-byte
decreases-loop-byte l = length l.rest
