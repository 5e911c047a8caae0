use Rattle.std.proofs.Common.{map}
use Rattle.jj_globs.specs.GlobSyntax.{symbol_of, lexemes}
use Rattle.jj_globs.proofs.ParserSteps.{question-parse, class-parse, escape-parse, escape-unended, literal-parse}
use Rattle.jj_globs.proofs.glob.parser.parse_part.Goals as goal

pub returns-in-Question-clause-parsed : goal.returns-in-Question-clause-parsed
returns-in-Question-clause-parsed c = λ n e ts. rw (c.in-Question.is) (question-parse n e ts (map symbol_of c.args.text.now))

pub returns-in-Ok-clause-parsed : goal.returns-in-Ok-clause-parsed
returns-in-Ok-clause-parsed c = λ n e ts. rw (c.in-OpenBracket.is, c.in-Ok.ensures.parsed) (class-parse n e ts c.in-Ok.class.0 c.in-Ok.class.1 (lexemes (map symbol_of c.in-Ok.rest.now)))

pub returns-in-Some-clause-parsed : goal.returns-in-Some-clause-parsed
returns-in-Some-clause-parsed c = λ n e ts. rw (c.in-Backslash.is, c.in-Some.ensures, c.byte.ensures) (escape-parse n e ts c.in-Some.escaped (map symbol_of c.in-Some.rest.now))

pub returns-in-None-clause-parsed : goal.returns-in-None-clause-parsed
returns-in-None-clause-parsed c = rw (c.in-Backslash.is, c.in-None.ensures) escape-unended

pub returns-in_default-clause-parsed : goal.returns-in_default-clause-parsed
returns-in_default-clause-parsed c = λ n e ts.
    rw (c.byte-in_default.ensures)
    (literal-parse n e ts c.args.symbol (map symbol_of c.args.text.now) c.in_default.not-Question c.requires.no_star c.in_default.not-OpenBracket c.in_default.not-Backslash c.requires.no_open c.requires.no_comma c.requires.no_close)
