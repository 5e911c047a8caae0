-- The operator-precedence parser as a function: the state after each token. Both the pending
-- operators and groups and the program are lists; the former begins with the innermost one.
use Rattle.std.specs.Prelude.{ℕ, if◌then◌else◌, List, [], ◌∷◌, ◌++◌, reverse, Option, Some, None, Result, Ok, Err}
use Rattle.jj_filesets.specs.declared.fileset.error.FilesetParseError.{FilesetParseError}
use Rattle.jj_filesets.specs.declared.fileset.error.FilesetParseError.TheVariants.{Syntax}
use Rattle.jj_filesets.specs.declared.fileset.error.FilesetParseErrorKind.TheVariants.{ExpectedOperand, ExpectedOperator, UnopenedParenthesis, UnclosedParenthesis}
use Rattle.jj_filesets.specs.declared.fileset.parser.Pending.{Pending}
use Rattle.jj_filesets.specs.declared.fileset.parser.Pending.TheVariants.{Group, Operator as operator}
use Rattle.jj_filesets.specs.declared.fileset.parser.Parser.{Parser}
use Rattle.jj_filesets.specs.declared.fileset.program.Operator.TheVariants.{Complement, Intersection, Difference, Union}
use Rattle.jj_filesets.specs.declared.fileset.program.Step.{Step}
use Rattle.jj_filesets.specs.declared.fileset.program.Step.TheVariants.{Push, Apply}
use Rattle.jj_filesets.specs.declared.fileset.token.Token.{Token}
use Rattle.jj_filesets.specs.declared.fileset.token.Token.TheVariants.{Open, Close, Bar, Ampersand, Tilde, Operand}
use Rattle.jj_filesets.specs.declared.fileset.token.Lexeme.{Lexeme}

-- where an operand is expected, and after an operand
pub data State : Type 0 where
  before : List Pending → List Step → State
  after : List Pending → List Step → State

abbrev pub state_of : Parser → State
state_of parser =
    if parser.after_operand then after (reverse parser.pending.items) parser.program.items
    else before (reverse parser.pending.items) parser.program.items

-- applies the operators that bind more strongly than a union
abbrev pub after_operand : List Pending → List Step → State
after_operand (operator Complement ∷ ps) steps = after_operand ps (steps ++ Apply Complement ∷ [])
after_operand (operator Intersection ∷ ps) steps =
    after_operand ps (steps ++ Apply Intersection ∷ [])
after_operand (operator Difference ∷ ps) steps = after_operand ps (steps ++ Apply Difference ∷ [])
after_operand ps steps = after ps steps

-- a `|`, after the union before it is applied
abbrev pub after_bar : List Pending → List Step → State
after_bar (operator Union ∷ ps) steps =
    before (operator Union ∷ ps) (steps ++ Apply Union ∷ [])
after_bar ps steps = before (operator Union ∷ ps) steps

-- pops the innermost group and applies the operators within it: the offset of the group, or none
-- at the end, and the rest of both lists
abbrev pub unwound : List Pending → List Step → Option ℕ × List Pending × List Step
unwound [] steps = (None, [], steps)
unwound (Group start ∷ ps) steps = (Some start, ps, steps)
unwound (operator op ∷ ps) steps = unwound ps (steps ++ Apply op ∷ [])

-- a `)` at an offset, after unwinding
abbrev pub after_close : ℕ → Option ℕ → List Pending → List Step → Result State FilesetParseError
after_close at None ps steps = Err (Syntax at UnopenedParenthesis)
after_close at (Some start) ps steps = Ok (after_operand ps steps)

-- the end of the tokens, after unwinding
abbrev pub whole_program : Option ℕ → List Step → Result (List Step) FilesetParseError
whole_program None steps = Ok steps
whole_program (Some start) steps = Err (Syntax start UnclosedParenthesis)

abbrev pub after_token : State → ℕ → Token → Result State FilesetParseError
after_token (before ps steps) at (Operand leaf) = Ok (after_operand ps (steps ++ Push leaf ∷ []))
after_token (before ps steps) at Tilde = Ok (before (operator Complement ∷ ps) steps)
after_token (before ps steps) at Open = Ok (before (Group at ∷ ps) steps)
after_token (before ps steps) at token = Err (Syntax at ExpectedOperand)
after_token (after ps steps) at Ampersand = Ok (before (operator Intersection ∷ ps) steps)
after_token (after ps steps) at Tilde = Ok (before (operator Difference ∷ ps) steps)
after_token (after ps steps) at Bar = Ok (after_bar ps steps)
after_token (after ps steps) at Close =
    after_close at (unwound ps steps).0 (unwound ps steps).1 (unwound ps steps).2
after_token (after ps steps) at token = Err (Syntax at ExpectedOperator)

abbrev pub after_end : ℕ → State → Result (List Step) FilesetParseError
after_end len (before ps steps) = Err (Syntax len ExpectedOperand)
after_end len (after ps steps) = whole_program (unwound ps steps).0 (unwound ps steps).2

-- the program of the tokens of an expression of this length, from a state on
abbrev pub parsed_after : ℕ → Result State FilesetParseError → List Lexeme
    → Result (List Step) FilesetParseError
parsed_after len (Err error) lexemes = Err error
parsed_after len (Ok state) [] = after_end len state
parsed_after len (Ok state) (lexeme ∷ lexemes) =
    parsed_after len (after_token state lexeme.at lexeme.token) lexemes
