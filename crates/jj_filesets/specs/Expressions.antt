-- The syntax trees that an expression spells, and the errors of parsing it.
-- Cited by contracts of public items: IsParseError, IsUnspelled, ParseErrorIsUnique, Spells,
-- SpellingIsUnique.
use Rattle.std.specs.Prelude.{◌≡◌, ◌≢◌, ◌⊎◌, ℕ, List, [], ◌∷◌, ◌++◌, length}
use Rattle.jj_filesets.specs.declared.fileset.error.FilesetParseError.{FilesetParseError}
use Rattle.jj_filesets.specs.declared.fileset.error.FilesetParseError.TheVariants.{Syntax, Memory}
use Rattle.jj_filesets.specs.declared.fileset.error.FilesetParseErrorKind.{FilesetParseErrorKind}
use Rattle.jj_filesets.specs.declared.fileset.error.FilesetParseErrorKind.TheVariants.{ExpectedOperand, ExpectedOperator, UnopenedParenthesis, UnclosedParenthesis}
use Rattle.jj_filesets.specs.declared.fileset.pattern.FilePattern.{FilePattern}
use Rattle.jj_filesets.specs.declared.fileset.token.Token.TheVariants.{Open, Close, Operand}
use Rattle.jj_filesets.specs.declared.fileset.token.Lexeme.{Lexeme}
use Rattle.jj_filesets.specs.SyntaxTrees.{SyntaxTree}
use Rattle.jj_filesets.specs.Tokens.{Tokenizes, HasTokenError}
use Rattle.jj_filesets.specs.Grammar.{Derives, expression}

-- 1. Trees.

-- the string is tokens that derive the tree
abbrev pub Spells : List ℕ → SyntaxTree → Type 0
Spells text set = (lexemes : List Lexeme) × Tokenizes (length text) text lexemes
    × Derives expression lexemes set

-- a string spells at most one tree
abbrev pub SpellingIsUnique : Type 0
SpellingIsUnique = (text : List ℕ) (first second : SyntaxTree) → Spells text first
    → Spells text second → first ≡ second

-- 2. Errors.

-- the string spells no tree, unless the error is `Memory`
abbrev pub IsUnspelled : List ℕ → FilesetParseError → Type 0
IsUnspelled text Memory = Unit {0}
IsUnspelled text (Syntax at kind) = (set : SyntaxTree) → Spells text set → ⊥

-- some expression begins with the tokens
abbrev pub Begins : List Lexeme → Type 0
Begins lexemes = (rest : List Lexeme) × (set : SyntaxTree)
    × Derives expression (lexemes ++ rest) set

-- an operand may follow the tokens
abbrev pub OperandMayFollow : List Lexeme → Type 0
OperandMayFollow taken = (at : ℕ) × (leaf : FilePattern)
    × Begins (taken ++ record { at = at; token = Operand leaf } ∷ [])

-- the offset is that of the first token at which no expression goes on, or the length of
-- the string
abbrev pub IsFirstWrong : ℕ → List Lexeme → List Lexeme → ℕ → Type 0
IsFirstWrong len taken [] at = (at ≡ len) × ((set : SyntaxTree) → Derives expression taken set → ⊥)
IsFirstWrong len taken (lexeme ∷ rest) at =
    (at ≡ lexeme.at) × (Begins (taken ++ lexeme ∷ []) → ⊥)

-- the kind of the error: `ExpectedOperand` where an operand may follow, `UnopenedParenthesis` at a
-- `)` after a whole expression, and `ExpectedOperator` at another token where no operand may follow
abbrev pub IsKindAt : FilesetParseErrorKind → List Lexeme → List Lexeme → Type 0
IsKindAt ExpectedOperand taken rest = OperandMayFollow taken
IsKindAt ExpectedOperator taken (lexeme ∷ rest) =
    (¬ OperandMayFollow taken) × (lexeme.token ≢ Close)
IsKindAt UnopenedParenthesis taken (lexeme ∷ rest) =
    ((set : SyntaxTree) × Derives expression taken set) × (lexeme.token ≡ Close)
IsKindAt kind taken rest = ⊥

abbrev pub HasFirstWrong : ℕ → List Lexeme → ℕ → FilesetParseErrorKind → Type 0
HasFirstWrong len lexemes at kind = (taken rest : List Lexeme) × (lexemes ≡ taken ++ rest)
    × Begins taken × IsFirstWrong len taken rest at × IsKindAt kind taken rest

-- all tokens begin an expression, and those after the opening parenthesis at the offset are a whole
-- expression, so this is the innermost parenthesis that is not closed
abbrev pub HasUnclosed : List Lexeme → ℕ → Type 0
HasUnclosed lexemes at = Begins lexemes × (before group : List Lexeme)
    × (lexemes ≡ before ++ record { at = at; token = Open } ∷ group)
    × (set : SyntaxTree) × Derives expression group set

abbrev pub IsTokenOrderError : ℕ → List Lexeme → ℕ → FilesetParseErrorKind → Type 0
IsTokenOrderError len lexemes at UnclosedParenthesis = HasUnclosed lexemes at
IsTokenOrderError len lexemes at kind = HasFirstWrong len lexemes at kind

-- the cause of the error: the first token that cannot be read; or, if all can, the first one at
-- which no expression goes on, or the innermost parenthesis that is not closed
abbrev pub IsParseError : List ℕ → FilesetParseError → Type 0
IsParseError text Memory = Unit {0}
IsParseError text (Syntax at kind) = HasTokenError (length text) (Syntax at kind) text
    ⊎ ((lexemes : List Lexeme) × Tokenizes (length text) text lexemes
    × IsTokenOrderError (length text) lexemes at kind)

-- a string has at most one error besides `Memory`
abbrev pub ParseErrorIsUnique : Type 0
ParseErrorIsUnique = (text : List ℕ) (at other : ℕ) (kind found : FilesetParseErrorKind)
    → IsParseError text (Syntax at kind) → IsParseError text (Syntax other found)
    → (at ≡ other) × (kind ≡ found)
