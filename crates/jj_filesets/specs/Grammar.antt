-- The grammar of expressions, by rules and without a parser. A factor is an operand, a group or a
-- complement; a term joins factors by `&` and `~`, and an expression joins terms by `|`, each from
-- left to right.
use Rattle.std.specs.Prelude.{ℕ, List, [], ◌∷◌, ◌++◌}
use Rattle.jj_filesets.specs.declared.fileset.pattern.FilePattern.{FilePattern}
use Rattle.jj_filesets.specs.declared.fileset.token.Token.TheVariants.{Open, Close, Bar, Ampersand, Tilde, Operand}
use Rattle.jj_filesets.specs.declared.fileset.token.Lexeme.{Lexeme}
use Rattle.jj_filesets.specs.SyntaxTrees.{SyntaxTree, pattern, complement, intersection, difference, union}

-- the precedence levels, from the weakest
pub data Level : Type 0 where
  expression : Level
  term : Level
  factor : Level

-- the tokens, each with its offset, derive the tree at the level
pub data Derives : Level → List Lexeme → SyntaxTree → Type 0 where
  operand : {at : ℕ} {leaf : FilePattern}
      → Derives factor (record { at = at; token = Operand leaf } ∷ []) (pattern leaf)
  negated : {at : ℕ} {ws : List Lexeme} {set : SyntaxTree} → Derives factor ws set
      → Derives factor (record { at = at; token = Tilde } ∷ ws) (complement set)
  grouped : {at : ℕ} (end : ℕ) {ws : List Lexeme} {set : SyntaxTree} → Derives expression ws set
      → Derives factor (record { at = at; token = Open }
      ∷ (ws ++ record { at = end; token = Close } ∷ [])) set
  one_factor : {ws : List Lexeme} {set : SyntaxTree} → Derives factor ws set
      → Derives term ws set
  both : (at : ℕ) {ws vs : List Lexeme} {first second : SyntaxTree} → Derives term ws first
      → Derives factor vs second → Derives term
      (ws ++ record { at = at; token = Ampersand } ∷ vs) (intersection first second)
  without : (at : ℕ) {ws vs : List Lexeme} {first second : SyntaxTree} → Derives term ws first
      → Derives factor vs second → Derives term
      (ws ++ record { at = at; token = Tilde } ∷ vs) (difference first second)
  one_term : {ws : List Lexeme} {set : SyntaxTree} → Derives term ws set
      → Derives expression ws set
  either : (at : ℕ) {ws vs : List Lexeme} {first second : SyntaxTree}
      → Derives expression ws first → Derives term vs second → Derives expression
      (ws ++ record { at = at; token = Bar } ∷ vs) (union first second)
