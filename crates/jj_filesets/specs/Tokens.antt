-- The tokens of an expression.
use Rattle.std.specs.Prelude.{◌≡◌, ℕ, ◌-◌, true, false, ◌==◌, if◌then◌else◌, List, [], ◌∷◌, length, Option, Some, None, Result, Ok, Err}
use Rattle.jj_filesets.specs.declared.fileset.error.FilesetParseError.{FilesetParseError}
use Rattle.jj_filesets.specs.declared.fileset.error.FilesetParseError.TheVariants.{Syntax, Memory}
use Rattle.jj_filesets.specs.declared.fileset.token.Token.{Token}
use Rattle.jj_filesets.specs.declared.fileset.token.Token.TheVariants.{Open, Close, Bar, Ampersand, Tilde, Operand}
use Rattle.jj_filesets.specs.declared.fileset.token.Lexeme.{Lexeme}
use Rattle.jj_filesets.specs.Strings.{is_space}
use Rattle.jj_filesets.specs.Operands.{◌>>=◌, operand_at}

-- the token of `( ) | & ~`
abbrev pub symbol_token : ℕ → Option Token
symbol_token b =
    if b == 40 then Some Open
    else (if b == 41 then Some Close
    else (if b == 124 then Some Bar
    else (if b == 38 then Some Ampersand
    else (if b == 126 then Some Tilde else None))))

-- the token, if there is one, with the rest of the string
abbrev pub with_rest : Option Token → List ℕ → Option (Token × List ℕ)
with_rest (Some token) rest = Some (token, rest)
with_rest None rest = None

-- the symbol at the start, and the rest
abbrev pub first_symbol : List ℕ → Option (Token × List ℕ)
first_symbol [] = None
first_symbol (b ∷ bs) = with_rest (symbol_token b) bs

-- an operand as a token, and the rest of the string
abbrev pub operand_token_at : ℕ → List ℕ → Result (Token × List ℕ) FilesetParseError
operand_token_at total text = operand_at total text >>= λ read. Ok (Operand read.0, read.1)

abbrev pub symbol_or : Option (Token × List ℕ) → Result (Token × List ℕ) FilesetParseError
    → Result (Token × List ℕ) FilesetParseError
symbol_or (Some read) other = Ok read
symbol_or None other = other

-- the token at the start, and the rest
unfoldable pub token_at : ℕ → List ℕ → Result (Token × List ℕ) FilesetParseError
token_at total text = symbol_or (first_symbol text) (operand_token_at total text)

-- The string is these tokens, with white space before, between and after them. The offset of a
-- token is the length of the whole expression less that of its rest from the token on.
pub data Tokenizes (total : ℕ) : List ℕ → List Lexeme → Type 0 where
  end : Tokenizes total [] []
  space : {b : ℕ} {bs : List ℕ} {lexemes : List Lexeme} → is_space b ≡ true
      → Tokenizes total bs lexemes → Tokenizes total (b ∷ bs) lexemes
  next : {b : ℕ} {bs rest : List ℕ} {token : Token} {lexemes : List Lexeme} → is_space b ≡ false
      → token_at total (b ∷ bs) ≡ Ok (token, rest) → Tokenizes total rest lexemes
      → Tokenizes total (b ∷ bs)
      (record { at = total - length (b ∷ bs); token = token } ∷ lexemes)

-- The string is some tokens, and then a rest that begins with this error.
pub data HasTokenError (total : ℕ) (error : FilesetParseError) : List ℕ → Type 0 where
  here : {b : ℕ} {bs : List ℕ} → is_space b ≡ false → token_at total (b ∷ bs) ≡ Err error
      → HasTokenError total error (b ∷ bs)
  after_space : {b : ℕ} {bs : List ℕ} → is_space b ≡ true → HasTokenError total error bs
      → HasTokenError total error (b ∷ bs)
  later : {b : ℕ} {bs rest : List ℕ} {token : Token} → is_space b ≡ false
      → token_at total (b ∷ bs) ≡ Ok (token, rest) → HasTokenError total error rest
      → HasTokenError total error (b ∷ bs)

-- the error is the first one of a token, or is `Memory`
abbrev pub IsTokenError : ℕ → List ℕ → FilesetParseError → Type 0
IsTokenError total text Memory = Unit {0}
IsTokenError total text (Syntax at kind) = HasTokenError total (Syntax at kind) text
