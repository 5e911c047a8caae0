-- Parsing of globs: the tokens of a pattern, or its first syntax error.
-- Cited by contracts of public items through GlobBacktracking, GlobMeaning, GlobParsing,
-- GlobPrefix, jj_matchers.Patterns, jj_program.WalkCommand, jj_strings.PatternErrors.
use Rattle.std.specs.Prelude.{ℕ, zero, suc, Bool, true, false, ◌||◌, nat_lt, nat_le, ◌==◌, if◌then◌else◌, List, [], ◌∷◌, ◌++◌, map, reverse, Result, Ok, Err}
use Rattle.jj_globs.specs.declared.glob.token.ByteRange.{ByteRange}
use Rattle.jj_globs.specs.declared.glob.token.Part.{Part}
use Rattle.jj_globs.specs.declared.glob.token.Part.TheVariants.{Byte, AnyByte, Star, LeadingDirs, InnerDirs, Below, Everything, OneOf}
use Rattle.jj_globs.specs.declared.glob.token.Token.{Token}
use Rattle.jj_globs.specs.declared.glob.token.Token.TheVariants.{Part as part, Open, Or, Close}
use Rattle.jj_globs.specs.declared.glob.symbol.Symbol.{Symbol}
use Rattle.jj_globs.specs.declared.glob.symbol.Symbol.TheVariants.{Question, Asterisk, Slash, OpenBrace, Comma, CloseBrace, OpenBracket, CloseBracket, Bang, Caret, Dash, Backslash, Other}
use Rattle.jj_globs.specs.declared.glob.symbol.Position.{Position}
use Rattle.jj_globs.specs.declared.glob.symbol.Position.TheVariants.{Start, LeadingRun, InnerRun, AfterSlash, Elsewhere}
use Rattle.jj_globs.specs.declared.glob.error.GlobError.{GlobError}
use Rattle.jj_globs.specs.declared.glob.error.GlobError.TheVariants.{UnclosedClass, InvalidRange, NonAsciiRange, UnopenedAlternates, UnclosedAlternates, DanglingEscape}

-- 1. The role of each byte in the syntax.

-- the symbol of a byte in a glob
abbrev pub symbol_of : ℕ → Symbol
symbol_of b =
    if b == 63 then Question else
    if b == 42 then Asterisk else
    if b == 47 then Slash else
    if b == 123 then OpenBrace else
    if b == 44 then Comma else
    if b == 125 then CloseBrace else
    if b == 91 then OpenBracket else
    if b == 93 then CloseBracket else
    if b == 33 then Bang else
    if b == 94 then Caret else
    if b == 45 then Dash else
    if b == 92 then Backslash else Other b

-- the byte of a symbol
abbrev pub byte_of : Symbol → ℕ
byte_of Question = 63
byte_of Asterisk = 42
byte_of Slash = 47
byte_of OpenBrace = 123
byte_of Comma = 44
byte_of CloseBrace = 125
byte_of OpenBracket = 91
byte_of CloseBracket = 93
byte_of Bang = 33
byte_of Caret = 94
byte_of Dash = 45
byte_of Backslash = 92
byte_of (Other b) = b

-- 2. Lexemes: escapes and classes are parsed. A syntax error is the last lexeme.

-- a lexical unit of a pattern
pub data Lexeme : Type 0 where
  question : Lexeme
  asterisk : Lexeme
  slash : Lexeme
  open_brace : Lexeme
  comma : Lexeme
  close_brace : Lexeme
  literal : ℕ → Lexeme
  class : Bool → List ByteRange → Lexeme
  syntax_error : GlobError → Lexeme

-- the range of one byte
abbrev pub single : Symbol → ByteRange
single s = record { first = byte_of s; last = byte_of s }

-- the syntax error of a range with these bounds if it has one, else `good`
abbrev pub range_error : ℕ → ℕ → List Lexeme → List Lexeme
range_error first last good =
    if nat_le 128 first || nat_le 128 last then syntax_error NonAsciiRange ∷ [] else
    if nat_lt last first then syntax_error InvalidRange ∷ [] else good

unfoldable mutual
  -- the lexemes of a pattern
  pub lexemes : List Symbol → List Lexeme
  lexemes [] = []
  lexemes (Question ∷ s) = question ∷ lexemes s
  lexemes (Asterisk ∷ s) = asterisk ∷ lexemes s
  lexemes (Slash ∷ s) = slash ∷ lexemes s
  lexemes (OpenBrace ∷ s) = open_brace ∷ lexemes s
  lexemes (Comma ∷ s) = comma ∷ lexemes s
  lexemes (CloseBrace ∷ s) = close_brace ∷ lexemes s
  lexemes (Backslash ∷ []) = syntax_error DanglingEscape ∷ []
  lexemes (Backslash ∷ c ∷ s) = literal (byte_of c) ∷ lexemes s
  lexemes (OpenBracket ∷ Bang ∷ s) = first_item true s
  lexemes (OpenBracket ∷ Caret ∷ s) = first_item true s
  lexemes (OpenBracket ∷ []) = syntax_error UnclosedClass ∷ []
  lexemes (OpenBracket ∷ c ∷ s) = items false [] (single c) s
  lexemes (c ∷ s) = literal (byte_of c) ∷ lexemes s

  -- the first item of a class, which is literal
  pub first_item : Bool → List Symbol → List Lexeme
  first_item negated [] = syntax_error UnclosedClass ∷ []
  first_item negated (c ∷ s) = items negated [] (single c) s

  -- the items of a class after the first: its complete ranges, and the last one, which a `-` may
  -- extend
  pub items : Bool → List ByteRange → ByteRange → List Symbol → List Lexeme
  items negated before r [] = syntax_error UnclosedClass ∷ []
  items negated before r (CloseBracket ∷ s) = class negated (before ++ r ∷ []) ∷ lexemes s
  items negated before r (Dash ∷ []) = syntax_error UnclosedClass ∷ []
  items negated before r (Dash ∷ CloseBracket ∷ s) =
      class negated (before ++ r ∷ single Dash ∷ []) ∷ lexemes s
  items negated before r (Dash ∷ c ∷ s) =
      range_error r.first (byte_of c) (items negated before
      (record { first = r.first; last = byte_of c }) s)
  items negated before r (c ∷ s) = items negated (before ++ r ∷ []) (single c) s

-- 3. Patterns that match everything.

-- only `**` components joined by `/`, with or without a last `/`: such a pattern matches every byte
-- string
abbrev pub only_dirs : List Symbol → Bool
only_dirs (Asterisk ∷ Asterisk ∷ []) = true
only_dirs (Asterisk ∷ Asterisk ∷ Slash ∷ []) = true
only_dirs (Asterisk ∷ Asterisk ∷ Slash ∷ s) = only_dirs s
only_dirs s = false

-- 4. Tokens of all other patterns, parsed with the tokens so far, the last first.

-- the position after the last token
abbrev pub position_after : List Token → Position
position_after [] = Start
position_after (Open ∷ ts) = Start
position_after (Or ∷ ts) = Start
position_after (part LeadingDirs ∷ ts) = LeadingRun
position_after (part InnerDirs ∷ ts) = InnerRun
position_after (part (Byte b) ∷ ts) = if b == 47 then AfterSlash else Elsewhere
position_after ts = Elsewhere

-- the position after a dropped group, where a `/` before the group does not count
abbrev pub position_after_group : Position → Position
position_after_group Start = Start
position_after_group position = Elsewhere

-- the position of a `**`, by whether a dropped group is right before it, and the tokens so far
abbrev pub position_of : Bool → List Token → Position
position_of true ts = position_after_group (position_after ts)
position_of false ts = position_after ts

-- replaces the last token
abbrev pub replace_last : Part → List Token → List Token
replace_last p [] = part p ∷ []
replace_last p (t ∷ ts) = part p ∷ ts

-- appends a `**` that is no path component of its own
abbrev pub two_stars : List Token → List Token
two_stars ts = part Star ∷ part Star ∷ ts

-- appends `**/`; a run such as `**/**/` counts as one
abbrev pub with_dirs : Position → List Token → List Token
with_dirs Start ts = part LeadingDirs ∷ ts
with_dirs LeadingRun ts = ts
with_dirs InnerRun ts = ts
with_dirs AfterSlash ts = replace_last InnerDirs ts
with_dirs Elsewhere ts = part (Byte 47) ∷ two_stars ts

-- appends a `**` that ends its sequence, which is the whole pattern or an alternative
abbrev pub with_last_dirs : Position → List Token → List Token
with_last_dirs LeadingRun ts = ts
with_last_dirs AfterSlash ts = replace_last Below ts
with_last_dirs InnerRun ts = replace_last Below ts
with_last_dirs position ts = two_stars ts

-- the sequence ends here: at the end of the pattern, or of an alternative in a group
abbrev pub ends_sequence : ℕ → List Lexeme → Bool
ends_sequence zero [] = true
ends_sequence (suc n) (comma ∷ ws) = true
ends_sequence (suc n) (close_brace ∷ ws) = true
ends_sequence n ws = false

-- appends the `,` of a group; an alternative without tokens is dropped
abbrev pub with_or : List Token → List Token
with_or (Open ∷ ts) = Open ∷ ts
with_or (Or ∷ ts) = Or ∷ ts
with_or ts = Or ∷ ts

-- appends a `}`; an alternative without tokens is dropped, and so is a group without alternatives
abbrev pub with_close : List Token → List Token
with_close (Open ∷ ts) = ts
with_close (Or ∷ ts) = Close ∷ ts
with_close ts = Close ∷ ts

-- a `}` here closes a group without alternatives
abbrev pub closes_empty_group : List Token → Bool
closes_empty_group (Open ∷ ts) = true
closes_empty_group ts = false

-- parses the lexemes, with the number of open groups, whether a dropped group is right before, and
-- the tokens so far
unfoldable pub parse : ℕ → Bool → List Token → List Lexeme → Result (List Token) GlobError
parse zero e ts [] = Ok (reverse ts)
parse (suc n) e ts [] = Err UnclosedAlternates
parse n e ts (question ∷ ws) = parse n false (part AnyByte ∷ ts) ws
parse n e ts (asterisk ∷ asterisk ∷ slash ∷ ws) = parse n false (with_dirs (position_of e ts) ts) ws
parse n e ts (asterisk ∷ asterisk ∷ ws) =
    parse n false
    (if ends_sequence n ws then with_last_dirs (position_of e ts) ts else two_stars ts) ws
parse n e ts (asterisk ∷ ws) = parse n false (part Star ∷ ts) ws
parse n e ts (slash ∷ ws) = parse n false (part (Byte 47) ∷ ts) ws
parse n e ts (literal b ∷ ws) = parse n false (part (Byte b) ∷ ts) ws
parse n e ts (class negated ranges ∷ ws) = parse n false (part (OneOf (negated, ranges)) ∷ ts) ws
parse n e ts (open_brace ∷ ws) = parse (suc n) false (Open ∷ ts) ws
parse zero e ts (comma ∷ ws) = parse zero false (part (Byte 44) ∷ ts) ws
parse (suc n) e ts (comma ∷ ws) = parse (suc n) false (with_or ts) ws
parse zero e ts (close_brace ∷ ws) = Err UnopenedAlternates
parse (suc n) e ts (close_brace ∷ ws) = parse n (closes_empty_group ts) (with_close ts) ws
parse n e ts (syntax_error g ∷ ws) = Err g

-- the tokens of a pattern, or its first syntax error
unfoldable pub tokens_of : List ℕ → Result (List Token) GlobError
tokens_of text =
    if only_dirs (map symbol_of text) then Ok (part Everything ∷ []) else
    parse zero false [] (lexemes (map symbol_of text))
