-- Results of the parsing functions, by the lexemes of the pattern that they consume.
-- Cited by contracts of public items: ParsesAsGlob, glob_spec.
use Rattle.std.specs.Prelude.{◌≡◌, ℕ, zero, suc, Bool, true, false, List, [], ◌∷◌, map, Result, Err, IsOk, OnOk, MatchResult}
use Rattle.jj_globs.specs.declared.glob.token.Part.{Part}
use Rattle.jj_globs.specs.declared.glob.token.Token.{Token}
use Rattle.jj_globs.specs.declared.glob.token.Token.TheVariants.{Part as part}
use Rattle.jj_globs.specs.declared.glob.symbol.Symbol.{Symbol}
use Rattle.jj_globs.specs.declared.glob.symbol.Symbol.TheVariants.{Comma, CloseBrace}
use Rattle.jj_globs.specs.declared.glob.token.ByteRange.{ByteRange}
use Rattle.jj_globs.specs.declared.glob.error.GlobError.{GlobError}
use Rattle.jj_globs.specs.declared.glob.error.GlobError.TheVariants.{Memory, UnclosedClass, InvalidRange, NonAsciiRange, UnopenedAlternates, UnclosedAlternates, DanglingEscape}
use Rattle.jj_globs.specs.GlobMeaning.{GlobSpec}
use Rattle.jj_globs.specs.GlobSyntax.{Lexeme, symbol_of, lexemes, class, syntax_error, parse, tokens_of}

-- the lexemes are this class, then those of the remaining pattern
abbrev pub IsParsedClass : List Lexeme → Bool × List ByteRange → List ℕ → Type 0
IsParsedClass found (negated, ranges) rest =
    found ≡ class negated ranges ∷ lexemes (map symbol_of rest)

-- after any tokens, the lexemes parse as this part, then the remaining pattern
abbrev pub IsParsedPart : List Lexeme → Part → List ℕ → Type 0
IsParsedPart found next rest = (n : ℕ) (e : Bool) (ts : List Token)
    → parse n e ts found ≡ parse n false (part next ∷ ts) (lexemes (map symbol_of rest))

-- the lexemes are this syntax error; of `Memory` nothing is claimed
abbrev pub IsSyntaxError : GlobError → List Lexeme → Type 0
IsSyntaxError Memory found = Unit {0}
IsSyntaxError UnclosedClass found = found ≡ syntax_error UnclosedClass ∷ []
IsSyntaxError InvalidRange found = found ≡ syntax_error InvalidRange ∷ []
IsSyntaxError NonAsciiRange found = found ≡ syntax_error NonAsciiRange ∷ []
IsSyntaxError UnopenedAlternates found = found ≡ syntax_error UnopenedAlternates ∷ []
IsSyntaxError UnclosedAlternates found = found ≡ syntax_error UnclosedAlternates ∷ []
IsSyntaxError DanglingEscape found = found ≡ syntax_error DanglingEscape ∷ []

-- parsing ends with this syntax error; of `Memory` nothing is claimed
abbrev pub IsGlobParseError : GlobError → Result (List Token) GlobError → Type 0
IsGlobParseError Memory reading = Unit {0}
IsGlobParseError UnclosedClass reading = reading ≡ Err UnclosedClass
IsGlobParseError InvalidRange reading = reading ≡ Err InvalidRange
IsGlobParseError NonAsciiRange reading = reading ≡ Err NonAsciiRange
IsGlobParseError UnopenedAlternates reading = reading ≡ Err UnopenedAlternates
IsGlobParseError UnclosedAlternates reading = reading ≡ Err UnclosedAlternates
IsGlobParseError DanglingEscape reading = reading ≡ Err DanglingEscape

-- the glob of a pattern with these options
abbrev pub glob_spec : List ℕ → Bool → Bool → GlobSpec
glob_spec text separator icase = record {
  text = text;
  options = record { separator = separator; icase = icase };
}

-- the result of parsing: this glob, or the first syntax error of the pattern
pub record ParsesAsGlob {T : Type 0} (text : List ℕ) (glob : T) (result : Result T GlobError)
    : Type 0 where
  pub pattern : MatchResult result (λ value. value ≡ glob)
      (λ error. IsGlobParseError error (tokens_of text))
  pub reads : OnOk result (IsOk (tokens_of text))

-- the sequence ends here: at the end of the pattern, or of an alternative in a group
abbrev pub ends_here : ℕ → List Symbol → Bool
ends_here zero [] = true
ends_here (suc n) (Comma ∷ s) = true
ends_here (suc n) (CloseBrace ∷ s) = true
ends_here n s = false
