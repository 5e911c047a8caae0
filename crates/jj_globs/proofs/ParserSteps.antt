-- The parser's step for each symbol.
use Rattle.std.proofs.Common.{◌≡◌, ◌≢◌, ℕ, zero, suc, ◌+◌, ◌-◌, ◌<◌, Bool, true, false, ◌||◌, if◌then◌else◌, List, [], ◌∷◌, ◌++◌, reverse, Ok, Err, refl, map, ap, ◌∙◌, Result, add-one, arith, nat_le, nat_lt}
use Rattle.jj_globs.specs.declared.glob.token.ByteRange.{ByteRange}
use Rattle.jj_globs.specs.declared.glob.token.Token.{Token}
use Rattle.jj_globs.specs.declared.glob.token.Token.TheVariants.{Part as part, Open}
use Rattle.jj_globs.specs.declared.glob.token.Part.TheVariants.{Byte, AnyByte, Star, OneOf, Everything}
use Rattle.jj_globs.specs.declared.glob.symbol.Symbol.{Symbol}
use Rattle.jj_globs.specs.declared.glob.symbol.Symbol.TheVariants.{Question, Asterisk, Slash, OpenBrace, Comma, CloseBrace, OpenBracket, CloseBracket, Bang, Caret, Dash, Backslash, Other}
use Rattle.jj_globs.specs.declared.glob.error.GlobError.{GlobError}
use Rattle.jj_globs.specs.declared.glob.error.GlobError.TheVariants.{UnclosedClass, InvalidRange, NonAsciiRange, UnopenedAlternates, UnclosedAlternates, DanglingEscape, Memory}
use Rattle.jj_globs.specs.GlobSyntax.{Lexeme, asterisk, byte_of, lexemes, items, first_item, single, class, syntax_error, parse, position_of, with_dirs, with_last_dirs, two_stars, with_or, with_close, closes_empty_group, only_dirs, symbol_of, tokens_of}
use Rattle.jj_globs.specs.GlobParsing.{ends_here, IsSyntaxError, IsGlobParseError}

-- 1. The lexemes of a class are the class, or a syntax error.

-- induction: a property of all lists of lexemes that begin with a class, and of all syntax errors, is
-- one of the lexemes of a class
module _ (P : List Lexeme → Type 0) (of_class : (negated : Bool) (ranges : List ByteRange) (ws : List Lexeme) → P (class negated ranges ∷ ws)) (of_fault : (e : GlobError) → P (syntax_error e ∷ [])) where
  range-elim : (a b : Bool) (good : List Lexeme) → P good → P (if a then syntax_error NonAsciiRange ∷ [] else if b then syntax_error InvalidRange ∷ [] else good)
  range-elim true b good p = of_fault NonAsciiRange
  range-elim false true good p = of_fault InvalidRange
  range-elim false false good p = p

  items-elim : (negated : Bool) (ranges : List ByteRange) (r : ByteRange) (s : List Symbol) → P (items negated ranges r s)
  unfolding items
  items-elim negated ranges r [] = of_fault UnclosedClass
  items-elim negated ranges r (CloseBracket ∷ s) = of_class negated (ranges ++ r ∷ []) (lexemes s)
  items-elim negated ranges r (Dash ∷ []) = of_fault UnclosedClass
  items-elim negated ranges r (Dash ∷ CloseBracket ∷ s) = of_class negated (ranges ++ r ∷ single Dash ∷ []) (lexemes s)
  items-elim negated ranges r (Dash ∷ c ∷ s) =
      range-elim (nat_le 128 r.first || nat_le 128 (byte_of c)) (nat_lt (byte_of c) r.first) (items negated ranges (record { first = r.first; last = byte_of c }) s)
      (items-elim negated ranges (record { first = r.first; last = byte_of c }) s)
  items-elim negated ranges r (c ∷ s) = items-elim negated (ranges ++ r ∷ []) (single c) s

  first_item-elim : (negated : Bool) (s : List Symbol) → P (first_item negated s)
  unfolding first_item
  first_item-elim negated [] = of_fault UnclosedClass
  first_item-elim negated (c ∷ s) = items-elim negated [] (single c) s

  pub bracket-elim : (s : List Symbol) → P (lexemes (OpenBracket ∷ s))
  unfolding lexemes
  bracket-elim [] = of_fault UnclosedClass
  bracket-elim (Bang ∷ s) = first_item-elim true s
  bracket-elim (Caret ∷ s) = first_item-elim true s
  bracket-elim (c ∷ s) = items-elim false [] (single c) s

-- 2. Single symbols.

pub question-parse : (n : ℕ) (e : Bool) (ts : List Token) (s : List Symbol) → parse n e ts (lexemes (Question ∷ s)) ≡ parse n false (part AnyByte ∷ ts) (lexemes s)
unfolding lexemes parse
question-parse n e ts s = refl

pub class-parse : (n : ℕ) (e : Bool) (ts : List Token) (negated : Bool) (ranges : List ByteRange) (ws : List Lexeme)
    → parse n e ts (class negated ranges ∷ ws) ≡ parse n false (part (OneOf (negated, ranges)) ∷ ts) ws
unfolding parse
class-parse n e ts negated ranges ws = refl

pub syntax_error-parse : (n : ℕ) (e : Bool) (ts : List Token) (g : GlobError) → parse n e ts (syntax_error g ∷ []) ≡ Err g
unfolding parse
syntax_error-parse n e ts g = refl

pub escape-parse : (n : ℕ) (e : Bool) (ts : List Token) (c : Symbol) (s : List Symbol) → parse n e ts (lexemes (Backslash ∷ c ∷ s)) ≡ parse n false (part (Byte (byte_of c)) ∷ ts) (lexemes s)
unfolding lexemes parse
escape-parse n e ts c s = refl

pub escape-unended : lexemes (Backslash ∷ []) ≡ syntax_error DanglingEscape ∷ []
unfolding lexemes
escape-unended = refl

pub open-parse : (n : ℕ) (e : Bool) (ts : List Token) (s : List Symbol) → parse n e ts (lexemes (OpenBrace ∷ s)) ≡ parse (n + 1) false (Open ∷ ts) (lexemes s)
unfolding lexemes parse
open-parse n e ts s = rw add-one refl

pub comma-plain : (n : ℕ) (e : Bool) (ts : List Token) (s : List Symbol) → n ≡ 0 → parse n e ts (lexemes (Comma ∷ s)) ≡ parse n false (part (Byte 44) ∷ ts) (lexemes s)
unfolding lexemes parse
comma-plain zero e ts s h = refl
comma-plain (suc n) e ts s h = absurd (let k : ⊥ = omega (arith, h) in k)

pub comma-parse : (n : ℕ) (e : Bool) (ts : List Token) (s : List Symbol) → 0 < n → parse n e ts (lexemes (Comma ∷ s)) ≡ parse n false (with_or ts) (lexemes s)
unfolding lexemes parse
comma-parse zero e ts s h = absurd (let k : ⊥ = omega (arith, h) in k)
comma-parse (suc n) e ts s h = refl

pub close-unopened : (n : ℕ) (e : Bool) (ts : List Token) (s : List Symbol) → n ≡ 0 → parse n e ts (lexemes (CloseBrace ∷ s)) ≡ Err UnopenedAlternates
unfolding lexemes parse
close-unopened zero e ts s h = refl
close-unopened (suc n) e ts s h = absurd (let k : ⊥ = omega (arith, h) in k)

pub close-parse : (n : ℕ) (e : Bool) (ts : List Token) (s : List Symbol) → 0 < n
    → parse n e ts (lexemes (CloseBrace ∷ s)) ≡ parse (n - 1) (closes_empty_group ts) (with_close ts) (lexemes s)
unfolding lexemes parse
close-parse zero e ts s h = absurd (let k : ⊥ = omega (arith, h) in k)
close-parse (suc n) e ts s h = let same : suc n - 1 ≡ n = omega arith in rw same refl

pub parse-end : (n : ℕ) (e : Bool) (ts : List Token) → n ≡ 0 → parse n e ts (lexemes []) ≡ Ok (reverse ts)
unfolding lexemes parse
parse-end zero e ts h = refl
parse-end (suc n) e ts h = absurd (let k : ⊥ = omega (arith, h) in k)

pub parse-unclosed : (n : ℕ) (e : Bool) (ts : List Token) → 0 < n → parse n e ts (lexemes []) ≡ Err UnclosedAlternates
unfolding lexemes parse
parse-unclosed zero e ts h = absurd (let k : ⊥ = omega (arith, h) in k)
parse-unclosed (suc n) e ts h = refl

-- a symbol without a role here is a literal byte
pub literal-parse : (n : ℕ) (e : Bool) (ts : List Token) (c : Symbol) (s : List Symbol)
    → c ≢ Question → c ≢ Asterisk → c ≢ OpenBracket → c ≢ Backslash → c ≢ OpenBrace → c ≢ Comma → c ≢ CloseBrace
    → parse n e ts (lexemes (c ∷ s)) ≡ parse n false (part (Byte (byte_of c)) ∷ ts) (lexemes s)
unfolding lexemes parse
literal-parse n e ts Question s h0 h1 h2 h3 h4 h5 h6 = absurd (h0 refl)
literal-parse n e ts Asterisk s h0 h1 h2 h3 h4 h5 h6 = absurd (h1 refl)
literal-parse n e ts Slash s h0 h1 h2 h3 h4 h5 h6 = refl
literal-parse n e ts OpenBrace s h0 h1 h2 h3 h4 h5 h6 = absurd (h4 refl)
literal-parse n e ts Comma s h0 h1 h2 h3 h4 h5 h6 = absurd (h5 refl)
literal-parse n e ts CloseBrace s h0 h1 h2 h3 h4 h5 h6 = absurd (h6 refl)
literal-parse n e ts OpenBracket s h0 h1 h2 h3 h4 h5 h6 = absurd (h2 refl)
literal-parse n e ts CloseBracket s h0 h1 h2 h3 h4 h5 h6 = refl
literal-parse n e ts Bang s h0 h1 h2 h3 h4 h5 h6 = refl
literal-parse n e ts Caret s h0 h1 h2 h3 h4 h5 h6 = refl
literal-parse n e ts Dash s h0 h1 h2 h3 h4 h5 h6 = refl
literal-parse n e ts Backslash s h0 h1 h2 h3 h4 h5 h6 = absurd (h3 refl)
literal-parse n e ts (Other b) s h0 h1 h2 h3 h4 h5 h6 = refl

-- 3. Stars.

-- a star that no other star follows
pub star-parse : (n : ℕ) (e : Bool) (ts : List Token) (s : List Symbol) → ((r : List Symbol) → s ≡ Asterisk ∷ r → ⊥)
    → parse n e ts (lexemes (Asterisk ∷ s)) ≡ parse n false (part Star ∷ ts) (lexemes s)
unfolding lexemes parse
star-parse n e ts [] h = refl
star-parse n e ts (Question ∷ s) h = refl
star-parse n e ts (Asterisk ∷ s) h = absurd (h s refl)
star-parse n e ts (Slash ∷ s) h = refl
star-parse n e ts (OpenBrace ∷ s) h = refl
star-parse n e ts (Comma ∷ s) h = refl
star-parse n e ts (CloseBrace ∷ s) h = refl
star-parse n e ts (OpenBracket ∷ s) h =
    bracket-elim (λ ws. parse n e ts (asterisk ∷ ws) ≡ parse n false (part Star ∷ ts) ws) (λ negated ranges ws. refl) (λ g. refl) s
star-parse n e ts (CloseBracket ∷ s) h = refl
star-parse n e ts (Bang ∷ s) h = refl
star-parse n e ts (Caret ∷ s) h = refl
star-parse n e ts (Dash ∷ s) h = refl
star-parse n e ts (Backslash ∷ []) h = refl
star-parse n e ts (Backslash ∷ c ∷ s) h = refl
star-parse n e ts ((Other b) ∷ s) h = refl

-- two stars and a slash
pub dirs-parse : (n : ℕ) (e : Bool) (ts : List Token) (s : List Symbol)
    → parse n e ts (lexemes (Asterisk ∷ Asterisk ∷ Slash ∷ s)) ≡ parse n false (with_dirs (position_of e ts) ts) (lexemes s)
unfolding lexemes parse
dirs-parse n e ts s = refl

-- two stars that no slash follows
pub stars-parse : (n : ℕ) (e : Bool) (ts : List Token) (s : List Symbol) → ((r : List Symbol) → s ≡ Slash ∷ r → ⊥)
    → parse n e ts (lexemes (Asterisk ∷ Asterisk ∷ s)) ≡ parse n false (if ends_here n s then with_last_dirs (position_of e ts) ts else two_stars ts) (lexemes s)
unfolding lexemes parse
stars-parse zero e ts [] h = refl
stars-parse zero e ts (Question ∷ s) h = refl
stars-parse zero e ts (Asterisk ∷ s) h = refl
stars-parse zero e ts (Slash ∷ s) h = absurd (h s refl)
stars-parse zero e ts (OpenBrace ∷ s) h = refl
stars-parse zero e ts (Comma ∷ s) h = refl
stars-parse zero e ts (CloseBrace ∷ s) h = refl
stars-parse zero e ts (OpenBracket ∷ s) h =
    bracket-elim (λ ws. parse zero e ts (asterisk ∷ asterisk ∷ ws) ≡ parse zero false (two_stars ts) ws) (λ negated ranges ws. refl) (λ g. refl) s
stars-parse zero e ts (CloseBracket ∷ s) h = refl
stars-parse zero e ts (Bang ∷ s) h = refl
stars-parse zero e ts (Caret ∷ s) h = refl
stars-parse zero e ts (Dash ∷ s) h = refl
stars-parse zero e ts (Backslash ∷ []) h = refl
stars-parse zero e ts (Backslash ∷ c ∷ s) h = refl
stars-parse zero e ts ((Other b) ∷ s) h = refl
stars-parse (suc n) e ts [] h = refl
stars-parse (suc n) e ts (Question ∷ s) h = refl
stars-parse (suc n) e ts (Asterisk ∷ s) h = refl
stars-parse (suc n) e ts (Slash ∷ s) h = absurd (h s refl)
stars-parse (suc n) e ts (OpenBrace ∷ s) h = refl
stars-parse (suc n) e ts (Comma ∷ s) h = refl
stars-parse (suc n) e ts (CloseBrace ∷ s) h = refl
stars-parse (suc n) e ts (OpenBracket ∷ s) h =
    bracket-elim (λ ws. parse (suc n) e ts (asterisk ∷ asterisk ∷ ws) ≡ parse (suc n) false (two_stars ts) ws) (λ negated ranges ws. refl) (λ g. refl) s
stars-parse (suc n) e ts (CloseBracket ∷ s) h = refl
stars-parse (suc n) e ts (Bang ∷ s) h = refl
stars-parse (suc n) e ts (Caret ∷ s) h = refl
stars-parse (suc n) e ts (Dash ∷ s) h = refl
stars-parse (suc n) e ts (Backslash ∷ []) h = refl
stars-parse (suc n) e ts (Backslash ∷ c ∷ s) h = refl
stars-parse (suc n) e ts ((Other b) ∷ s) h = refl

-- 4. The whole pattern.

pub only_dirs-other : (s : List Symbol) → ((r : List Symbol) → s ≡ Asterisk ∷ Asterisk ∷ r → ⊥) → only_dirs s ≡ false
only_dirs-other (Asterisk ∷ Asterisk ∷ r) h = absurd (h r refl)
only_dirs-other s h = refl

pub only_dirs-unjoined : (s : List Symbol) → s ≢ [] → ((r : List Symbol) → s ≡ Slash ∷ r → ⊥) → only_dirs (Asterisk ∷ Asterisk ∷ s) ≡ false
only_dirs-unjoined [] some h = absurd (some refl)
only_dirs-unjoined (Slash ∷ r) some h = absurd (h r refl)
only_dirs-unjoined s some h = refl

pub only_dirs-joined : (s : List Symbol) → s ≢ [] → only_dirs (Asterisk ∷ Asterisk ∷ Slash ∷ s) ≡ only_dirs s
only_dirs-joined [] some = absurd (some refl)
only_dirs-joined (c ∷ s) some = refl

-- a pattern that does not match everything is parsed from its first lexeme
pub tokens_of-parse : (text : List ℕ) → only_dirs (map symbol_of text) ≡ false → tokens_of text ≡ parse 0 false [] (lexemes (map symbol_of text))
unfolding tokens_of
tokens_of-parse text h = rw h refl

pub tokens_of-only_dirs : (text : List ℕ) → only_dirs (map symbol_of text) ≡ true → tokens_of text ≡ Ok (part Everything ∷ [])
unfolding tokens_of
tokens_of-only_dirs text h = rw h refl

pub start : (text : List ℕ) (none : List Token) → only_dirs (map symbol_of text) ≡ false → none ≡ [] → tokens_of text ≡ parse 0 false (reverse none) (lexemes (map symbol_of text))
start text none other h = tokens_of-parse text other ∙ rw h refl

-- the token of a `,`, in a group or outside
pub comma-either : (n : ℕ) (e : Bool) (ts us : List Token) (s : List Symbol) → (n ≡ 0 → us ≡ part (Byte 44) ∷ ts) → (0 < n → us ≡ with_or ts)
    → parse n e ts (lexemes (Comma ∷ s)) ≡ parse n false us (lexemes s)
comma-either zero e ts us s h k = rw (h refl) (comma-plain zero e ts s refl)
comma-either (suc n) e ts us s h k =
    let more : 0 < suc n = omega arith in
    rw (k more) (comma-parse (suc n) e ts s more)

-- a syntax error in the remaining lexemes is that of the pattern
pub faulty : (error : GlobError) (reading : Result (List Token) GlobError) (n : ℕ) (e : Bool) (ts : List Token) (ws : List Lexeme) → reading ≡ parse n e ts ws → IsSyntaxError error ws → IsGlobParseError error reading
faulty Memory reading n e ts ws same h = tt
faulty UnclosedClass reading n e ts ws same h = same ∙ ap (parse n e ts) h ∙ syntax_error-parse n e ts UnclosedClass
faulty InvalidRange reading n e ts ws same h = same ∙ ap (parse n e ts) h ∙ syntax_error-parse n e ts InvalidRange
faulty NonAsciiRange reading n e ts ws same h = same ∙ ap (parse n e ts) h ∙ syntax_error-parse n e ts NonAsciiRange
faulty UnopenedAlternates reading n e ts ws same h = same ∙ ap (parse n e ts) h ∙ syntax_error-parse n e ts UnopenedAlternates
faulty UnclosedAlternates reading n e ts ws same h = same ∙ ap (parse n e ts) h ∙ syntax_error-parse n e ts UnclosedAlternates
faulty DanglingEscape reading n e ts ws same h = same ∙ ap (parse n e ts) h ∙ syntax_error-parse n e ts DanglingEscape
