-- Steps of parsing a class.
use Rattle.std.proofs.Common.{◌≡◌, ◌≢◌, ℕ, Bool, true, false, List, [], ◌∷◌, ◌++◌, refl}
use Rattle.jj_globs.specs.declared.glob.token.ByteRange.{ByteRange}
use Rattle.jj_globs.specs.declared.glob.symbol.Symbol.{Symbol}
use Rattle.jj_globs.specs.declared.glob.symbol.Symbol.TheVariants.{Question, Asterisk, Slash, OpenBrace, Comma, CloseBrace, OpenBracket, CloseBracket, Bang, Caret, Dash, Backslash, Other}
use Rattle.jj_globs.specs.declared.glob.error.GlobError.TheVariants.{UnclosedClass}
use Rattle.jj_globs.specs.GlobSyntax.{Lexeme, byte_of, lexemes, items, first_item, single, class, syntax_error, range_error}

-- an item other than `]` and `-` completes the range before it
pub items-other : (negated : Bool) (ranges : List ByteRange) (r : ByteRange) (c : Symbol) (s : List Symbol) → c ≢ CloseBracket → c ≢ Dash
    → items negated ranges r (c ∷ s) ≡ items negated (ranges ++ r ∷ []) (single c) s
unfolding items
items-other negated ranges r Question s h k = refl
items-other negated ranges r Asterisk s h k = refl
items-other negated ranges r Slash s h k = refl
items-other negated ranges r OpenBrace s h k = refl
items-other negated ranges r Comma s h k = refl
items-other negated ranges r CloseBrace s h k = refl
items-other negated ranges r OpenBracket s h k = refl
items-other negated ranges r CloseBracket s h k = absurd (h refl)
items-other negated ranges r Bang s h k = refl
items-other negated ranges r Caret s h k = refl
items-other negated ranges r Dash s h k = absurd (k refl)
items-other negated ranges r Backslash s h k = refl
items-other negated ranges r (Other b) s h k = refl

-- a `-` and an item other than `]` complete the range at that item
pub items-bound : (negated : Bool) (ranges : List ByteRange) (r : ByteRange) (c : Symbol) (s : List Symbol) → c ≢ CloseBracket
    → items negated ranges r (Dash ∷ c ∷ s) ≡ range_error r.first (byte_of c) (items negated ranges (record { first = r.first; last = byte_of c }) s)
unfolding items
items-bound negated ranges r Question s h = refl
items-bound negated ranges r Asterisk s h = refl
items-bound negated ranges r Slash s h = refl
items-bound negated ranges r OpenBrace s h = refl
items-bound negated ranges r Comma s h = refl
items-bound negated ranges r CloseBrace s h = refl
items-bound negated ranges r OpenBracket s h = refl
items-bound negated ranges r CloseBracket s h = absurd (h refl)
items-bound negated ranges r Bang s h = refl
items-bound negated ranges r Caret s h = refl
items-bound negated ranges r Dash s h = refl
items-bound negated ranges r Backslash s h = refl
items-bound negated ranges r (Other b) s h = refl

-- `items-bound` for lexemes whose first symbols are known by equations
pub items-range : (found : List Lexeme) (negated : Bool) (ranges : List ByteRange) (r : ByteRange) (left after : List Symbol) (d c : Symbol) (s : List Symbol) (last : ℕ)
    → found ≡ items negated ranges r left → left ≡ d ∷ after → d ≡ Dash → after ≡ c ∷ s → c ≢ CloseBracket → last ≡ byte_of c
    → found ≡ range_error r.first last (items negated ranges (record { first = r.first; last = last }) s)
items-range found negated ranges r left after d c s last so_far is dash next bound at = rw (so_far, is, dash, next, at) (items-bound negated ranges r c s bound)

-- a class that is not negated
pub lexemes-class : (c : Symbol) (s : List Symbol) → c ≢ Bang → c ≢ Caret → lexemes (OpenBracket ∷ c ∷ s) ≡ first_item false (c ∷ s)
unfolding lexemes first_item
lexemes-class Question s h k = refl
lexemes-class Asterisk s h k = refl
lexemes-class Slash s h k = refl
lexemes-class OpenBrace s h k = refl
lexemes-class Comma s h k = refl
lexemes-class CloseBrace s h k = refl
lexemes-class OpenBracket s h k = refl
lexemes-class CloseBracket s h k = refl
lexemes-class Bang s h k = absurd (h refl)
lexemes-class Caret s h k = absurd (k refl)
lexemes-class Dash s h k = refl
lexemes-class Backslash s h k = refl
lexemes-class (Other b) s h k = refl

pub items-ended : (negated : Bool) (ranges : List ByteRange) (r : ByteRange) → items negated ranges r [] ≡ syntax_error UnclosedClass ∷ []
unfolding items
items-ended negated ranges r = refl

pub items-dash_ended : (negated : Bool) (ranges : List ByteRange) (r : ByteRange) → items negated ranges r (Dash ∷ []) ≡ syntax_error UnclosedClass ∷ []
unfolding items
items-dash_ended negated ranges r = refl

pub items-closed : (negated : Bool) (ranges : List ByteRange) (r : ByteRange) (s : List Symbol)
    → items negated ranges r (CloseBracket ∷ s) ≡ class negated (ranges ++ r ∷ []) ∷ lexemes s
unfolding items
items-closed negated ranges r s = refl

pub items-dash_closed : (negated : Bool) (ranges : List ByteRange) (r : ByteRange) (s : List Symbol)
    → items negated ranges r (Dash ∷ CloseBracket ∷ s) ≡ class negated (ranges ++ r ∷ single Dash ∷ []) ∷ lexemes s
unfolding items
items-dash_closed negated ranges r s = refl

pub first_item-none : (negated : Bool) → first_item negated [] ≡ syntax_error UnclosedClass ∷ []
unfolding first_item
first_item-none negated = refl

pub first_item-next : (negated : Bool) (c : Symbol) (s : List Symbol) → first_item negated (c ∷ s) ≡ items negated [] (single c) s
unfolding first_item
first_item-next negated c s = refl

pub lexemes-bang : (s : List Symbol) → lexemes (OpenBracket ∷ Bang ∷ s) ≡ first_item true s
unfolding lexemes
lexemes-bang s = refl

pub lexemes-caret : (s : List Symbol) → lexemes (OpenBracket ∷ Caret ∷ s) ≡ first_item true s
unfolding lexemes
lexemes-caret s = refl

pub lexemes-unclosed : lexemes (OpenBracket ∷ []) ≡ first_item false []
unfolding lexemes first_item
lexemes-unclosed = refl
