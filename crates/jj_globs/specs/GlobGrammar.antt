-- The grammar of globs, by rules of the syntax and without a parser: which syntax trees a pattern
-- spells. Escapes and classes are lexemes here (`lexemes`).
-- Cited by contracts of public items: ParsedGlobsAreSpelled, SpelledGlobsAreParsed,
-- SpellingIsUnique.
use Rattle.std.specs.Prelude.{◌≡◌, ℕ, Bool, true, false, not, ◌&&◌, ◌==◌, ◌⊎◌, List, [], ◌∷◌, map, Ok}
use Rattle.jj_globs.specs.declared.glob.token.ByteRange.{ByteRange}
use Rattle.jj_globs.specs.declared.glob.token.Part.TheVariants.{Byte, AnyByte, Star, LeadingDirs, InnerDirs, Below, Everything, OneOf}
use Rattle.jj_globs.specs.declared.glob.token.Token.{Token}
use Rattle.jj_globs.specs.GlobMeaning.{Sequence, done, next, group, Alternatives, no_more, either, reading_of}
use Rattle.jj_globs.specs.GlobSyntax.{Lexeme, question, asterisk, slash, open_brace, comma, close_brace, literal, class, symbol_of, lexemes, only_dirs, tokens_of}

-- 1. Where a `**` is a path component.

-- a sequence ends here: outside of groups at the end of the pattern, in a group at `,` or `}`
abbrev pub ends : Bool → List Lexeme → Bool
ends in_group [] = not in_group
ends in_group (comma ∷ ws) = in_group
ends in_group (close_brace ∷ ws) = in_group
ends in_group ws = false

-- a `/`, which may be escaped
abbrev pub is_slash : Lexeme → Bool
is_slash slash = true
is_slash (literal b) = b == 47
is_slash w = false

-- `**/` is here
abbrev pub has_dirs : List Lexeme → Bool
has_dirs (asterisk ∷ asterisk ∷ slash ∷ ws) = true
has_dirs ws = false

-- `**/`, or a `**` that ends its sequence, is here
abbrev pub has_component : Bool → List Lexeme → Bool
has_component in_group (asterisk ∷ asterisk ∷ slash ∷ ws) = true
has_component in_group (asterisk ∷ asterisk ∷ ws) = ends in_group ws
has_component in_group ws = false

-- zero or more `**/`, and the lexemes after them
pub data Dirs : List Lexeme → List Lexeme → Type 0 where
  none : {ws : List Lexeme} → Dirs ws ws
  more : {ws rest : List Lexeme} → Dirs ws rest → Dirs (asterisk ∷ asterisk ∷ slash ∷ ws) rest

-- 2. The grammar: the lexemes `ws` begin with a sequence, and `rest` remains after it.

-- an empty alternative is no alternative
abbrev pub with_alternative : Sequence → Alternatives → Alternatives
with_alternative done a = a
with_alternative s a = either s a

mutual
  -- a sequence, in a group or not, and at its start or not
  pub data Spells : (in_group start : Bool) → (ws rest : List Lexeme) → Sequence → Type 0 where
    -- the end of the sequence
    end : {in_group start : Bool} {ws : List Lexeme} → ends in_group ws ≡ true
        → Spells in_group start ws ws done
    -- a `?`
    any_byte : {in_group start : Bool} {ws rest : List Lexeme} {s : Sequence}
        → Spells in_group false ws rest s
        → Spells in_group start (question ∷ ws) rest (next AnyByte s)
    -- a class
    one_of : {in_group start negated : Bool} {ranges : List ByteRange} {ws rest : List Lexeme}
        {s : Sequence} → Spells in_group false ws rest s
        → Spells in_group start (class negated ranges ∷ ws) rest (next (OneOf (negated, ranges)) s)
    -- any other byte but `/`
    byte : {in_group start : Bool} {b : ℕ} {ws rest : List Lexeme} {s : Sequence}
        → is_slash (literal b) ≡ false → Spells in_group false ws rest s
        → Spells in_group start (literal b ∷ ws) rest (next (Byte b) s)
    -- a `,` outside of groups
    comma_byte : {start : Bool} {ws rest : List Lexeme} {s : Sequence}
        → Spells false false ws rest s
        → Spells false start (comma ∷ ws) rest (next (Byte 44) s)
    -- a `*`, unless it begins a `**/` at the start
    star : {in_group start : Bool} {ws rest : List Lexeme} {s : Sequence}
        → start && has_dirs (asterisk ∷ ws) ≡ false → Spells in_group false ws rest s
        → Spells in_group start (asterisk ∷ ws) rest (next Star s)
    -- a `/` that no `**` component follows
    slash_byte : {in_group start : Bool} {w : Lexeme} {ws rest : List Lexeme} {s : Sequence}
        → is_slash w ≡ true → has_component in_group ws ≡ false → Spells in_group false ws rest s
        → Spells in_group start (w ∷ ws) rest (next (Byte 47) s)
    -- one or more `**/` at the start
    leading : {in_group : Bool} {ws after rest : List Lexeme} {s : Sequence} → Dirs ws after
        → has_component in_group after ≡ false → Spells in_group false after rest s
        → Spells in_group true (asterisk ∷ asterisk ∷ slash ∷ ws) rest (next LeadingDirs s)
    -- one or more `**/` at the start, then a last `**`
    leading_last : {in_group : Bool} {ws rest : List Lexeme} → Dirs ws (asterisk ∷ asterisk ∷ rest)
        → ends in_group rest ≡ true
        → Spells in_group true (asterisk ∷ asterisk ∷ slash ∷ ws) rest (next LeadingDirs done)
    -- a `/`, then one or more `**/`
    inner : {in_group start : Bool} {w : Lexeme} {ws after rest : List Lexeme} {s : Sequence}
        → is_slash w ≡ true → Dirs ws after → has_component in_group after ≡ false
        → Spells in_group false after rest s
        → Spells in_group start (w ∷ asterisk ∷ asterisk ∷ slash ∷ ws) rest (next InnerDirs s)
    -- a `/`, then zero or more `**/`, then a last `**`
    below : {in_group start : Bool} {w : Lexeme} {ws rest : List Lexeme} → is_slash w ≡ true
        → Dirs ws (asterisk ∷ asterisk ∷ rest) → ends in_group rest ≡ true
        → Spells in_group start (w ∷ ws) rest (next Below done)
    -- a group without alternatives, which is left out
    empty_group : {in_group start : Bool} {ws after rest : List Lexeme} {s : Sequence}
        → SpellsAlternatives ws after no_more → Spells in_group start after rest s
        → Spells in_group start (open_brace ∷ ws) rest s
    -- a group
    whole_group : {in_group start : Bool} {ws after rest : List Lexeme} {first s : Sequence}
        {others : Alternatives} → SpellsAlternatives ws after (either first others)
        → Spells in_group false after rest s
        → Spells in_group start (open_brace ∷ ws) rest (group (either first others) s)

  -- the alternatives of a group, up to its `}`
  pub data SpellsAlternatives : (ws rest : List Lexeme) → Alternatives → Type 0 where
    -- the last alternative
    last : {ws rest : List Lexeme} {s : Sequence} → Spells true true ws (close_brace ∷ rest) s
        → SpellsAlternatives ws rest (with_alternative s no_more)
    -- an alternative, then others
    another : {ws after rest : List Lexeme} {s : Sequence} {a : Alternatives}
        → Spells true true ws (comma ∷ after) s → SpellsAlternatives after rest a
        → SpellsAlternatives ws rest (with_alternative s a)

-- the pattern spells the tree: everything if it is only `**` components, else a sequence
abbrev pub IsSpelled : List ℕ → Sequence → Type 0
IsSpelled text s =
    ((only_dirs (map symbol_of text) ≡ true) × (s ≡ next Everything done))
    ⊎ ((only_dirs (map symbol_of text) ≡ false)
    × Spells false true (lexemes (map symbol_of text)) [] s)

-- 3. The laws.

-- the tokens of a pattern have a tree that the pattern spells
abbrev pub ParsedGlobsAreSpelled : Type 0
ParsedGlobsAreSpelled = (text : List ℕ) (ts : List Token) → tokens_of text ≡ Ok ts
    → IsSpelled text (reading_of ts).here

-- a pattern that spells a tree has tokens with that tree
abbrev pub SpelledGlobsAreParsed : Type 0
SpelledGlobsAreParsed = (text : List ℕ) (s : Sequence) → IsSpelled text s
    → (ts : List Token) × (tokens_of text ≡ Ok ts)
    × (reading_of ts ≡ record { here = s; outer = [] })

-- a pattern spells at most one tree
abbrev pub SpellingIsUnique : Type 0
SpellingIsUnique = (text : List ℕ) (first second : Sequence) → IsSpelled text first
    → IsSpelled text second → first ≡ second
