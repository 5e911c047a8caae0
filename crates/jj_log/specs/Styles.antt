-- The characters of a drawing.
-- Cited by contracts of public items: IsReadBack, styled.
use Rattle.std.specs.Prelude.{◌≡◌, ℕ, ◌==◌, List, [], ◌∷◌, All, if◌then◌else◌, flat_map}
use Rattle.jj_log.specs.declared.style.Style.{Style}
use Rattle.jj_log.specs.declared.style.Style.TheVariants.{Ascii, Unicode}

-- the UTF-8 of the character in place of | \ / _ : ~ o * and of a blank
abbrev pub unicode_glyph : ℕ → List ℕ
unicode_glyph byte = if byte == 124 then 226 ∷ 148 ∷ 130 ∷ []
    else if byte == 92 then 226 ∷ 149 ∷ 178 ∷ []
    else if byte == 47 then 226 ∷ 149 ∷ 177 ∷ []
    else if byte == 95 then 226 ∷ 148 ∷ 128 ∷ []
    else if byte == 58 then 226 ∷ 148 ∷ 138 ∷ []
    else if byte == 126 then 126 ∷ []
    else if byte == 111 then 226 ∷ 151 ∷ 139 ∷ []
    else if byte == 42 then 226 ∷ 151 ∷ 134 ∷ []
    else 32 ∷ []

-- the UTF-8 of the Unicode characters of a drawing, by its ASCII characters
abbrev pub unicode_glyphs : List ℕ → List ℕ
unicode_glyphs glyphs = flat_map unicode_glyph glyphs

-- ASCII characters of a drawing in a style
abbrev pub styled : Style → List ℕ → List ℕ
styled Ascii glyphs = glyphs
styled Unicode glyphs = unicode_glyphs glyphs

-- the ASCII character of the Unicode character whose last bytes these are
abbrev pub ascii_glyph : ℕ → ℕ → ℕ
ascii_glyph second third = if second == 148
    then (if third == 130 then 124 else if third == 128 then 95 else 58)
    else if second == 149 then (if third == 178 then 92 else 47)
    else (if third == 139 then 111 else 42)

-- the ASCII characters of a drawing in Unicode characters
abbrev pub read_back : List ℕ → List ℕ
read_back [] = []
read_back (a ∷ []) = a ∷ []
read_back (a ∷ b ∷ []) = a ∷ b ∷ []
read_back (a ∷ b ∷ c ∷ bytes) = if a == 226 then ascii_glyph b c ∷ read_back bytes
    else a ∷ read_back (b ∷ c ∷ bytes)

-- a character of drawings in ASCII: | \ / _ : ~ o * or a blank
pub data IsGlyph : ℕ → Type 0 where
  bar : IsGlyph 124
  backslash : IsGlyph 92
  slash : IsGlyph 47
  underscore : IsGlyph 95
  colon : IsGlyph 58
  tilde : IsGlyph 126
  node : IsGlyph 111
  root : IsGlyph 42
  blank : IsGlyph 32

-- a drawing in Unicode characters is read back as its ASCII characters
abbrev pub IsReadBack : Type 0
IsReadBack = (glyphs : List ℕ) → All IsGlyph glyphs → read_back (styled Unicode glyphs) ≡ glyphs
