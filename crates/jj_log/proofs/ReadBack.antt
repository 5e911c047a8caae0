-- Unicode characters read back.
use Rattle.std.proofs.Common.{◌≡◌, ◌∙◌, ℕ, List, [], ◌∷◌, refl, ap}
use Rattle.std.proofs.lemmas.List.Elements.{All-head, All-tail}
use Rattle.jj_log.specs.Styles.{IsGlyph, IsReadBack, bar, backslash, slash, underscore, colon, tilde, node, root, blank, read_back, unicode_glyphs}

-- a character of one byte is read by itself
one_byte : (bytes : List ℕ) → read_back (126 ∷ bytes) ≡ 126 ∷ read_back bytes
one_byte [] = refl
one_byte (a ∷ []) = refl
one_byte (a ∷ b ∷ bytes) = refl

one_blank : (bytes : List ℕ) → read_back (32 ∷ bytes) ≡ 32 ∷ read_back bytes
one_blank [] = refl
one_blank (a ∷ []) = refl
one_blank (a ∷ b ∷ bytes) = refl

next : (glyph : ℕ) (glyphs : List ℕ) → IsGlyph glyph → read_back (unicode_glyphs (glyph ∷ glyphs)) ≡ glyph ∷ read_back (unicode_glyphs glyphs)
next glyph glyphs bar = refl
next glyph glyphs backslash = refl
next glyph glyphs slash = refl
next glyph glyphs underscore = refl
next glyph glyphs colon = refl
next glyph glyphs tilde = one_byte (unicode_glyphs glyphs)
next glyph glyphs node = refl
next glyph glyphs root = refl
next glyph glyphs blank = one_blank (unicode_glyphs glyphs)

pub reads_back : IsReadBack
reads_back [] none = refl
reads_back (glyph ∷ glyphs) all = next glyph glyphs (All-head IsGlyph glyph glyphs all) ∙ ap (λ l. glyph ∷ l) (reads_back glyphs (All-tail IsGlyph glyph glyphs all))
