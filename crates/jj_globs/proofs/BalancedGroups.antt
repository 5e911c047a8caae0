-- The tokens of a pattern have balanced groups.
use Rattle.std.proofs.Common.{◌≡◌, ◌∙◌, sym, ℕ, zero, suc, Bool, true, false, if◌then◌else◌, List, [], ◌∷◌, ◌++◌, reverse, length, Ok, refl, map, append-nil, append_assoc, arith}
use Rattle.std.proofs.lemmas.List.{reverse-append}
use Rattle.jj_globs.specs.declared.glob.token.Token.{Token}
use Rattle.jj_globs.specs.declared.glob.token.Token.TheVariants.{Part as part, Open, Or, Close}
use Rattle.jj_globs.specs.declared.glob.token.Part.{Part}
use Rattle.jj_globs.specs.declared.glob.token.Part.TheVariants.{Byte, AnyByte, Star, InnerDirs, Below, Everything, OneOf}
use Rattle.jj_globs.specs.declared.glob.symbol.Position.{Position}
use Rattle.jj_globs.specs.declared.glob.symbol.Position.TheVariants.{Start, LeadingRun, InnerRun, AfterSlash, Elsewhere}
use Rattle.jj_globs.specs.GlobSyntax.{Lexeme, question, asterisk, slash, open_brace, comma, close_brace, literal, class, syntax_error, position_after, position_after_group, position_of, replace_last, two_stars, with_dirs, with_last_dirs, ends_sequence, with_or, with_close, closes_empty_group, only_dirs, parse, tokens_of, lexemes, symbol_of}
use Rattle.jj_globs.specs.GlobMeaning.{Sequence, Alternatives, before_or, before_open, reading_of}

-- so many groups are open after these reversed tokens
abbrev pub HasOpen : List Token → ℕ → Type 0
HasOpen [] n = n ≡ 0
HasOpen (part p ∷ ts) n = HasOpen ts n
HasOpen (Or ∷ ts) n = HasOpen ts n
HasOpen (Close ∷ ts) n = HasOpen ts (suc n)
HasOpen (Open ∷ ts) zero = ⊥
HasOpen (Open ∷ ts) (suc n) = HasOpen ts n

-- 1. Each action of the parser preserves the number of open groups.

open-replace_last : (ts : List Token) (n : ℕ) (p : Part) → (position_after ts ≡ Start → ⊥) → (position_after ts ≡ Elsewhere → ⊥) → HasOpen ts n → HasOpen (replace_last p ts) n
open-replace_last [] n p h k o = o
open-replace_last (part q ∷ ts) n p h k o = o
open-replace_last (Or ∷ ts) n p h k o = absurd (h refl)
open-replace_last (Close ∷ ts) n p h k o = absurd (k refl)
open-replace_last (Open ∷ ts) n p h k o = absurd (h refl)

dirs-at : (position : Position) (ts : List Token) (n : ℕ) → position_after ts ≡ position → HasOpen ts n → HasOpen (with_dirs position ts) n
dirs-at Start ts n e o = o
dirs-at LeadingRun ts n e o = o
dirs-at InnerRun ts n e o = o
dirs-at AfterSlash ts n e o = open-replace_last ts n InnerDirs (λ h. let k : AfterSlash ≡ Start = sym e ∙ h in cc) (λ h. let k : AfterSlash ≡ Elsewhere = sym e ∙ h in cc) o
dirs-at Elsewhere ts n e o = o

dirs-after_group : (position : Position) (ts : List Token) (n : ℕ) → HasOpen ts n → HasOpen (with_dirs (position_after_group position) ts) n
dirs-after_group Start ts n o = o
dirs-after_group position ts n o = o

open-dirs : (e : Bool) (ts : List Token) (n : ℕ) → HasOpen ts n → HasOpen (with_dirs (position_of e ts) ts) n
open-dirs true ts n o = dirs-after_group (position_after ts) ts n o
open-dirs false ts n o = dirs-at (position_after ts) ts n refl o

last-at : (position : Position) (ts : List Token) (n : ℕ) → position_after ts ≡ position → HasOpen ts n → HasOpen (with_last_dirs position ts) n
last-at Start ts n e o = o
last-at LeadingRun ts n e o = o
last-at InnerRun ts n e o = open-replace_last ts n Below (λ h. let k : InnerRun ≡ Start = sym e ∙ h in cc) (λ h. let k : InnerRun ≡ Elsewhere = sym e ∙ h in cc) o
last-at AfterSlash ts n e o = open-replace_last ts n Below (λ h. let k : AfterSlash ≡ Start = sym e ∙ h in cc) (λ h. let k : AfterSlash ≡ Elsewhere = sym e ∙ h in cc) o
last-at Elsewhere ts n e o = o

last-after_group : (position : Position) (ts : List Token) (n : ℕ) → HasOpen ts n → HasOpen (with_last_dirs (position_after_group position) ts) n
last-after_group Start ts n o = o
last-after_group LeadingRun ts n o = o
last-after_group InnerRun ts n o = o
last-after_group AfterSlash ts n o = o
last-after_group Elsewhere ts n o = o

open-last : (e : Bool) (ts : List Token) (n : ℕ) → HasOpen ts n → HasOpen (with_last_dirs (position_of e ts) ts) n
open-last true ts n o = last-after_group (position_after ts) ts n o
open-last false ts n o = last-at (position_after ts) ts n refl o

open-stars : (ends e : Bool) (ts : List Token) (n : ℕ) → HasOpen ts n → HasOpen (if ends then with_last_dirs (position_of e ts) ts else two_stars ts) n
open-stars true e ts n o = open-last e ts n o
open-stars false e ts n o = o

open-or : (ts : List Token) (n : ℕ) → HasOpen ts n → HasOpen (with_or ts) n
open-or [] n o = o
open-or (part p ∷ ts) n o = o
open-or (Or ∷ ts) n o = o
open-or (Close ∷ ts) n o = o
open-or (Open ∷ ts) zero o = o
open-or (Open ∷ ts) (suc n) o = o

open-close : (ts : List Token) (n : ℕ) → HasOpen ts (suc n) → HasOpen (with_close ts) n
open-close [] n o = o
open-close (part p ∷ ts) n o = o
open-close (Or ∷ ts) n o = o
open-close (Close ∷ ts) n o = o
open-close (Open ∷ ts) n o = o

-- 2. The syntax tree of balanced tokens has no open group.

outer-or : (s : Sequence) (gs : List (Alternatives × Sequence)) → length (before_or s gs).outer ≡ length gs
outer-or s [] = refl
outer-or s (g ∷ gs) = refl

open-prefix : (ts : List Token) (s : Sequence) (gs : List (Alternatives × Sequence)) → HasOpen (Open ∷ ts) (length gs) → HasOpen ts (length (before_open s gs).outer)
open-prefix ts s [] o = absurd o
open-prefix ts s (g ∷ gs) o = o

shift : (t : Token) (ts more : List Token) → reverse (t ∷ ts) ++ more ≡ reverse ts ++ t ∷ more
shift t ts more = rw (reverse-append (t ∷ []) ts) (append_assoc (reverse ts) (t ∷ []) more)

outer-prefix : (ts more : List Token) → HasOpen ts (length (reading_of more).outer) → length (reading_of (reverse ts ++ more)).outer ≡ 0
outer-prefix [] more o = o
outer-prefix (part p ∷ ts) more o = rw (shift (part p) ts more) (outer-prefix ts (part p ∷ more) o)
outer-prefix (Or ∷ ts) more o = rw (shift Or ts more) (outer-prefix ts (Or ∷ more) (rw (outer-or (reading_of more).here (reading_of more).outer) o))
outer-prefix (Close ∷ ts) more o = rw (shift Close ts more) (outer-prefix ts (Close ∷ more) o)
outer-prefix (Open ∷ ts) more o = rw (shift Open ts more) (outer-prefix ts (Open ∷ more) (open-prefix ts (reading_of more).here (reading_of more).outer o))

-- 3. The whole pattern.

no_items : {X : Type 0} → (xs : List X) → length xs ≡ 0 → xs ≡ []
no_items [] h = refl
no_items (x ∷ xs) h = absurd (let k : ⊥ = omega (arith, h) in k)

closed-reverse : (ts : List Token) → HasOpen ts 0 → (reading_of (reverse ts)).outer ≡ []
closed-reverse ts o = no_items (reading_of (reverse ts)).outer (let k = outer-prefix ts [] o in rw (append-nil (reverse ts)) at k)

pub closed-parse : (n : ℕ) (e : Bool) (ts : List Token) (ws : List Lexeme) (out : List Token) → HasOpen ts n → parse n e ts ws ≡ Ok out → (reading_of out).outer ≡ []
unfolding parse
closed-parse zero e ts [] out o r = let same : reverse ts ≡ out = cc in rw (← same) (closed-reverse ts o)
closed-parse (suc n) e ts [] out o r = cc
closed-parse n e ts (question ∷ ws) out o r = closed-parse n false (part AnyByte ∷ ts) ws out o r
closed-parse n e ts (asterisk ∷ asterisk ∷ slash ∷ ws) out o r = closed-parse n false (with_dirs (position_of e ts) ts) ws out (open-dirs e ts n o) r
closed-parse n e ts (asterisk ∷ asterisk ∷ ws) out o r =
    closed-parse n false (if ends_sequence n ws then with_last_dirs (position_of e ts) ts else two_stars ts) ws out (open-stars (ends_sequence n ws) e ts n o) r
closed-parse n e ts (asterisk ∷ ws) out o r = closed-parse n false (part Star ∷ ts) ws out o r
closed-parse n e ts (slash ∷ ws) out o r = closed-parse n false (part (Byte 47) ∷ ts) ws out o r
closed-parse n e ts (literal b ∷ ws) out o r = closed-parse n false (part (Byte b) ∷ ts) ws out o r
closed-parse n e ts (class negated ranges ∷ ws) out o r = closed-parse n false (part (OneOf (negated, ranges)) ∷ ts) ws out o r
closed-parse n e ts (open_brace ∷ ws) out o r = closed-parse (suc n) false (Open ∷ ts) ws out o r
closed-parse zero e ts (comma ∷ ws) out o r = closed-parse zero false (part (Byte 44) ∷ ts) ws out o r
closed-parse (suc n) e ts (comma ∷ ws) out o r = closed-parse (suc n) false (with_or ts) ws out (open-or ts (suc n) o) r
closed-parse zero e ts (close_brace ∷ ws) out o r = cc
closed-parse (suc n) e ts (close_brace ∷ ws) out o r = closed-parse n (closes_empty_group ts) (with_close ts) ws out (open-close ts n o) r
closed-parse n e ts (syntax_error g ∷ ws) out o r = cc

closed-either : (b : Bool) (ws : List Lexeme) (ts : List Token) → (if b then Ok (part Everything ∷ []) else parse 0 false [] ws) ≡ Ok ts → (reading_of ts).outer ≡ []
closed-either true ws ts r = let same : part Everything ∷ [] ≡ ts = cc in rw (← same) refl
closed-either false ws ts r = closed-parse 0 false [] ws ts refl r

pub closed-tokens_of : (text : List ℕ) (ts : List Token) → tokens_of text ≡ Ok ts → (reading_of ts).outer ≡ []
unfolding tokens_of
closed-tokens_of text ts r = closed-either (only_dirs (map symbol_of text)) (lexemes (map symbol_of text)) ts r
