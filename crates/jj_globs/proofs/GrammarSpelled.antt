-- A pattern that parses spells a tree: a derivation is built from the last lexeme to the first.
use Rattle.std.proofs.Common.{◌≡◌, ◌⊎◌, ◌∙◌, ap, sym, subst, ℕ, zero, suc, Bool, true, false, ◌&&◌, if◌then◌else◌, List, [], ◌∷◌, map, Ok, refl, inl, inr}
use Rattle.jj_globs.specs.declared.glob.token.Token.{Token}
use Rattle.jj_globs.specs.declared.glob.token.Token.TheVariants.{Part as part, Open}
use Rattle.jj_globs.specs.declared.glob.token.Part.TheVariants.{Byte, AnyByte, Star, LeadingDirs, InnerDirs, Below, Everything, OneOf}
use Rattle.jj_globs.specs.declared.glob.token.ByteRange.{ByteRange}
use Rattle.jj_globs.specs.GlobMeaning.{Sequence, done, next, group, Alternatives, no_more, either, Reading, reading_of}
use Rattle.jj_globs.specs.GlobSyntax.{Lexeme, question, asterisk, slash, open_brace, comma, close_brace, literal, class, syntax_error, symbol_of, lexemes, only_dirs, position_of, with_dirs, with_last_dirs, two_stars, ends_sequence, with_or, with_close, closes_empty_group, parse, tokens_of}
use Rattle.jj_globs.specs.GlobGrammar.{ends, is_slash, has_dirs, has_component, Dirs, none, more, with_alternative, Spells, SpellsAlternatives, end, any_byte, one_of, byte, comma_byte, star, slash_byte, leading, leading_last, inner, below, empty_group, whole_group, last, another, IsSpelled, ParsedGlobsAreSpelled}
use Rattle.jj_globs.proofs.GrammarSteps.{in_group}
use Rattle.jj_globs.proofs.GrammarParsed.{spelled_globs_are_parsed, same-tokens, tokens_of-parse}

-- 1. The groups of a pattern that parses are closed.

abbrev IsClosed : ℕ → List Lexeme → Type 0
IsClosed zero [] = Unit {0}
IsClosed (suc n) [] = ⊥
IsClosed n (open_brace ∷ ws) = IsClosed (suc n) ws
IsClosed zero (close_brace ∷ ws) = ⊥
IsClosed (suc n) (close_brace ∷ ws) = IsClosed n ws
IsClosed n (syntax_error g ∷ ws) = ⊥
IsClosed n (w ∷ ws) = IsClosed n ws

closed-parse : (n : ℕ) (e : Bool) (ts : List Token) (ws : List Lexeme) (out : List Token) → parse n e ts ws ≡ Ok out → IsClosed n ws
unfolding parse
closed-parse zero e ts [] out r = tt
closed-parse (suc n) e ts [] out r = cc
closed-parse n e ts (question ∷ ws) out r = closed-parse n false (part AnyByte ∷ ts) ws out r
closed-parse n e ts (asterisk ∷ asterisk ∷ slash ∷ ws) out r = closed-parse n false (with_dirs (position_of e ts) ts) ws out r
closed-parse n e ts (asterisk ∷ asterisk ∷ ws) out r =
    closed-parse n false (if ends_sequence n ws then with_last_dirs (position_of e ts) ts else two_stars ts) ws out r
closed-parse n e ts (asterisk ∷ ws) out r = closed-parse n false (part Star ∷ ts) ws out r
closed-parse n e ts (slash ∷ ws) out r = closed-parse n false (part (Byte 47) ∷ ts) ws out r
closed-parse n e ts (literal b ∷ ws) out r = closed-parse n false (part (Byte b) ∷ ts) ws out r
closed-parse n e ts (class negated ranges ∷ ws) out r = closed-parse n false (part (OneOf (negated, ranges)) ∷ ts) ws out r
closed-parse n e ts (open_brace ∷ ws) out r = closed-parse (suc n) false (Open ∷ ts) ws out r
closed-parse zero e ts (comma ∷ ws) out r = closed-parse zero false (part (Byte 44) ∷ ts) ws out r
closed-parse (suc n) e ts (comma ∷ ws) out r = closed-parse (suc n) false (with_or ts) ws out r
closed-parse zero e ts (close_brace ∷ ws) out r = cc
closed-parse (suc n) e ts (close_brace ∷ ws) out r = closed-parse n (closes_empty_group ts) (with_close ts) ws out r
closed-parse n e ts (syntax_error g ∷ ws) out r = cc

-- 2. The remaining lexemes spell what is open.

-- the lexemes after a sequence in so many groups: the groups are spelled to their ends
data After : ℕ → List Lexeme → Type 0 where
  pattern_ends : After zero []
  alternative_ends : {n : ℕ} {ws rest : List Lexeme} {s : Sequence} → Spells true true ws rest s → After (suc n) rest → After (suc n) (comma ∷ ws)
  group_ends : {n : ℕ} {ws rest other : List Lexeme} {s t : Sequence} → Spells (in_group n) true ws rest s → After n rest
      → Spells (in_group n) false ws other t → After n other → After (suc n) (close_brace ∷ ws)

abbrev Spelled : ℕ → Bool → List Lexeme → Type 0
Spelled n start ws = (rest : List Lexeme) × (s : Sequence) × Spells (in_group n) start ws rest s × After n rest

-- the lexemes after a `/`, or after `**/` at the start
abbrev Joined : ℕ → List Lexeme → Type 0
Joined n ws =
    ((after rest : List Lexeme) × (s : Sequence) × Dirs ws after × (has_component (in_group n) after ≡ false) × Spells (in_group n) false after rest s × After n rest)
    ⊎ ((rest : List Lexeme) × Dirs ws (asterisk ∷ asterisk ∷ rest) × (ends (in_group n) rest ≡ true) × After n rest)

abbrev AllSpelled : ℕ → List Lexeme → Type 0
AllSpelled n ws = Spelled n true ws × Spelled n false ws × Joined n ws

-- 3. Each lexeme, before the others.

joined : (n : ℕ) (ws : List Lexeme) → has_component (in_group n) ws ≡ false → Spelled n false ws → Joined n ws
joined n ws h (rest, s, d, a) = inl (ws, rest, s, none, h, d, a)

ended : (n : ℕ) (ws : List Lexeme) → ends (in_group n) ws ≡ true → has_component (in_group n) ws ≡ false → After n ws → AllSpelled n ws
ended n ws h k a = ((ws, done, end h, a), (ws, done, end h, a), inl (ws, ws, done, none, k, end h, a))

after-comma : (n : ℕ) (ws : List Lexeme) → AllSpelled (suc n) ws → After (suc n) (comma ∷ ws)
after-comma n ws ((rest, s, d, a), others, j) = alternative_ends d a

after-close : (n : ℕ) (ws : List Lexeme) → AllSpelled n ws → After (suc n) (close_brace ∷ ws)
after-close n ws ((rest, s, d, a), (other, t, e, b), j) = group_ends d a e b

-- a lexeme after which the sequence goes on
plain : (n : ℕ) (w : Lexeme) (ws : List Lexeme) → has_component (in_group n) (w ∷ ws) ≡ false
    → ((start : Bool) → Spelled n start (w ∷ ws)) → AllSpelled n (w ∷ ws)
plain n w ws h f = (f true, f false, joined n (w ∷ ws) h (f false))

-- a `/`
slash-inner : (n : ℕ) (start : Bool) (w : Lexeme) {ws after rest : List Lexeme} {s : Sequence} → is_slash w ≡ true → Dirs ws after → has_component (in_group n) after ≡ false
    → Spells (in_group n) false after rest s → After n rest → Spelled n start (w ∷ ws)
slash-inner n start w {rest = rest} {s = s} h none k d a = (rest, next (Byte 47) s, slash_byte h k d, a)
slash-inner n start w {rest = rest} {s = s} h (more r) k d a = (rest, next InnerDirs s, inner h r k d, a)

slash-spelled : (n : ℕ) (start : Bool) (w : Lexeme) (ws : List Lexeme) → is_slash w ≡ true → Joined n ws → Spelled n start (w ∷ ws)
slash-spelled n start w ws h (inl (after, rest, s, r, k, d, a)) = slash-inner n start w h r k d a
slash-spelled n start w ws h (inr (rest, r, k, a)) = (rest, next Below done, below h r k, a)

no-star : (start : Bool) → start && false ≡ false
no-star true = refl
no-star false = refl

-- a `*` that begins no `**` component
star-spelled : (n : ℕ) (ws : List Lexeme) (start : Bool) → has_dirs (asterisk ∷ ws) ≡ false → Spelled n false ws → Spelled n start (asterisk ∷ ws)
star-spelled n ws start h (rest, s, d, a) = (rest, next Star s, star (rw h (no-star start)) d, a)

stars-spelled : (n : ℕ) (ws : List Lexeme) → Spelled n false ws → Spelled n false (asterisk ∷ asterisk ∷ ws)
stars-spelled n ws (rest, s, d, a) = (rest, next Star (next Star s), star refl (star refl d), a)

-- a `**/`
leading-spelled : (n : ℕ) (ws : List Lexeme) → Joined n ws → Spelled n true (asterisk ∷ asterisk ∷ slash ∷ ws)
leading-spelled n ws (inl (after, rest, s, r, k, d, a)) = (rest, next LeadingDirs s, leading r k d, a)
leading-spelled n ws (inr (rest, r, k, a)) = (rest, next LeadingDirs done, leading_last r k, a)

joined-dirs : (n : ℕ) (ws : List Lexeme) → Joined n ws → Joined n (asterisk ∷ asterisk ∷ slash ∷ ws)
joined-dirs n ws (inl (after, rest, s, r, k, d, a)) = inl (after, rest, s, more r, k, d, a)
joined-dirs n ws (inr (rest, r, k, a)) = inr (rest, more r, k, a)

dirs-spelled : (n : ℕ) (ws : List Lexeme) → AllSpelled n ws → AllSpelled n (asterisk ∷ asterisk ∷ slash ∷ ws)
dirs-spelled n ws (first, others, j) = (leading-spelled n ws j, stars-spelled n (slash ∷ ws) (slash-spelled n false slash ws refl j), joined-dirs n ws j)

-- a `**` that ends its sequence
last-spelled : (n : ℕ) (ws : List Lexeme) → has_dirs (asterisk ∷ asterisk ∷ ws) ≡ false → ends (in_group n) ws ≡ true → After n ws → AllSpelled n (asterisk ∷ asterisk ∷ ws)
last-spelled n ws h k a =
    let two : Spells (in_group n) false (asterisk ∷ ws) ws (next Star done) = star refl (end k) in
    ((ws, next Star (next Star done), star h two, a), (ws, next Star (next Star done), star refl two, a), inr (ws, none, k, a))

star-all : (n : ℕ) (ws : List Lexeme) → has_component (in_group n) (asterisk ∷ ws) ≡ false → has_dirs (asterisk ∷ ws) ≡ false → AllSpelled n ws → AllSpelled n (asterisk ∷ ws)
star-all n ws h k (first, others, j) = plain n asterisk ws h (λ start. star-spelled n ws start k others)

literal-spelled : (n : ℕ) (b : ℕ) (ws : List Lexeme) (v : Bool) → is_slash (literal b) ≡ v → AllSpelled n ws → (start : Bool) → Spelled n start (literal b ∷ ws)
literal-spelled n b ws true h (first, others, j) start = slash-spelled n start (literal b) ws h j
literal-spelled n b ws false h (first, (rest, s, d, a), j) start = (rest, next (Byte b) s, byte h d, a)

-- the alternatives of a group, and the lexemes after it
alternatives : (n : ℕ) {ws rest : List Lexeme} {s : Sequence} → Spells true true ws rest s → After (suc n) rest
    → (after : List Lexeme) × (a : Alternatives) × SpellsAlternatives ws after a × Spelled n true after × Spelled n false after
alternatives n {s = s} d (alternative_ends e more_after) =
    let (after, a, k, first, others) = alternatives n e more_after in (after, with_alternative s a, another d k, first, others)
alternatives n {s = s} d (group_ends {ws = ws} {rest = rest} {other = other} {s = t} {t = u} e a f b) =
    (ws, with_alternative s no_more, last d, (rest, t, e, a), (other, u, f, b))

group-spelled : (n : ℕ) (ws after : List Lexeme) (a : Alternatives) → SpellsAlternatives ws after a → Spelled n true after → Spelled n false after → (start : Bool) → Spelled n start (open_brace ∷ ws)
group-spelled n ws after no_more k (rest, s, d, b) others true = (rest, s, empty_group k d, b)
group-spelled n ws after no_more k first (rest, s, d, b) false = (rest, s, empty_group k d, b)
group-spelled n ws after (either t a) k first (rest, s, d, b) start = (rest, group (either t a) s, whole_group k d, b)

open-spelled : (n : ℕ) (ws : List Lexeme) → AllSpelled (suc n) ws → (start : Bool) → Spelled n start (open_brace ∷ ws)
open-spelled n ws ((rest, s, d, b), others, j) start =
    let (after, a, k, first, second) = alternatives n d b in group-spelled n ws after a k first second start

question-spelled : (n : ℕ) (ws : List Lexeme) → AllSpelled n ws → (start : Bool) → Spelled n start (question ∷ ws)
question-spelled n ws (first, (rest, s, d, a), j) start = (rest, next AnyByte s, any_byte d, a)

class-spelled : (n : ℕ) (negated : Bool) (ranges : List ByteRange) (ws : List Lexeme) → AllSpelled n ws → (start : Bool) → Spelled n start (class negated ranges ∷ ws)
class-spelled n negated ranges ws (first, (rest, s, d, a), j) start = (rest, next (OneOf (negated, ranges)) s, one_of d, a)

comma-spelled : (ws : List Lexeme) → AllSpelled zero ws → (start : Bool) → Spelled zero start (comma ∷ ws)
comma-spelled ws (first, (rest, s, d, a), j) start = (rest, next (Byte 44) s, comma_byte d, a)

slash-all : (n : ℕ) (ws : List Lexeme) → AllSpelled n ws → (start : Bool) → Spelled n start (slash ∷ ws)
slash-all n ws (first, others, j) start = slash-spelled n start slash ws refl j

all-spelled : (n : ℕ) (ws : List Lexeme) → IsClosed n ws → AllSpelled n ws
all-spelled zero [] c = ended zero [] refl refl pattern_ends
all-spelled (suc n) [] c = absurd c
all-spelled n (question ∷ ws) c = plain n question ws refl (question-spelled n ws (all-spelled n ws c))
all-spelled n (asterisk ∷ asterisk ∷ slash ∷ ws) c = dirs-spelled n ws (all-spelled n ws c)
all-spelled zero (asterisk ∷ asterisk ∷ []) c = last-spelled zero [] refl refl pattern_ends
all-spelled (suc n) (asterisk ∷ asterisk ∷ comma ∷ ws) c = last-spelled (suc n) (comma ∷ ws) refl refl (after-comma n ws (all-spelled (suc n) ws c))
all-spelled (suc n) (asterisk ∷ asterisk ∷ close_brace ∷ ws) c = last-spelled (suc n) (close_brace ∷ ws) refl refl (after-close n ws (all-spelled n ws c))
all-spelled n (asterisk ∷ ws) c = star-all n ws refl refl (all-spelled n ws c)
all-spelled n (slash ∷ ws) c = plain n slash ws refl (slash-all n ws (all-spelled n ws c))
all-spelled n (literal b ∷ ws) c = plain n (literal b) ws refl (literal-spelled n b ws (is_slash (literal b)) refl (all-spelled n ws c))
all-spelled n (class negated ranges ∷ ws) c = plain n (class negated ranges) ws refl (class-spelled n negated ranges ws (all-spelled n ws c))
all-spelled n (open_brace ∷ ws) c = plain n open_brace ws refl (open-spelled n ws (all-spelled (suc n) ws c))
all-spelled zero (comma ∷ ws) c = plain zero comma ws refl (comma-spelled ws (all-spelled zero ws c))
all-spelled (suc n) (comma ∷ ws) c = ended (suc n) (comma ∷ ws) refl refl (after-comma n ws (all-spelled (suc n) ws c))
all-spelled zero (close_brace ∷ ws) c = absurd c
all-spelled (suc n) (close_brace ∷ ws) c = ended (suc n) (close_brace ∷ ws) refl refl (after-close n ws (all-spelled n ws c))
all-spelled n (syntax_error g ∷ ws) c = absurd c

-- 4. Patterns.

-- outside of groups, the pattern ends after the sequence
outside : (start : Bool) (n : ℕ) {ws rest : List Lexeme} {s : Sequence} → n ≡ zero → Spells false start ws rest s → After n rest → Spells false start ws [] s
outside start n h d pattern_ends = d
outside start n h d (alternative_ends e a) = cc
outside start n h d (group_ends e a f b) = cc

spelled-lexemes : (ws : List Lexeme) (ts : List Token) → parse zero false [] ws ≡ Ok ts → (s : Sequence) × Spells false true ws [] s
spelled-lexemes ws ts h =
    let ((rest, s, d, a), others, j) = all-spelled zero ws (closed-parse zero false [] ws ts h) in (s, outside true zero refl d a)

-- the tree of the tokens is the one that the pattern spells
spelled-tree : (text : List ℕ) (ts : List Token) (s : Sequence) → tokens_of text ≡ Ok ts → IsSpelled text s → IsSpelled text (reading_of ts).here
spelled-tree text ts s h d =
    let (us, e, r) = spelled_globs_are_parsed text s d in
    let same : ts ≡ us = same-tokens ts us (tokens_of text) h e in
    let tree : (reading_of ts).here ≡ s = ap (λ us. (reading_of us).here) same ∙ ap (λ (x : Reading). x.here) r in
    subst (IsSpelled text) (sym tree) d

spelled-by : (text : List ℕ) (ts : List Token) (v : Bool) → only_dirs (map symbol_of text) ≡ v → tokens_of text ≡ Ok ts → IsSpelled text (reading_of ts).here
spelled-by text ts true k h = spelled-tree text ts (next Everything done) h (inl (k, refl))
spelled-by text ts false k h =
    let (s, d) = spelled-lexemes (lexemes (map symbol_of text)) ts (sym (tokens_of-parse text k) ∙ h) in spelled-tree text ts s h (inr (k, d))

pub parsed_globs_are_spelled : ParsedGlobsAreSpelled
parsed_globs_are_spelled text ts h = spelled-by text ts (only_dirs (map symbol_of text)) refl h
