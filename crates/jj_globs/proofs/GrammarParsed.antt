-- The parser reads the tree that a pattern spells.
use Rattle.std.proofs.Common.{◌≡◌, ◌≢◌, ◌⊎◌, ◌∙◌, ap, sym, ℕ, zero, suc, Bool, true, false, ◌&&◌, List, [], ◌∷◌, map, reverse, Result, Ok, refl, inl, inr}
use Rattle.jj_globs.specs.declared.glob.token.Token.{Token}
use Rattle.jj_globs.specs.declared.glob.token.Token.TheVariants.{Part as part, Open, Or, Close}
use Rattle.jj_globs.specs.declared.glob.token.Part.TheVariants.{Byte, AnyByte, Star, LeadingDirs, InnerDirs, Below, Everything, OneOf}
use Rattle.jj_globs.specs.declared.glob.symbol.Position.{Position}
use Rattle.jj_globs.specs.declared.glob.symbol.Position.TheVariants.{Start, LeadingRun, InnerRun, AfterSlash, Elsewhere}
use Rattle.jj_globs.specs.declared.glob.error.GlobError.{GlobError}
use Rattle.jj_globs.specs.GlobMeaning.{Sequence, done, next, group, Alternatives, no_more, either, Reading, reading_of}
use Rattle.jj_globs.specs.GlobSyntax.{Lexeme, asterisk, slash, open_brace, comma, close_brace, symbol_of, lexemes, only_dirs, position_after, position_after_group, position_of, with_or, with_close, closes_empty_group, parse, tokens_of}
use Rattle.jj_globs.specs.GlobGrammar.{ends, has_dirs, has_component, Dirs, none, more, with_alternative, Spells, SpellsAlternatives, end, any_byte, one_of, byte, comma_byte, star, slash_byte, leading, leading_last, inner, below, empty_group, whole_group, last, another, SpelledGlobsAreParsed, SpellingIsUnique}
use Rattle.jj_globs.proofs.GrammarSteps.{in_group, end-step, slash-step, comma-step, last-step, dirs-step, IsStarHere, star-step, leading-run, inner-run}
use Rattle.jj_globs.proofs.GrammarTrees.{HasAlternatives, AllHaveAlternatives, push, push_first, push_more, reading_of-push}

-- 1. Each group of a spelled tree has an alternative.

has-with_alternative : (s : Sequence) (a : Alternatives) → HasAlternatives s → AllHaveAlternatives a → AllHaveAlternatives (with_alternative s a)
has-with_alternative done a h k = k
has-with_alternative (next p s) a h k = (h, k)
has-with_alternative (group b s) a h k = (h, k)

mutual
  has-spelled : {g start : Bool} {ws rest : List Lexeme} {s : Sequence} → Spells g start ws rest s → HasAlternatives s
  has-spelled (end h) = tt
  has-spelled (any_byte d) = has-spelled d
  has-spelled (one_of d) = has-spelled d
  has-spelled (byte h d) = has-spelled d
  has-spelled (comma_byte d) = has-spelled d
  has-spelled (star h d) = has-spelled d
  has-spelled (slash_byte h k d) = has-spelled d
  has-spelled (leading r h d) = has-spelled d
  has-spelled (leading_last r h) = tt
  has-spelled (inner h r k d) = has-spelled d
  has-spelled (below h r k) = tt
  has-spelled (empty_group a d) = has-spelled d
  has-spelled (whole_group a d) = let k = has-alternatives a in (k.0, k.1, has-spelled d)

  has-alternatives : {ws rest : List Lexeme} {a : Alternatives} → SpellsAlternatives ws rest a → AllHaveAlternatives a
  has-alternatives (last {s = s} d) = has-with_alternative s no_more (has-spelled d) tt
  has-alternatives (another {s = s} {a = a} d k) = has-with_alternative s a (has-spelled d) (has-alternatives k)

-- 2. Tokens so far, and the lexemes after them.

-- the parser's position agrees with the rule: it is the start; or it is another, and only `Elsewhere`
-- if a `**` component is here
abbrev Agrees : ℕ → Bool → Bool → List Token → List Lexeme → Type 0
Agrees n true e ts ws = position_of e ts ≡ Start
Agrees n false e ts ws = (position_of e ts ≡ Elsewhere) ⊎ ((position_of e ts ≢ Start) × (has_component (in_group n) ws ≡ false))

-- the sequence ended before this `,` or `}`
abbrev IsEnded : List Token → Type 0
IsEnded ts = (with_or ts ≡ Or ∷ ts) × (with_close ts ≡ Close ∷ ts) × (closes_empty_group ts ≡ false)

ended-push : (s : Sequence) (ts : List Token) → IsEnded ts → IsEnded (push s ts)
ended-push done ts h = h
ended-push (next p s) ts h = ended-push s (part p ∷ ts) (refl, refl, refl)
ended-push (group a s) ts h = ended-push s (Close ∷ push_first a (Open ∷ ts)) (refl, refl, refl)

-- the tokens after the `}` of a group with these alternatives after the tokens so far
abbrev closed : Alternatives → List Token → List Token
closed no_more ts = with_close ts
closed (either s a) ts = Close ∷ push_more a (push s ts)

abbrev is_empty : Alternatives → List Token → Bool
is_empty no_more ts = closes_empty_group ts
is_empty (either s a) ts = false

-- an alternative begins after these tokens
abbrev IsFresh : List Token → Type 0
IsFresh ts = (with_or ts ≡ ts) × (position_after ts ≡ Start)

last-alternative : (s : Sequence) (n : ℕ) (ts : List Token) (rest : List Lexeme) → parse (suc n) false (push s ts) (close_brace ∷ rest) ≡ parse n (is_empty (with_alternative s no_more) ts) (closed (with_alternative s no_more) ts) rest
unfolding parse
last-alternative done n ts rest = refl
last-alternative (next p s) n ts rest = let (o, c, e) = ended-push s (part p ∷ ts) (refl, refl, refl) in rw (c, e) refl
last-alternative (group a s) n ts rest = let (o, c, e) = ended-push s (Close ∷ push_first a (Open ∷ ts)) (refl, refl, refl) in rw (c, e) refl

closed-or : (a : Alternatives) (ts : List Token) → closed a (Or ∷ ts) ≡ Close ∷ push_more a ts
closed-or no_more ts = refl
closed-or (either s a) ts = refl

is_empty-or : (a : Alternatives) (ts : List Token) → is_empty a (Or ∷ ts) ≡ false
is_empty-or no_more ts = refl
is_empty-or (either s a) ts = refl

comma-alternative : (n : ℕ) (ts : List Token) (ws : List Lexeme) → parse (suc n) false ts (comma ∷ ws) ≡ parse (suc n) false (with_or ts) ws
unfolding parse
comma-alternative n ts ws = refl

-- another alternative, by how the next ones are parsed
another-alternative : (s : Sequence) (a : Alternatives) (n : ℕ) (ts : List Token) (ws rest : List Lexeme) → IsFresh ts
    → ((us : List Token) → IsFresh us → parse (suc n) false us ws ≡ parse n (is_empty a us) (closed a us) rest)
    → parse (suc n) false (push s ts) (comma ∷ ws) ≡ parse n (is_empty (with_alternative s a) ts) (closed (with_alternative s a) ts) rest
another-alternative done a n ts ws rest f h = comma-alternative n ts ws ∙ rw (f.0) (h ts f)
another-alternative (next p s) a n ts ws rest f h =
    let (o, c, e) = ended-push s (part p ∷ ts) (refl, refl, refl) in
    let us : List Token = push s (part p ∷ ts) in
    let k : parse (suc n) false (Or ∷ us) ws ≡ parse n (is_empty a (Or ∷ us)) (closed a (Or ∷ us)) rest = h (Or ∷ us) (refl, refl) in
    let l : parse (suc n) false (Or ∷ us) ws ≡ parse n false (Close ∷ push_more a us) rest = rw (closed-or a us, is_empty-or a us) at k in
    comma-alternative n us ws ∙ rw o l
another-alternative (group b s) a n ts ws rest f h =
    let us : List Token = push s (Close ∷ push_first b (Open ∷ ts)) in
    let (o, c, e) = ended-push s (Close ∷ push_first b (Open ∷ ts)) (refl, refl, refl) in
    let k : parse (suc n) false (Or ∷ us) ws ≡ parse n (is_empty a (Or ∷ us)) (closed a (Or ∷ us)) rest = h (Or ∷ us) (refl, refl) in
    let l : parse (suc n) false (Or ∷ us) ws ≡ parse n false (Close ∷ push_more a us) rest = rw (closed-or a us, is_empty-or a us) at k in
    comma-alternative n us ws ∙ rw o l

-- 3. The rules.

star-here : (start : Bool) (n : ℕ) (e : Bool) (ts : List Token) (ws : List Lexeme) → start && has_dirs (asterisk ∷ ws) ≡ false → Agrees n start e ts (asterisk ∷ ws) → IsStarHere n e ts ws
star-here true n e ts ws h a = inr (inr (a, h))
star-here false n e ts ws h (inl a) = inl a
star-here false n e ts ws h (inr (a, k)) = inr (inl k)

elsewhere : (p : Position) → p ≢ Start → position_after_group p ≡ Elsewhere
elsewhere Start h = absurd (h refl)
elsewhere p h = refl

elsewhere-group : (p : Position) → position_after_group p ≢ Start → position_after_group p ≡ Elsewhere
elsewhere-group Start h = absurd (h refl)
elsewhere-group p h = refl

after-group : (start : Bool) (n : ℕ) (e : Bool) (ts : List Token) (ws after : List Lexeme) → Agrees n start e ts (open_brace ∷ ws) → Agrees n start true ts after
after-group true n true ts ws after a = a
after-group true n false ts ws after a = rw a refl
after-group false n true ts ws after (inl a) = inl a
after-group false n false ts ws after (inl a) = inl (rw a refl)
after-group false n true ts ws after (inr (a, k)) = inl (elsewhere-group (position_after ts) a)
after-group false n false ts ws after (inr (a, k)) = inl (elsewhere (position_after ts) a)

slash-start : AfterSlash ≢ Start
slash-start h = cc

leading-start : LeadingRun ≢ Start
leading-start h = cc

inner-start : InnerRun ≢ Start
inner-start h = cc

below-run : (n : ℕ) (ts : List Token) {ws after : List Lexeme} → Dirs ws after → (rest : List Lexeme) → after ≡ asterisk ∷ asterisk ∷ rest → ends (in_group n) rest ≡ true → parse n false (part (Byte 47) ∷ ts) ws ≡ parse n false (part Below ∷ ts) rest
below-run n ts none rest e h = rw e (last-step n false (part (Byte 47) ∷ ts) rest h)
below-run n ts (more {ws = ws} d) rest e h =
    dirs-step n false (part (Byte 47) ∷ ts) ws AfterSlash refl ∙ inner-run n ts d ∙ rw e (last-step n false (part InnerDirs ∷ ts) rest h)

mutual
  unfolding parse

  parsed-spelled : {g start : Bool} {ws rest : List Lexeme} {s : Sequence} → Spells g start ws rest s → (n : ℕ) (e : Bool) (ts : List Token) → in_group n ≡ g → Agrees n start e ts ws → parse n e ts ws ≡ parse n false (push s ts) rest
  parsed-spelled (end {ws = ws} h) n e ts i a = end-step n e ts ws (rw i h)
  parsed-spelled (any_byte d) n e ts i a = parsed-spelled d n false (part AnyByte ∷ ts) i (inl refl)
  parsed-spelled (one_of {negated = negated} {ranges = ranges} d) n e ts i a = parsed-spelled d n false (part (OneOf (negated, ranges)) ∷ ts) i (inl refl)
  parsed-spelled (byte {b = b} h d) n e ts i a = parsed-spelled d n false (part (Byte b) ∷ ts) i (inl (rw h refl))
  parsed-spelled (comma_byte {ws = ws} d) n e ts i a = comma-step n e ts ws i ∙ parsed-spelled d n false (part (Byte 44) ∷ ts) i (inl refl)
  parsed-spelled (star {start = start} {ws = ws} h d) n e ts i a = star-step n e ts ws (star-here start n e ts ws h a) ∙ parsed-spelled d n false (part Star ∷ ts) i (inl refl)
  parsed-spelled (slash_byte {w = w} {ws = ws} h k d) n e ts i a = slash-step n e ts w ws h ∙ parsed-spelled d n false (part (Byte 47) ∷ ts) i (inr (slash-start, rw i k))
  parsed-spelled (leading {ws = ws} r k d) n e ts i a =
      dirs-step n e ts ws Start a ∙ leading-run n ts r ∙ parsed-spelled d n false (part LeadingDirs ∷ ts) i (inr (leading-start, rw i k))
  parsed-spelled (leading_last {ws = ws} {rest = rest} r k) n e ts i a =
      dirs-step n e ts ws Start a ∙ leading-run n ts r ∙ last-step n false (part LeadingDirs ∷ ts) rest (rw i k)
  parsed-spelled (inner {w = w} {ws = ws} h r k d) n e ts i a =
      slash-step n e ts w (asterisk ∷ asterisk ∷ slash ∷ ws) h ∙ dirs-step n false (part (Byte 47) ∷ ts) ws AfterSlash refl
      ∙ inner-run n ts r ∙ parsed-spelled d n false (part InnerDirs ∷ ts) i (inr (inner-start, rw i k))
  parsed-spelled (below {w = w} {ws = ws} {rest = rest} h r k) n e ts i a = slash-step n e ts w ws h ∙ below-run n ts r rest refl (rw i k)
  parsed-spelled (empty_group {start = start} {ws = ws} {after = after} b d) n e ts i a =
      parsed-alternatives b n (Open ∷ ts) (refl, refl) ∙ parsed-spelled d n true ts i (after-group start n e ts ws after a)
  parsed-spelled (whole_group {first = first} {others = others} b d) n e ts i a =
      parsed-alternatives b n (Open ∷ ts) (refl, refl) ∙ parsed-spelled d n false (Close ∷ push_more others (push first (Open ∷ ts))) i (inl refl)

  parsed-alternatives : {ws rest : List Lexeme} {a : Alternatives} → SpellsAlternatives ws rest a → (n : ℕ) (ts : List Token) → IsFresh ts → parse (suc n) false ts ws ≡ parse n (is_empty a ts) (closed a ts) rest
  parsed-alternatives (last {rest = rest} {s = s} d) n ts f = parsed-spelled d (suc n) false ts refl (f.1) ∙ last-alternative s n ts rest
  parsed-alternatives (another {after = after} {rest = rest} {s = s} {a = a} d k) n ts f =
      parsed-spelled d (suc n) false ts refl (f.1) ∙ another-alternative s a n ts after rest f (λ us g. parsed-alternatives k n us g)

-- 4. Patterns.

pub tokens_of-parse : (text : List ℕ) → only_dirs (map symbol_of text) ≡ false → tokens_of text ≡ parse 0 false [] (lexemes (map symbol_of text))
unfolding tokens_of
tokens_of-parse text h = rw h refl

pub tokens_of-dirs : (text : List ℕ) → only_dirs (map symbol_of text) ≡ true → tokens_of text ≡ Ok (part Everything ∷ [])
unfolding tokens_of
tokens_of-dirs text h = rw h refl

parsed-pattern : (s : Sequence) (ws : List Lexeme) → Spells false true ws [] s → parse 0 false [] ws ≡ Ok (reverse (push s []))
unfolding parse
parsed-pattern s ws d = parsed-spelled d zero false [] refl refl

pub spelled_globs_are_parsed : SpelledGlobsAreParsed
spelled_globs_are_parsed text s (inl (h, e)) = (part Everything ∷ [], tokens_of-dirs text h, rw e refl)
spelled_globs_are_parsed text s (inr (h, d)) =
    (reverse (push s []), tokens_of-parse text h ∙ parsed-pattern s (lexemes (map symbol_of text)) d, reading_of-push s (has-spelled d))

pub same-tokens : (ts us : List Token) (r : Result (List Token) GlobError) → r ≡ Ok ts → r ≡ Ok us → ts ≡ us
same-tokens ts us r h k = cc

pub spelling_is_unique : SpellingIsUnique
spelling_is_unique text first second h k =
    let (ts, e, r) = spelled_globs_are_parsed text first h in
    let (us, f, q) = spelled_globs_are_parsed text second k in
    let same : ts ≡ us = same-tokens ts us (tokens_of text) e f in
    ap (λ (x : Reading). x.here) (sym r ∙ ap reading_of same ∙ q)
