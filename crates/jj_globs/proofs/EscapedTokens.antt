-- Parsing of escaped strings: a literal token for each byte.
use Rattle.std.proofs.Common.{◌≡◌, ℕ, zero, Bool, false, ◌==◌, if◌then◌else◌, List, [], ◌∷◌, ◌++◌, map, reverse, Ok, inl, inr, refl, sym, ap, ◌∙◌, subst, append_assoc}
use Rattle.std.proofs.lemmas.Bool.Decides.{eqb_tells}
use Rattle.std.proofs.lemmas.List.{append-nil, map-append, reverse-append}
use Rattle.jj_globs.specs.declared.glob.token.Part.{Part}
use Rattle.jj_globs.specs.declared.glob.token.Part.TheVariants.{Byte, Star, OneOf}
use Rattle.jj_globs.specs.declared.glob.token.Token.{Token}
use Rattle.jj_globs.specs.declared.glob.token.Token.TheVariants.{Part as part}
use Rattle.jj_globs.specs.declared.glob.symbol.Symbol.{Symbol}
use Rattle.jj_globs.specs.declared.glob.symbol.Symbol.TheVariants.{Asterisk, Other}
use Rattle.jj_globs.specs.GlobSyntax.{tokens_of, lexemes, parse, only_dirs, symbol_of, asterisk}
use Rattle.jj_globs.proofs.ParserSteps.{tokens_of-parse}
use Rattle.jj_globs.specs.GlobEscape.{is_special, escaped_byte, literal_glob}

-- the part of an escaped byte
abbrev pub part_of : ℕ → Part
part_of b = if is_special b then OneOf (false, record { first = b; last = b } ∷ []) else Byte b

abbrev pub tokens_for : List ℕ → List Token
tokens_for [] = []
tokens_for (b ∷ bs) = part (part_of b) ∷ tokens_for bs

-- prepends the tokens of the bytes to reversed tokens
abbrev pushed : List ℕ → List Token → List Token
pushed [] ts = ts
pushed (b ∷ bs) ts = pushed bs (part (part_of b) ∷ ts)

-- a byte without a role in the syntax
record IsPlainByte (b : ℕ) : Type 0 where
  symbol : symbol_of b ≡ Other b
  special : is_special b ≡ false

decide : (n b : ℕ) (P : ℕ → Type 0) → P n → ((b == n) ≡ false → P b) → P b
decide n b P here there = elim (eqb_tells b n) [ inl w ↦ subst P (sym w.1) here | inr w ↦ there w.0 ]

plain_byte : (b : ℕ) → (b == 63) ≡ false → (b == 42) ≡ false → (b == 47) ≡ false → (b == 123) ≡ false → (b == 44) ≡ false → (b == 125) ≡ false
    → (b == 91) ≡ false → (b == 93) ≡ false → (b == 33) ≡ false → (b == 94) ≡ false → (b == 45) ≡ false → (b == 92) ≡ false → IsPlainByte b
plain_byte b h0 h1 h2 h3 h4 h5 h6 h7 h8 h9 h10 h11 = record {
  symbol = rw (h0, h1, h2, h3, h4, h5, h6, h7, h8, h9, h10, h11) refl;
  special = rw (h0, h1, h6, h7, h3, h5, h11) refl;
}

-- case analysis of a byte by its role in the syntax
by_byte : (P : ℕ → Type 0) → P 63 → P 42 → P 47 → P 123 → P 44 → P 125 → P 91 → P 93 → P 33 → P 94 → P 45 → P 92
    → ((b : ℕ) → IsPlainByte b → P b) → (b : ℕ) → P b
by_byte P p0 p1 p2 p3 p4 p5 p6 p7 p8 p9 p10 p11 others b =
    decide 63 b P p0 (λ h0. decide 42 b P p1 (λ h1. decide 47 b P p2 (λ h2. decide 123 b P p3 (λ h3.
    decide 44 b P p4 (λ h4. decide 125 b P p5 (λ h5. decide 91 b P p6 (λ h6. decide 93 b P p7 (λ h7.
    decide 33 b P p8 (λ h8. decide 94 b P p9 (λ h9. decide 45 b P p10 (λ h10. decide 92 b P p11 (λ h11.
    others b (plain_byte b h0 h1 h2 h3 h4 h5 h6 h7 h8 h9 h10 h11)))))))))))))

plain-escaped : (b : ℕ) → IsPlainByte b → escaped_byte b ≡ b ∷ []
plain-escaped b plain = ap (λ (s : Bool). if s then 91 ∷ b ∷ 93 ∷ [] else b ∷ []) plain.special

plain-part : (b : ℕ) → IsPlainByte b → part_of b ≡ Byte b
plain-part b plain = ap (λ (s : Bool). if s then OneOf (false, record { first = b; last = b } ∷ []) else Byte b) plain.special

-- an escaped byte after other tokens
abbrev Steps : ℕ → Type 0
Steps b = (ts : List Token) (s : List Symbol) → parse zero false ts (lexemes (map symbol_of (escaped_byte b) ++ s)) ≡ parse zero false (part (part_of b) ∷ ts) (lexemes s)

step : (b : ℕ) → Steps b
unfolding lexemes parse
step =
    by_byte Steps (λ ts s. refl) (λ ts s. refl) (λ ts s. refl) (λ ts s. refl) (λ ts s. refl) (λ ts s. refl) (λ ts s. refl) (λ ts s. refl)
    (λ ts s. refl) (λ ts s. refl) (λ ts s. refl) (λ ts s. refl)
    (λ b plain ts s. ap (λ (l : List ℕ). parse zero false ts (lexemes (map symbol_of l ++ s))) (plain-escaped b plain)
    ∙ ap (λ (g : Symbol). parse zero false ts (lexemes (g ∷ s))) plain.symbol
    ∙ ap (λ (p : Part). parse zero false (part p ∷ ts) (lexemes s)) (sym (plain-part b plain)))

-- an escaped byte after a star that begins the pattern
abbrev StarSteps : ℕ → Type 0
StarSteps b = (s : List Symbol) → parse zero false [] (asterisk ∷ lexemes (map symbol_of (escaped_byte b) ++ s)) ≡ parse zero false (part (part_of b) ∷ part Star ∷ []) (lexemes s)

star_step : (b : ℕ) → StarSteps b
unfolding lexemes parse
star_step =
    by_byte StarSteps (λ s. refl) (λ s. refl) (λ s. refl) (λ s. refl) (λ s. refl) (λ s. refl) (λ s. refl) (λ s. refl)
    (λ s. refl) (λ s. refl) (λ s. refl) (λ s. refl)
    (λ b plain s. ap (λ (l : List ℕ). parse zero false [] (asterisk ∷ lexemes (map symbol_of l ++ s))) (plain-escaped b plain)
    ∙ ap (λ (g : Symbol). parse zero false [] (asterisk ∷ lexemes (g ∷ s))) plain.symbol
    ∙ ap (λ (p : Part). parse zero false (part p ∷ part Star ∷ []) (lexemes s)) (sym (plain-part b plain)))

regroup : (b : ℕ) (t : List ℕ) (s : List Symbol) → map symbol_of (literal_glob (b ∷ t)) ++ s ≡ map symbol_of (escaped_byte b) ++ (map symbol_of (literal_glob t) ++ s)
unfolding literal_glob
regroup b t s =
    ap (λ (l : List Symbol). l ++ s) (map-append symbol_of (escaped_byte b) (literal_glob t)) ∙ append_assoc (map symbol_of (escaped_byte b)) (map symbol_of (literal_glob t)) s

steps : (t : List ℕ) (ts : List Token) (s : List Symbol) → parse zero false ts (lexemes (map symbol_of (literal_glob t) ++ s)) ≡ parse zero false (pushed t ts) (lexemes s)
unfolding literal_glob
steps [] ts s = refl
steps (b ∷ t) ts s =
    ap (λ (l : List Symbol). parse zero false ts (lexemes l)) (regroup b t s) ∙ step b ts (map symbol_of (literal_glob t) ++ s)
    ∙ steps t (part (part_of b) ∷ ts) s

reverse_pushed : (t : List ℕ) (ts : List Token) → reverse (pushed t ts) ≡ reverse ts ++ tokens_for t
reverse_pushed [] ts = sym (append-nil (reverse ts))
reverse_pushed (b ∷ t) ts =
    let x = part (part_of b) in
    reverse_pushed t (x ∷ ts) ∙ ap (λ (l : List Token). l ++ tokens_for t) (reverse-append (x ∷ []) ts)
    ∙ append_assoc (reverse ts) (x ∷ []) (tokens_for t)

-- an escaped string does not begin with a star, so it is no list of `**` components, nor is a star
-- with it
abbrev NoRun : ℕ → Type 0
NoRun b = (s : List Symbol) → (only_dirs (map symbol_of (escaped_byte b) ++ s) ≡ false) × (only_dirs (Asterisk ∷ (map symbol_of (escaped_byte b) ++ s)) ≡ false)

no_run : (b : ℕ) → NoRun b
no_run =
    by_byte NoRun (λ s. (refl, refl)) (λ s. (refl, refl)) (λ s. (refl, refl)) (λ s. (refl, refl)) (λ s. (refl, refl)) (λ s. (refl, refl))
    (λ s. (refl, refl)) (λ s. (refl, refl)) (λ s. (refl, refl)) (λ s. (refl, refl)) (λ s. (refl, refl)) (λ s. (refl, refl))
    (λ b plain s.
    let signs : map symbol_of (escaped_byte b) ++ s ≡ Other b ∷ s =
    ap (λ (l : List ℕ). map symbol_of l ++ s) (plain-escaped b plain) ∙ ap (λ (g : Symbol). g ∷ s) plain.symbol in
    (ap only_dirs signs, ap (λ (l : List Symbol). only_dirs (Asterisk ∷ l)) signs))

no_run-escaped : (t : List ℕ) → only_dirs (map symbol_of (literal_glob t)) ≡ false
unfolding literal_glob
no_run-escaped [] = refl
no_run-escaped (b ∷ t) = ap only_dirs (map-append symbol_of (escaped_byte b) (literal_glob t)) ∙ (no_run b (map symbol_of (literal_glob t))).0

-- an escaped string parses as its bytes
pub tokens_of-escaped : (t : List ℕ) → tokens_of (literal_glob t) ≡ Ok (tokens_for t)
unfolding lexemes parse
tokens_of-escaped t =
    tokens_of-parse (literal_glob t) (no_run-escaped t)
    ∙ ap (λ (l : List Symbol). parse zero false [] (lexemes l)) (sym (append-nil (map symbol_of (literal_glob t)))) ∙ steps t [] []
    ∙ ap Ok (reverse_pushed t [])

-- an escaped string between two stars parses as its bytes between two stars
pub tokens_of-part : (b : ℕ) (t : List ℕ) → tokens_of (42 ∷ (literal_glob (b ∷ t) ++ 42 ∷ [])) ≡ Ok (part Star ∷ (tokens_for (b ∷ t) ++ part Star ∷ []))
unfolding lexemes parse
tokens_of-part b t =
    let end = Asterisk ∷ [] in
    let signs = map-append symbol_of (literal_glob (b ∷ t)) (42 ∷ []) ∙ regroup b t end in
    tokens_of-parse (42 ∷ (literal_glob (b ∷ t) ++ 42 ∷ []))
    (ap (λ (l : List Symbol). only_dirs (Asterisk ∷ l)) signs ∙ (no_run b (map symbol_of (literal_glob t) ++ end)).1)
    ∙ ap (λ (l : List Symbol). parse zero false [] (asterisk ∷ lexemes l)) signs
    ∙ star_step b (map symbol_of (literal_glob t) ++ end) ∙ steps t (part (part_of b) ∷ part Star ∷ []) end
    ∙ ap Ok (reverse-append (part Star ∷ []) (pushed t (part (part_of b) ∷ part Star ∷ []))
    ∙ ap (λ (l : List Token). l ++ part Star ∷ []) (reverse_pushed t (part (part_of b) ∷ part Star ∷ [])))
