-- Correctness of glob matching and prefix matching, and patterns of only stars, which match everything in prefix mode.
use Rattle.std.proofs.Common.{◌≡◌, ◌∙◌, ◌↔◌, IsTrue, ap, sym, subst, refl, ℕ, Bool, true, false, not, ◌==◌, ◌&&◌, ◌||◌, ◌⊎◌, inl, inr, List, [], ◌∷◌, ◌++◌, map, reverse, Result, Ok, Err, append_assoc, append-nil, zero}
use mathlib.Core.Bool.{false≢true}
use mathlib.Core.List.{reverse_aux}
use Rattle.std.specs.Bool.{Decides}
use Rattle.std.specs.Cmp.{both_ways}
use Rattle.std.specs.List.{list_all}
use Rattle.std.proofs.lemmas.Bool.{and_from, and_parts, or_cases, or_left, or_right}
use Rattle.std.proofs.lemmas.Bool.Decides.{Decides-eqb}
use Rattle.jj_globs.specs.declared.glob.token.Part.TheVariants.{Star, Everything}
use Rattle.jj_globs.specs.declared.glob.token.Token.{Token}
use Rattle.jj_globs.specs.declared.glob.token.Token.TheVariants.{Part as part}
use Rattle.jj_globs.specs.declared.glob.token.Options.{Options}
use Rattle.jj_globs.specs.declared.glob.error.GlobError.{GlobError}
use Rattle.jj_globs.specs.GlobSyntax.{tokens_of, lexemes, parse, only_dirs, symbol_of, Lexeme, asterisk}
use Rattle.jj_globs.specs.declared.glob.symbol.Symbol.{Symbol}
use Rattle.jj_globs.specs.declared.glob.symbol.Symbol.TheVariants.{Asterisk}
use Rattle.jj_globs.specs.GlobMeaning.{GlobSpec, IsMatch, IsPrefixMatch, is_plain}
use Rattle.jj_globs.specs.GlobBacktracking.{Test, tests_of, outcome, outcome_of, many, any_byte, is_empty}
use Rattle.jj_matchers.specs.Patterns.{is_yes, is_match, is_prefix_match, passes_before_slash, is_stars}
use Rattle.jj_globs.proofs.BacktrackingSound.{DecidesAll, DecidesAll-glob}
use Rattle.jj_globs.proofs.BalancedGroups.{closed-tokens_of}
use Rattle.jj_globs.proofs.ParserSteps.{tokens_of-parse, tokens_of-only_dirs}

-- 1. Matches.

is_yes-outcome_of : (b : Bool) → is_yes (outcome_of b) ≡ b
is_yes-outcome_of true = refl
is_yes-outcome_of false = refl

pub DecidesAll-is_match : (g : GlobSpec) → DecidesAll (is_match g) (IsMatch g)
unfolding is_match
DecidesAll-is_match g bytes = by_tokens (tokens_of g.text) refl
  where
    by_tokens : (r : Result (List Token) GlobError) → tokens_of g.text ≡ r → Decides (is_yes (outcome g.options bytes r)) (IsMatch g bytes)
    by_tokens (Ok ts) e =
        let tells = DecidesAll-glob g ts e (closed-tokens_of g.text ts e) bytes in
        let same = is_yes-outcome_of ((tests_of g.options ts).here bytes) in
        ((λ h. tells.0 (sym same ∙ h)), (λ m. same ∙ tells.1 m))
    by_tokens (Err error) e = ((λ h. absurd (false≢true h)), (λ m. let clash : Err error ≡ Ok m.0 = sym e ∙ m.1 in cc))

-- 2. Prefix matches.

before_slash : (test : Test) (before bytes : List ℕ) → passes_before_slash test before bytes ≡ true → (front : List ℕ) × ((rest : List ℕ) × ((bytes ≡ front ++ 47 ∷ rest) × (test (before ++ front) ≡ true)))
before_slash test before [] h = absurd (false≢true h)
before_slash test before (b ∷ bytes) h = elim (or_cases ((b == 47) && test before) (passes_before_slash test (before ++ b ∷ []) bytes) h) [
  | inl here ↦
      let parts = and_parts (b == 47) (test before) here in
      ([], (bytes, (ap (λ x. x ∷ bytes) ((Decides-eqb b 47).0 parts.0), ap test (append-nil before) ∙ parts.1)))
  | inr later ↦
      let found = before_slash test (before ++ b ∷ []) bytes later in
      (b ∷ found.0, (found.1.0, (ap (λ l. b ∷ l) found.1.1.0, ap test (sym (append_assoc before (b ∷ []) found.0)) ∙ found.1.1.1)))
]

at_slash : (test : Test) (before front rest : List ℕ) → test (before ++ front) ≡ true → passes_before_slash test before (front ++ 47 ∷ rest) ≡ true
at_slash test before [] rest h = or_left (test before) (passes_before_slash test (before ++ 47 ∷ []) rest) (ap test (sym (append-nil before)) ∙ h)
at_slash test before (b ∷ front) rest h = or_right ((b == 47) && test before) (passes_before_slash test (before ++ b ∷ []) (front ++ 47 ∷ rest)) (at_slash test (before ++ b ∷ []) front rest (ap test (append_assoc before (b ∷ []) front) ∙ h))

pub DecidesAll-is_prefix_match : (g : GlobSpec) → DecidesAll (is_prefix_match g) (IsPrefixMatch g)
unfolding is_prefix_match
DecidesAll-is_prefix_match g bytes = (to, from)
  where
    to : (is_match g bytes || passes_before_slash (is_match g) [] bytes) ≡ true → IsPrefixMatch g bytes
    to h = elim (or_cases (is_match g bytes) (passes_before_slash (is_match g) [] bytes) h) [
      | inl here ↦ inl ((DecidesAll-is_match g bytes).0 here)
      | inr later ↦
          let found = before_slash (is_match g) [] bytes later in
          inr (found.0, found.1.0, found.1.1.0, (DecidesAll-is_match g found.0).0 found.1.1.1)
    ]

    from : IsPrefixMatch g bytes → (is_match g bytes || passes_before_slash (is_match g) [] bytes) ≡ true
    from p = elim p [
      | inl m ↦ or_left (is_match g bytes) (passes_before_slash (is_match g) [] bytes) ((DecidesAll-is_match g bytes).1 m)
      | inr w ↦ or_right (is_match g bytes) (passes_before_slash (is_match g) [] bytes) (ap (passes_before_slash (is_match g) []) w.2 ∙ at_slash (is_match g) [] w.0 w.1 ((DecidesAll-is_match g w.0).1 w.3))
    ]

-- paths below a prefix match are prefix matches
pub prefix_match_below : (g : GlobSpec) (bytes more : List ℕ) → is_prefix_match g bytes ≡ true → is_prefix_match g (bytes ++ 47 ∷ more) ≡ true
prefix_match_below g bytes more h = (DecidesAll-is_prefix_match g (bytes ++ 47 ∷ more)).1 (longer ((DecidesAll-is_prefix_match g bytes).0 h))
  where
    longer : IsPrefixMatch g bytes → IsPrefixMatch g (bytes ++ 47 ∷ more)
    longer p = elim p [
      | inl m ↦ inr (bytes, more, refl, m)
      | inr w ↦ inr (w.0, w.1 ++ 47 ∷ more, ap (λ x. x ++ 47 ∷ more) w.2 ∙ append_assoc w.0 (47 ∷ w.1) (47 ∷ more), w.3)
    ]

-- 3. Patterns of only stars.

abbrev star_words : List ℕ → List Lexeme
star_words [] = []
star_words (b ∷ bytes) = asterisk ∷ star_words bytes

abbrev star_tokens : List ℕ → List Token
star_tokens [] = []
star_tokens (b ∷ bytes) = part Star ∷ star_tokens bytes

abbrev are_stars : List ℕ → Bool
are_stars text = list_all (λ c. c == 42) text

lexemes-stars : (text : List ℕ) → are_stars text ≡ true → lexemes (map symbol_of text) ≡ star_words text
unfolding lexemes
lexemes-stars [] h = refl
lexemes-stars (b ∷ text) h =
    let parts = and_parts (b == 42) (are_stars text) h in
    let first : b ≡ 42 = (Decides-eqb b 42).0 parts.0 in
    ap (λ x. lexemes (symbol_of x ∷ map symbol_of text)) first ∙ ap (λ ws. asterisk ∷ ws) (lexemes-stars text parts.1)

-- after a star, each further star is parsed as one
parse-stars : (text : List ℕ) (b : ℕ) (before : List ℕ) → (all : List ℕ) × (parse zero false (part Star ∷ star_tokens before) (star_words text) ≡ Ok (reverse (part Star ∷ star_tokens all)))
unfolding parse
parse-stars [] b before = (before, refl)
parse-stars (c ∷ []) b before = (b ∷ before, refl)
parse-stars (c ∷ d ∷ []) b before = (b ∷ b ∷ before, refl)
parse-stars (c ∷ d ∷ e ∷ text) b before = parse-stars (e ∷ text) b (b ∷ b ∷ before)

stars_reversed : (stars : List ℕ) (b : ℕ) (before : List ℕ) → (all : List ℕ) × (reverse_aux (star_tokens stars) (part Star ∷ star_tokens before) ≡ part Star ∷ star_tokens all)
stars_reversed [] b before = (before, refl)
stars_reversed (c ∷ stars) b before = stars_reversed stars b (b ∷ before)

one_star : parse zero false [] (asterisk ∷ []) ≡ Ok (part Star ∷ [])
unfolding parse
one_star = refl

abbrev asterisks : List ℕ → List Symbol
asterisks [] = []
asterisks (b ∷ bytes) = Asterisk ∷ asterisks bytes

signs-stars : (text : List ℕ) → are_stars text ≡ true → map symbol_of text ≡ asterisks text
signs-stars [] h = refl
signs-stars (b ∷ text) h =
    let parts = and_parts (b == 42) (are_stars text) h in
    let first : b ≡ 42 = (Decides-eqb b 42).0 parts.0 in
    ap (λ (x : ℕ). symbol_of x ∷ map symbol_of text) first ∙ ap (λ (s : List Symbol). Asterisk ∷ s) (signs-stars text parts.1)

first_stars : (d : ℕ) (text : List ℕ) (b c : ℕ) → parse zero false [] (star_words (b ∷ c ∷ d ∷ text)) ≡ parse zero false (part Star ∷ star_tokens (b ∷ [])) (star_words (d ∷ text))
unfolding parse
first_stars d text b c = refl

-- two stars are parsed as one part, any other number as so many stars
tokens_of-stars : (text : List ℕ) → is_stars text ≡ true → (tokens_of text ≡ Ok (part Everything ∷ [])) ⊎ ((all : List ℕ) × (tokens_of text ≡ Ok (part Star ∷ star_tokens all)))
tokens_of-stars [] h = absurd (false≢true h)
tokens_of-stars (b ∷ []) h =
    inr ([], tokens_of-parse (b ∷ []) (ap only_dirs (signs-stars (b ∷ []) h)) ∙ ap (parse zero false []) (lexemes-stars (b ∷ []) h) ∙ one_star)
tokens_of-stars (b ∷ c ∷ []) h = inl (tokens_of-only_dirs (b ∷ c ∷ []) (ap only_dirs (signs-stars (b ∷ c ∷ []) h)))
tokens_of-stars (b ∷ c ∷ d ∷ text) h =
    let all = b ∷ c ∷ d ∷ text in
    let further = parse-stars (d ∷ text) b (b ∷ []) in
    let back = stars_reversed further.0 b [] in
    inr (
      back.0,
      tokens_of-parse all (ap only_dirs (signs-stars all h)) ∙ ap (parse zero false []) (lexemes-stars all h) ∙ first_stars d text b c ∙ further.1
          ∙ ap (λ (ts : List Token). Ok ts) back.1,
    )

many_all : (p : ℕ → Bool) (next : Test) (bytes : List ℕ) → list_all p bytes ≡ true → next [] ≡ true → many p next bytes ≡ true
many_all p next [] h e = e
many_all p next (b ∷ bytes) h e =
    let parts = and_parts (p b) (list_all p bytes) h in
    or_right (next (b ∷ bytes)) (p b && many p next bytes) (and_from (p b) (many p next bytes) parts.0 (many_all p next bytes parts.1 e))

stars_of_nothing : (o : Options) (stars : List ℕ) → (tests_of o (star_tokens stars)).here [] ≡ true
stars_of_nothing o [] = refl
stars_of_nothing o (b ∷ stars) = stars_of_nothing o stars

abbrev is_no_slash : ℕ → Bool
is_no_slash b = not (b == 47)

plain_if : (separator slash : Bool) → not slash ≡ true → not (separator && slash) ≡ true
plain_if true slash h = h
plain_if false slash h = refl

all_plain : (o : Options) (bytes : List ℕ) → list_all is_no_slash bytes ≡ true → list_all (is_plain o) bytes ≡ true
all_plain o [] h = refl
all_plain o (b ∷ bytes) h =
    let parts = and_parts (is_no_slash b) (list_all is_no_slash bytes) h in
    and_from (is_plain o b) (list_all (is_plain o) bytes) (plain_if o.separator (b == 47) parts.0) (all_plain o bytes parts.1)

all_any : (bytes : List ℕ) → list_all any_byte bytes ≡ true
all_any [] = refl
all_any (b ∷ bytes) = all_any bytes

-- a pattern of only stars matches all strings without slashes
stars_match : (g : GlobSpec) → is_stars g.text ≡ true → (bytes : List ℕ) → list_all is_no_slash bytes ≡ true → is_match g bytes ≡ true
unfolding is_match
stars_match g stars bytes plain = elim (tokens_of-stars g.text stars) [
  | inl e ↦ ap (λ r. is_yes (outcome g.options bytes r)) e ∙ is_yes-outcome_of ((tests_of g.options (part Everything ∷ [])).here bytes) ∙ many_all any_byte is_empty bytes (all_any bytes) refl
  | inr w ↦ ap (λ r. is_yes (outcome g.options bytes r)) w.1 ∙ is_yes-outcome_of ((tests_of g.options (part Star ∷ star_tokens w.0)).here bytes)
      ∙ many_all (is_plain g.options) (tests_of g.options (star_tokens w.0)).here bytes (all_plain g.options bytes plain) (stars_of_nothing g.options w.0)
]

-- the prefix of a string before its first slash
up_to_slash : (bytes : List ℕ) → (front : List ℕ) × ((list_all is_no_slash front ≡ true) × ((bytes ≡ front) ⊎ ((rest : List ℕ) × (bytes ≡ front ++ 47 ∷ rest))))
up_to_slash [] = ([], (refl, inl refl))
up_to_slash (b ∷ bytes) = by_byte (b == 47) refl (up_to_slash bytes)
  where
    by_byte : (t : Bool) → (b == 47) ≡ t → (front : List ℕ) × ((list_all is_no_slash front ≡ true) × ((bytes ≡ front) ⊎ ((rest : List ℕ) × (bytes ≡ front ++ 47 ∷ rest)))) →
        (front : List ℕ) × ((list_all is_no_slash front ≡ true) × ((b ∷ bytes ≡ front) ⊎ ((rest : List ℕ) × (b ∷ bytes ≡ front ++ 47 ∷ rest))))
    by_byte true e later = ([], (refl, inr (bytes, ap (λ x. x ∷ bytes) ((Decides-eqb b 47).0 e))))
    by_byte false e later = (
      b ∷ later.0,
      (
        and_from (is_no_slash b) (list_all is_no_slash later.0) (ap not e) later.1.0,
        elim later.1.1 [
          | inl all ↦ inl (ap (λ l. b ∷ l) all)
          | inr w ↦ inr (w.0, ap (λ l. b ∷ l) w.1)
        ],
      ),
    )

-- a pattern of only stars has a prefix match with every string
pub stars_fit : (g : GlobSpec) → is_stars g.text ≡ true → (bytes : List ℕ) → is_prefix_match g bytes ≡ true
stars_fit g stars bytes =
    let up = up_to_slash bytes in
    let m : IsMatch g up.0 = (DecidesAll-is_match g up.0).0 (stars_match g stars up.0 up.1.0) in
    (DecidesAll-is_prefix_match g bytes).1 (elim up.1.1 [
      | inl all ↦ inl (subst (IsMatch g) (sym all) m)
      | inr w ↦ inr (up.0, w.0, w.1, m)
    ])

-- equal arguments: a decision of the proposition is the result of the predicate
pub told : (test : GlobSpec → List ℕ → Bool) (M : GlobSpec → List ℕ → Type 0) (result : Bool) (glob glob' : GlobSpec) (bytes bytes' : List ℕ)
    → Decides (test glob bytes) (M glob bytes) → (IsTrue result ↔ M glob bytes) → glob ≡ glob' → bytes ≡ bytes' → result ≡ test glob' bytes'
told test M result glob glob' bytes bytes' tells asked same_glob same_bytes =
    both_ways result (test glob bytes) (λ h. tells.1 (asked.0 h)) (λ h. asked.1 (tells.0 h))
    ∙ ap (λ g. test g bytes) same_glob ∙ ap (test glob') same_bytes
