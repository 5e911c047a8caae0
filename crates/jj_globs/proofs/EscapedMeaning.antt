-- An escaped string matches only itself.
use Rattle.std.proofs.Common.{◌≡◌, ◌∙◌, sym, ap, refl, subst, ℕ, Bool, true, false, ◌==◌, if◌then◌else◌, ◌↔◌, List, [], ◌∷◌, ◌++◌, Ok, arith}
use Rattle.std.proofs.lemmas.Bool.Decides.{nat_tests}
use Rattle.std.proofs.lemmas.List.{append-nil}
use Rattle.jj_globs.specs.declared.glob.token.Part.TheVariants.{Byte, OneOf}
use Rattle.jj_globs.specs.declared.glob.token.Token.{Token}
use Rattle.jj_globs.specs.declared.glob.token.Options.{Options}
use Rattle.jj_globs.specs.GlobEscape.{is_special, literal_glob}
use Rattle.jj_globs.specs.GlobSyntax.{tokens_of}
use Rattle.jj_globs.specs.GlobMeaning.{IsMatch, Matches, MatchesPart, in_class, reading_of}
use Rattle.jj_globs.specs.GlobParsing.{glob_spec}
use Rattle.jj_globs.proofs.EscapedTokens.{tokens_for, tokens_of-escaped}

pub same_tokens : (text : List ℕ) (ts us : List Token) → tokens_of text ≡ Ok ts → tokens_of text ≡ Ok us → ts ≡ us
same_tokens text ts us p q = cc

module _ (separator : Bool) where
  -- the options of a case-sensitive glob
  abbrev plain : Options
  plain = record { separator = separator; icase = false }

  class_one : (b c : ℕ) → in_class plain (false, record { first = b; last = b } ∷ []) c ≡ true → c ≡ b
  class_one b c h = grind (arith, nat_tests)

  one_class : (b : ℕ) → in_class plain (false, record { first = b; last = b } ∷ []) b ≡ true
  one_class b = grind (arith, nat_tests)

  byte_one : (b c : ℕ) → (b == c) ≡ true → c ≡ b
  byte_one b c h = grind (arith, nat_tests)

  one_byte : (b : ℕ) → (b == b) ≡ true
  one_byte b = grind (arith, nat_tests)

  -- a literal byte matches only itself
  part_to : (special : Bool) (b : ℕ) (prefix : List ℕ)
      → MatchesPart plain (if special then OneOf (false, record { first = b; last = b } ∷ []) else Byte b) prefix → prefix ≡ b ∷ []
  part_to true b prefix s = s.1 ∙ ap (λ (c : ℕ). c ∷ []) (class_one b s.0 s.2)
  part_to false b prefix s = s.1 ∙ ap (λ (c : ℕ). c ∷ []) (byte_one b s.0 s.2)

  part_from : (special : Bool) (b : ℕ)
      → MatchesPart plain (if special then OneOf (false, record { first = b; last = b } ∷ []) else Byte b) (b ∷ [])
  part_from true b = (b, refl, one_class b)
  part_from false b = (b, refl, one_byte b)

  -- the tokens of a string match it and nothing else
  pub matches_to : (t : List ℕ) (ts : List Token) (bytes : List ℕ) → Matches plain (reading_of (tokens_for t ++ ts)).here bytes
      → (rest : List ℕ) × (bytes ≡ t ++ rest) × Matches plain (reading_of ts).here rest
  matches_to [] ts bytes s = (bytes, refl, s)
  matches_to (b ∷ t) ts bytes s =
      let more = matches_to t ts s.1 s.4 in
      (more.0, s.2 ∙ ap (λ (l : List ℕ). l ++ s.1) (part_to (is_special b) b s.0 s.3) ∙ ap (λ (l : List ℕ). b ∷ l) more.1, more.2)

  pub matches_from : (t : List ℕ) (ts : List Token) (rest : List ℕ) → Matches plain (reading_of ts).here rest
      → Matches plain (reading_of (tokens_for t ++ ts)).here (t ++ rest)
  matches_from [] ts rest s = s
  matches_from (b ∷ t) ts rest s = (b ∷ [], t ++ rest, refl, part_from (is_special b) b, matches_from t ts rest s)

  escaped_to : (t bytes : List ℕ) → IsMatch (glob_spec (literal_glob t) separator false) bytes → bytes ≡ t
  escaped_to t bytes m =
      let same : m.0 ≡ tokens_for t ++ [] = same_tokens (literal_glob t) m.0 (tokens_for t) m.1 (tokens_of-escaped t) ∙ sym (append-nil (tokens_for t)) in
      let found = matches_to t [] bytes (subst (λ (ts : List Token). Matches plain (reading_of ts).here bytes) same m.2) in
      found.1 ∙ ap (λ (l : List ℕ). t ++ l) found.2 ∙ append-nil t

  escaped_from : (t bytes : List ℕ) → bytes ≡ t → IsMatch (glob_spec (literal_glob t) separator false) bytes
  escaped_from t bytes e = (
    tokens_for t,
    tokens_of-escaped t,
    subst (λ (l : List ℕ). Matches plain (reading_of (tokens_for t)).here l) (append-nil t ∙ sym e)
        (subst (λ (ts : List Token). Matches plain (reading_of ts).here (t ++ [])) (append-nil (tokens_for t)) (matches_from t [] [] refl)),
  )

  -- an escaped string matches the string and nothing else
  pub escaped_alone : (t bytes : List ℕ) → IsMatch (glob_spec (literal_glob t) separator false) bytes ↔ (bytes ≡ t)
  escaped_alone t bytes = (escaped_to t bytes, escaped_from t bytes)
