-- A string has one list of tokens or an error, and spells at most one tree or has one error.
use Rattle.std.proofs.Common.{◌≡◌, ◌∙◌, ℕ, ◌-◌, Bool, true, false, List, ◌∷◌, length, Result, Ok, Err, ap, sym, refl, subst, inl, inr}
use Rattle.jj_filesets.specs.declared.fileset.error.FilesetParseError.{FilesetParseError}
use Rattle.jj_filesets.specs.declared.fileset.error.FilesetParseError.TheVariants.{Syntax}
use Rattle.jj_filesets.specs.declared.fileset.error.FilesetParseErrorKind.{FilesetParseErrorKind}
use Rattle.jj_filesets.specs.declared.fileset.token.Lexeme.{Lexeme}
use Rattle.jj_filesets.specs.SyntaxTrees.{SyntaxTree}
use Rattle.jj_filesets.specs.Strings.{is_space}
use Rattle.jj_filesets.specs.Tokens.{token_at, Tokenizes, end, space, next, HasTokenError, here, after_space, later}
use Rattle.jj_filesets.specs.Grammar.{Derives, expression}
use Rattle.jj_filesets.specs.Programs.{postfix, tree_of-postfix}
use Rattle.jj_filesets.specs.Expressions.{IsTokenOrderError, ParseErrorIsUnique, SpellingIsUnique}
use Rattle.jj_filesets.proofs.Derived.{parses}
use Rattle.jj_filesets.proofs.OneError.{order_error_determined}
use Rattle.jj_filesets.proofs.Trees.{tree_of-program}

module _ {X E : Type 0} where
  value_or : X → Result X E → X
  value_or x (Ok y) = y
  value_or x (Err e) = x

  -- a result is one value, and no error
  one_value : (r : Result X E) (x y : X) → r ≡ Ok x → r ≡ Ok y → x ≡ y
  unfolding value_or
  one_value r x y h k = ap (value_or x) (sym h ∙ k)

  not_both : (r : Result X E) (x : X) (e : E) → r ≡ Ok x → r ≡ Err e → ⊥
  not_both r x e h k = cc

one_bool : (b : Bool) → b ≡ true → b ≡ false → ⊥
one_bool b h k = cc

pub one_tokenization : {total : ℕ} {text : List ℕ} {first second : List Lexeme} → Tokenizes total text first → Tokenizes total text second → first ≡ second
one_tokenization end end = refl
one_tokenization (space h d) (space k e) = one_tokenization d e
one_tokenization (space {b = b} h d) (next k i e) = absurd (one_bool (is_space b) h k)
one_tokenization (next {b = b} h i d) (space k e) = absurd (one_bool (is_space b) k h)
one_tokenization {total = total} (next {b = b} {bs = bs} {rest = rest} {token = token} {lexemes = first} h i d) (next {rest = other} {token = tok} {lexemes = second} k j e) =
    let same : (token, rest) ≡ (tok, other) = one_value (token_at total (b ∷ bs)) (token, rest) (tok, other) i j in
    let rest_is : rest ≡ other = ap (λ p. p.1) same in
    let more : first ≡ second = one_tokenization (subst (λ l. Tokenizes total l first) rest_is d) e in
    λ n. record { at = total - length (b ∷ bs); token = (same n).0 } ∷ more n

pub no_tokenization : {total : ℕ} {error : FilesetParseError} {text : List ℕ} {lexemes : List Lexeme} → HasTokenError total error text → Tokenizes total text lexemes → ⊥
no_tokenization (here {b = b} h i) (space k d) = one_bool (is_space b) k h
no_tokenization {total = total} {error = error} (here {b = b} {bs = bs} h i) (next {rest = rest} {token = token} k j d) = not_both (token_at total (b ∷ bs)) (token, rest) error j i
no_tokenization (after_space h f) (space k d) = no_tokenization f d
no_tokenization (after_space {b = b} h f) (next k j d) = one_bool (is_space b) h k
no_tokenization (later {b = b} h i f) (space k d) = one_bool (is_space b) k h
no_tokenization {total = total} {error = error} (later {b = b} {bs = bs} {rest = rest} {token = token} h i f) (next {rest = other} {token = tok} k j d) =
    let same : (token, rest) ≡ (tok, other) = one_value (token_at total (b ∷ bs)) (token, rest) (tok, other) i j in
    no_tokenization (subst (HasTokenError total error) (ap (λ p. p.1) same) f) d

pub one_derivation : {lexemes : List Lexeme} {first second : SyntaxTree} → Derives expression lexemes first → Derives expression lexemes second → first ≡ second
one_derivation {first = first} {second = second} d e =
    let is = one_value _ (postfix first) (postfix second) (parses 0 d) (parses 0 e) in
    sym (tree_of-program (postfix second) first (sym is)) ∙ tree_of-postfix second

pub spelling_is_unique : SpellingIsUnique
spelling_is_unique text first second (ls, t, d) (ms, u, e) =
    one_derivation (subst (λ l. Derives expression l first) (one_tokenization t u) d) e

-- Errors.

module _ {X E : Type 0} where
  one_error : (r : Result X E) (x y : E) → r ≡ Err x → r ≡ Err y → x ≡ y
  one_error r x y h k = cc

one_token_error : {total : ℕ} {first second : FilesetParseError} {text : List ℕ} → HasTokenError total first text → HasTokenError total second text → first ≡ second
one_token_error {total = total} {first = first} {second = second} (here {b = b} {bs = bs} h i) (here k j) = one_error (token_at total (b ∷ bs)) first second i j
one_token_error (here {b = b} h i) (after_space k f) = absurd (one_bool (is_space b) k h)
one_token_error {total = total} {first = first} (here {b = b} {bs = bs} h i) (later {rest = rest} {token = token} k j f) = absurd (not_both (token_at total (b ∷ bs)) (token, rest) first j i)
one_token_error (after_space {b = b} h e) (here k j) = absurd (one_bool (is_space b) h k)
one_token_error (after_space h e) (after_space k f) = one_token_error e f
one_token_error (after_space {b = b} h e) (later k j f) = absurd (one_bool (is_space b) h k)
one_token_error {total = total} {second = second} (later {b = b} {bs = bs} {rest = rest} {token = token} h i e) (here k j) = absurd (not_both (token_at total (b ∷ bs)) (token, rest) second i j)
one_token_error (later {b = b} h i e) (after_space k f) = absurd (one_bool (is_space b) k h)
one_token_error {total = total} {first = first} (later {b = b} {bs = bs} {rest = rest} {token = token} h i e) (later {rest = other} {token = tok} k j f) =
    let same : (token, rest) ≡ (tok, other) = one_value (token_at total (b ∷ bs)) (token, rest) (tok, other) i j in
    one_token_error (subst (HasTokenError total first) (ap (λ p. p.1) same) e) f

one_syntax : (at other : ℕ) (kind found : FilesetParseErrorKind) → Syntax at kind ≡ Syntax other found → (at ≡ other) × (kind ≡ found)
one_syntax at other kind found is = (cc, cc)

one_order_error : (len : ℕ) (first second : List Lexeme) (at other : ℕ) (kind found : FilesetParseErrorKind) → first ≡ second → IsTokenOrderError len first at kind → IsTokenOrderError len second other found
    → (at ≡ other) × (kind ≡ found)
one_order_error len first second at other kind found same h k =
    one_syntax at other kind found
    (one_error _ (Syntax at kind) (Syntax other found) (order_error_determined len second at kind (subst (λ l. IsTokenOrderError len l at kind) same h)) (order_error_determined len second other found k))

pub parse_error_is_unique : ParseErrorIsUnique
parse_error_is_unique text at other kind found (inl e) (inl f) = one_syntax at other kind found (one_token_error e f)
parse_error_is_unique text at other kind found (inl e) (inr (ls, t, h)) = absurd (no_tokenization e t)
parse_error_is_unique text at other kind found (inr (ls, t, h)) (inl e) = absurd (no_tokenization e t)
parse_error_is_unique text at other kind found (inr (ls, t, h)) (inr (ms, u, k)) = one_order_error (length text) ls ms at other kind found (one_tokenization t u) h k
