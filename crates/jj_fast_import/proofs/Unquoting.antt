-- A quoted path is read again, whatever follows it.
use Rattle.std.proofs.Common.{◌≡◌, ◌≢◌, ◌∙◌, ℕ, zero, suc, ◌+◌, ◌-◌, ◌*◌, ◌/◌, ◌%◌, ◌<◌, ◌≤◌, Bool, true, false, cond, List, [], ◌∷◌, ◌++◌, Option, Some, None, ap, sym, subst, refl, arith, append_assoc, inl, inr}
use Rattle.std.specs.List.{flat_map, AllByRecursion}
use Rattle.std.proofs.lemmas.Bool.{cases_eq, ne_eqb}
use Rattle.std.proofs.lemmas.List.Concat.{flat_map-cons}
use Rattle.jj_fast_import.specs.declared.quoting.Escape.TheVariants.{Outside, FirstDigit, SecondDigit}
use Rattle.jj_fast_import.specs.declared.quoting.QuotedByte.TheVariants.{Literal, Within}
use Rattle.jj_fast_import.specs.Words.{with_byte}
use Rattle.jj_fast_import.specs.Quoting.{octal_digit, escaped_byte, quoted_byte, after_quoted_byte, unquoted, letter_of, plain_or_octal, escape_by, escape_of, quoted}

-- 1. Octal digits.

first_digit : (x : ℕ) → x < 4 → escaped_byte (48 + x) ≡ Within (FirstDigit x)
first_digit zero lt = refl
first_digit (suc zero) lt = refl
first_digit (suc (suc zero)) lt = refl
first_digit (suc (suc (suc zero))) lt = refl
first_digit (suc (suc (suc (suc n)))) lt = absurd (omega arith)

digit : (x : ℕ) → x < 8 → octal_digit (48 + x) ≡ Some x
digit zero lt = refl
digit (suc zero) lt = refl
digit (suc (suc zero)) lt = refl
digit (suc (suc (suc zero))) lt = refl
digit (suc (suc (suc (suc zero)))) lt = refl
digit (suc (suc (suc (suc (suc zero))))) lt = refl
digit (suc (suc (suc (suc (suc (suc zero)))))) lt = refl
digit (suc (suc (suc (suc (suc (suc (suc zero))))))) lt = refl
digit (suc (suc (suc (suc (suc (suc (suc (suc n)))))))) lt = absurd (omega arith)

two_digits : (x y : ℕ) → x < 4 → y < 8 → (x % 8 * 8 + y) % 32 ≡ x * 8 + y
two_digits x y small below = omega arith

value : (b : ℕ) → b < 256 → (b / 64 % 8 * 8 + b / 8 % 8) % 32 * 8 + b % 8 ≡ b
value b lt =
    let x : b / 64 < 4 = omega arith in
    let y : b / 8 % 8 < 8 = omega arith in
    let t : (b / 64 % 8 * 8 + b / 8 % 8) % 32 ≡ b / 64 * 8 + b / 8 % 8 = two_digits (b / 64) (b / 8 % 8) x y in
    let s : (b / 64 * 8 + b / 8 % 8) * 8 + b % 8 ≡ b = omega arith in
    ap (λ n. n * 8 + b % 8) t ∙ s

-- three octal digits after a backslash
octal : (b : ℕ) (tail : List ℕ) → b < 256 → unquoted Outside (92 ∷ (48 + b / 64) ∷ (48 + b / 8 % 8) ∷ (48 + b % 8) ∷ tail) ≡ with_byte b (unquoted Outside tail)
octal b tail lt =
    let x : b / 64 < 4 = omega arith in
    let y : b / 8 % 8 < 8 = omega arith in
    let z : b % 8 < 8 = omega arith in
    ap (λ q. after_quoted_byte q ((48 + b / 8 % 8) ∷ (48 + b % 8) ∷ tail) (λ next. unquoted next ((48 + b / 8 % 8) ∷ (48 + b % 8) ∷ tail))) (first_digit (b / 64) x)
    ∙ second (b / 64) (b / 8 % 8) (b % 8) tail y z
    ∙ ap (λ n. with_byte n (unquoted Outside tail)) (value b lt)
  where
    second : (x y z : ℕ) (tail : List ℕ) → y < 8 → z < 8 → unquoted (FirstDigit x) ((48 + y) ∷ (48 + z) ∷ tail) ≡ with_byte ((x % 8 * 8 + y) % 32 * 8 + z) (unquoted Outside tail)
    second x y z tail below small = rw (digit y below, digit z small) refl

-- 2. One byte.

abbrev IsReadAgain : ℕ → Type 0
IsReadAgain b = (tail : List ℕ) → unquoted Outside (escape_of b ++ tail) ≡ with_byte b (unquoted Outside tail)

plain : (b : ℕ) (tail : List ℕ) → b ≢ 34 → b ≢ 92 → unquoted Outside (b ∷ tail) ≡ with_byte b (unquoted Outside tail)
plain b tail quote backslash = rw (ne_eqb b 34 quote, ne_eqb b 92 backslash) refl

by_range : (printable : Bool) (b : ℕ) (tail : List ℕ) → b < 256 → b ≢ 34 → b ≢ 92
    → unquoted Outside (cond printable (b ∷ []) (92 ∷ (48 + b / 64) ∷ (48 + b / 8 % 8) ∷ (48 + b % 8) ∷ []) ++ tail) ≡ with_byte b (unquoted Outside tail)
by_range true b tail lt quote backslash = plain b tail quote backslash
by_range false b tail lt quote backslash = octal b tail lt

unless : (k b : ℕ) → IsReadAgain k → (b ≢ k → IsReadAgain b) → IsReadAgain b
unless k b at others = elim (cases_eq b k) [ inl e ↦ subst IsReadAgain (sym e) at | inr ne ↦ others ne ]

byte_again : (b : ℕ) → b < 256 → IsReadAgain b
byte_again b lt =
    unless 34 b (λ tail. refl) (λ n1. unless 92 b (λ tail. refl) (λ n2.
    unless 7 b (λ tail. refl) (λ n3. unless 8 b (λ tail. refl) (λ n4.
    unless 9 b (λ tail. refl) (λ n5. unless 10 b (λ tail. refl) (λ n6.
    unless 11 b (λ tail. refl) (λ n7. unless 12 b (λ tail. refl) (λ n8.
    unless 13 b (λ tail. refl) (λ n9. λ tail.
    let none : letter_of b ≡ None = rw (ne_eqb b 34 n1, ne_eqb b 92 n2, ne_eqb b 7 n3, ne_eqb b 8 n4, ne_eqb b 9 n5, ne_eqb b 10 n6, ne_eqb b 11 n7, ne_eqb b 12 n8, ne_eqb b 13 n9) refl in
    ap (λ o. unquoted Outside (escape_by o b ++ tail)) none ∙ by_range _ b tail lt n1 n2)))))))))

-- 3. A path.

pub unquoted-quoted : (path rest : List ℕ) → AllByRecursion (λ b. b < 256) path → unquoted Outside (flat_map escape_of path ++ 34 ∷ rest) ≡ Some (path, rest)
unquoted-quoted [] rest fits = refl
unquoted-quoted (b ∷ path) rest fits =
    ap (unquoted Outside) (ap (λ (l : List ℕ). l ++ 34 ∷ rest) (flat_map-cons escape_of b path) ∙ append_assoc (escape_of b) (flat_map escape_of path) (34 ∷ rest))
    ∙ byte_again b fits.0 (flat_map escape_of path ++ 34 ∷ rest)
    ∙ ap (with_byte b) (unquoted-quoted path rest fits.1)
