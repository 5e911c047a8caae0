-- Numbers, lines and blocks of data that are printed are read again, whatever follows them.
use Rattle.std.proofs.Common.{◌≡◌, ◌≢◌, ◌∙◌, ℕ, zero, suc, ◌+◌, ◌-◌, ◌*◌, ◌/◌, ◌%◌, ◌^◌, ◌<◌, ◌≤◌, Bool, true, false, cond, ltb, List, [], ◌∷◌, ◌++◌, length, take, drop, Option, Some, None, Result, Ok, Err, refl, sym, ap, subst, arith, append_assoc, eq-eqb}
use Rattle.std.specs.Prelude.{codes, decimal}
use Rattle.std.specs.Char.{is_ascii_digit}
use Rattle.std.proofs.lemmas.Bool.{ne_eqb, lt-ltb, le-ltb}
use Rattle.std.proofs.lemmas.Fmt.{decimal_by_steps}
use Rattle.std.proofs.lemmas.List.{take_at, drop_at, length-append}
use Rattle.jj_fast_import.specs.declared.fault.Expected.TheVariants.{Data}
use Rattle.jj_fast_import.specs.declared.fault.Stop.{Stop}
use Rattle.jj_fast_import.specs.Words.{and_then, digits_after, number_of, push_digit, split_once, strip, with_byte}
use Rattle.jj_fast_import.specs.Lines.{◌>>=◌, counted, data_at, data_of, expect, line_at, line_of, required, required_in, without_comments}
use Rattle.jj_fast_import.specs.Texts.{data_text}
use Rattle.jj_fast_import.specs.Printable.{HasNone}

-- 1. Numbers.

is_digit : (r : ℕ) → r < 10 → is_ascii_digit (48 + r) ≡ true
is_digit zero lt = refl
is_digit (suc zero) lt = refl
is_digit (suc (suc zero)) lt = refl
is_digit (suc (suc (suc zero))) lt = refl
is_digit (suc (suc (suc (suc zero)))) lt = refl
is_digit (suc (suc (suc (suc (suc zero))))) lt = refl
is_digit (suc (suc (suc (suc (suc (suc zero)))))) lt = refl
is_digit (suc (suc (suc (suc (suc (suc (suc zero))))))) lt = refl
is_digit (suc (suc (suc (suc (suc (suc (suc (suc zero)))))))) lt = refl
is_digit (suc (suc (suc (suc (suc (suc (suc (suc (suc zero))))))))) lt = refl
is_digit (suc (suc (suc (suc (suc (suc (suc (suc (suc (suc r)))))))))) lt = absurd (omega arith)

digit_pushed : (k r n : ℕ) → r < 10 → 10 * k + r ≡ n → n < 2 ^ 64 → push_digit k (48 + r) ≡ Some n
digit_pushed k r n small is fits =
    let value : 10 * k + (48 + r - 48) ≡ n = omega (arith, is) in
    let below : ltb (10 * k + (48 + r - 48)) (2 ^ 64) ≡ true = lt-ltb (10 * k + (48 + r - 48)) (2 ^ 64) (omega (arith, value, fits)) in
    rw (is_digit r small, below) (ap (λ m. Some m) value)

some_again : (o : Option ℕ) → and_then o (λ k. Some k) ≡ o
some_again None = refl
some_again (Some k) = refl

digits_push : (m : ℕ) (ds : List ℕ) (c : ℕ) → digits_after m (ds ++ c ∷ []) ≡ and_then (digits_after m ds) (λ k. push_digit k c)
digits_push m [] c = some_again (push_digit m c)
digits_push m (d ∷ ds) c = by_first (push_digit m d) (λ k. digits_push k ds c)
  where
    by_first : (o : Option ℕ) → ((k : ℕ) → digits_after k (ds ++ c ∷ []) ≡ and_then (digits_after k ds) (λ n. push_digit n c))
        → and_then o (λ k. digits_after k (ds ++ c ∷ [])) ≡ and_then (and_then o (λ k. digits_after k ds)) (λ k. push_digit k c)
    by_first None so = refl
    by_first (Some k) so = so k

one_digit : (n : ℕ) → n < 10 → n < 2 ^ 64 → number_of ((48 + n) ∷ []) ≡ Some n
one_digit n small fits = ap (λ o. and_then o (λ m. Some m)) (digit_pushed 0 n n small (omega arith) fits)

more_digits : (n : ℕ) (ds : List ℕ) → n < 2 ^ 64 → number_of ds ≡ Some (n / 10) → number_of (ds ++ (48 + n % 10) ∷ []) ≡ Some n
more_digits n [] fits is = absurd cc
more_digits n (d ∷ ds) fits is =
    digits_push 0 (d ∷ ds) (48 + n % 10) ∙ ap (λ o. and_then o (λ k. push_digit k (48 + n % 10))) is
    ∙ digit_pushed (n / 10) (n % 10) n (omega arith) (omega arith) fits

pub number-decimal : (n : ℕ) → n < 2 ^ 64 → number_of (decimal n) ≡ Some n
number-decimal n fits =
    decimal_by_steps (λ m ds. m < 2 ^ 64 → number_of ds ≡ Some m) one_digit (λ m ds big so below. more_digits m ds below (so (omega arith))) n fits fits

-- 2. Lines.

pub HasNone-append : (byte : ℕ) (xs ys : List ℕ) → HasNone byte xs → HasNone byte ys → HasNone byte (xs ++ ys)
HasNone-append byte [] ys p q = q
HasNone-append byte (x ∷ xs) ys p q = (p.0, HasNone-append byte xs ys p.1 q)

pub split-append : (byte : ℕ) (text rest : List ℕ) → HasNone byte text → split_once byte (text ++ byte ∷ rest) ≡ Some (text, rest)
split-append byte [] rest none = rw (eq-eqb byte byte refl) refl
split-append byte (b ∷ text) rest none = rw (ne_eqb b byte none.0) (ap (with_byte b) (split-append byte text rest none.1))

pub line_again : (at_end : Bool) (b : ℕ) (text rest : List ℕ) → b ≢ 35 → HasNone 10 (b ∷ text) → line_at at_end ((b ∷ text) ++ 10 ∷ rest) ≡ Ok (Some (b ∷ text, rest))
unfolding line_at
line_again at_end b text rest no_comment none =
    let begins : without_comments false ((b ∷ text) ++ 10 ∷ rest) ≡ (b ∷ text) ++ 10 ∷ rest = rw (ne_eqb b 35 no_comment) refl in
    ap (line_of at_end) begins ∙ rw (split-append 10 (b ∷ text) rest none) refl

-- 3. Digits of printed numbers.

abbrev Leads : List ℕ → Type 0
Leads [] = ⊥
Leads (c ∷ cs) = (48 ≤ c) × (c < 58)

Leads-append : (ds : List ℕ) (c : ℕ) → Leads ds → Leads (ds ++ c ∷ [])
Leads-append [] c h = absurd h
Leads-append (d ∷ ds) c h = h

decimal_leads : (n : ℕ) → n < 2 ^ 64 → Leads (decimal n)
decimal_leads n fits = decimal_by_steps (λ m ds. Leads ds) (λ m small. (omega arith, omega arith)) (λ m ds big so. Leads-append ds (48 + m % 10) so) n fits

pub decimal_has_none : (byte n : ℕ) → byte < 48 → n < 2 ^ 64 → HasNone byte (decimal n)
decimal_has_none byte n low fits =
    decimal_by_steps (λ m ds. HasNone byte ds) (λ m small. (λ e. omega (arith, e), tt))
    (λ m ds big so. HasNone-append byte ds ((48 + m % 10) ∷ []) so (λ e. omega (arith, e), tt)) n fits

no_delimiter : (text : List ℕ) → Leads text → strip (codes "<<") text ≡ None
no_delimiter [] h = absurd h
no_delimiter (c ∷ cs) h = rw (ne_eqb 60 c (λ e. omega (arith, e, h.0, h.1))) refl

-- 4. Data.

counted_again : (bytes rest : List ℕ) → counted (length bytes) (bytes ++ rest) ≡ Ok (bytes, rest)
counted_again bytes rest =
    let long : ltb (length (bytes ++ rest)) (length bytes) ≡ false = le-ltb _ _ (omega (arith, length-append bytes rest)) in
    rw (long, take_at bytes rest (length bytes) refl, drop_at bytes rest (length bytes) refl) refl

size_again : (at_end : Bool) (digits rest : List ℕ) → HasNone 10 digits → required (codes "data ") Data at_end ((codes "data " ++ digits) ++ 10 ∷ rest) ≡ Ok (digits, rest)
unfolding required
size_again at_end digits rest none =
    let one : HasNone 10 (codes "data " ++ digits) = (λ e. omega (arith, e), (λ e. omega (arith, e), (λ e. omega (arith, e), (λ e. omega (arith, e), (λ e. omega (arith, e), none))))) in
    rw (line_again at_end 100 (97 ∷ 116 ∷ 97 ∷ 32 ∷ digits) rest (λ e. omega (arith, e)) one) refl

-- the bytes of a printed block of data are read again, and as many as were announced
pub data_again : (at_end : Bool) (bytes rest : List ℕ) → length bytes < 2 ^ 64 → data_at at_end (data_text bytes ++ rest) ≡ Ok (bytes, 10 ∷ rest)
unfolding data_at
data_again at_end bytes rest fits =
    let n = length bytes in
    let regrouped : data_text bytes ++ rest ≡ (codes "data " ++ decimal n) ++ 10 ∷ (bytes ++ 10 ∷ rest) = simp append_assoc in
    ap (data_at at_end) regrouped
    ∙ rw (size_again at_end (decimal n) (bytes ++ 10 ∷ rest) (decimal_has_none 10 n (omega arith) fits), no_delimiter (decimal n) (decimal_leads n fits), number-decimal n fits, counted_again bytes (10 ∷ rest)) refl
