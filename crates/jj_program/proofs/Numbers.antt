-- `parse` on strings without a leading plus or zero.
use Rattle.std.proofs.Common.{◌≡◌, ◌≢◌, ℕ, ◌<◌, ◌≤◌, ◌^◌, List, Bool, true, false, Option, Result, Ok, Err, Some, None, cond, length, get_or, refl, sym, ap, ◌∙◌, arith, rules, subst, nat_lt, suc, lit<}
use Prim.Native.Nat.{zero}
use Rattle.std.specs.Prelude.{◌&&◌}
use Rattle.std.specs.Result.{result_ok}
use Rattle.std.specs.Fmt.{decimal}
use Rattle.std.specs.Str.{bytes_eq}
use Rattle.std.specs.Str.Parse.{digits_value, AllDigits, ParsesUnsigned}
use Rattle.std.proofs.lemmas.Str.Parse.{IsNumeralModel, numerals_by_value, tells_digits, digits_value_short, parse_plain, digit_at}
use Rattle.std.proofs.lemmas.Fmt.{decimal-digits_value, decimal_is_IsNumeral, decimal_digit, first_decimal}
use Rattle.std.proofs.lemmas.Slice.Eq.{bytes_eq-Decides}
use Rattle.std.proofs.lemmas.Bool.{false_from_ne_true}
use Rattle.jj_program.specs.GraphCommand.{is_number}
use Rattle.jj_program.specs.GraphViews.{IsPlain}

-- the number of a canonical decimal string
abbrev pub number_of : List ℕ → Option ℕ
number_of text = cond (is_number text) (Some (digits_value 10 text)) None

own : IsNumeralModel (AllDigits 10) (digits_value 10)
own = numerals_by_value (AllDigits 10) tells_digits

pub short_value : (text : List ℕ) (k : ℕ) → AllDigits 10 text → length text ≤ k → digits_value 10 text < 10 ^ k
short_value text k digits short = digits_value_short own text k digits short

and_parts : (a b : Bool) → (a && b) ≡ true → (a ≡ true) × (b ≡ true)
and_parts true true h = (refl, refl)
and_parts true false h = cc
and_parts false b h = cc

-- digits without a leading zero are the decimal string of their value
pub number_of_digits : (text : List ℕ) → AllDigits 10 text → 0 < length text → (get_or text 0 0 ≡ 48 → length text ≡ 1) → digits_value 10 text < 2 ^ 64
    → number_of text ≡ Some (digits_value 10 text)
number_of_digits text all some alone small =
    let same : decimal (digits_value 10 text) ≡ text = decimal-digits_value own text all some alone small in
    let eq : bytes_eq (decimal (digits_value 10 text)) text ≡ true = (bytes_eq-Decides _ _).1 same in
    let below : nat_lt (digits_value 10 text) (2 ^ 64) ≡ true = search rules in
    rw (below, eq)

-- a decimal string has only digits, and no leading zero or plus
pub record IsPlainNumeral (text : List ℕ) : Type 0 where
  pub digits : AllDigits 10 text
  pub some : 0 < length text
  pub small : digits_value 10 text < 2 ^ 64
  pub zero : get_or text 0 0 ≡ 48 → length text ≡ 1
  pub no_plus : get_or text 0 0 ≢ 43

decimal_zero : (v : ℕ) → v < 2 ^ 64 → get_or (decimal v) 0 0 ≡ 48 → length (decimal v) ≡ 1
decimal_zero zero small h = ap length (decimal_digit 0 (lit< tt))
decimal_zero (suc n) small h = absurd (omega (arith, first_decimal (suc n) (omega arith) small))

number_is_plain : (v : ℕ) (text : List ℕ) → v < 2 ^ 64 → digits_value 10 text ≡ v → decimal v ≡ text → IsPlainNumeral text
number_is_plain v text small value same =
    let numeral = decimal_is_IsNumeral v small in
    let digits : AllDigits 10 text = subst (AllDigits 10) same numeral.0.1 in
    let some : 0 < length text = subst (λ l. 0 < length l) same numeral.0.0 in
    record {
      digits = digits;
      some = some;
      small = subst (λ n. n < 2 ^ 64) (sym value) small;
      zero = subst (λ l. get_or l 0 0 ≡ 48 → length l ≡ 1) same (decimal_zero v small);
      no_plus = λ h. let range = digit_at text 0 digits some in omega (arith, range);
    }

pub number_is_digits : (text : List ℕ) → is_number text ≡ true → IsPlainNumeral text
number_is_digits text h =
    let parts = and_parts (nat_lt (digits_value 10 text) (2 ^ 64)) (bytes_eq (decimal (digits_value 10 text)) text) h in
    number_is_plain (digits_value 10 text) text (search rules) refl ((bytes_eq-Decides _ _).0 parts.1)

pub no_number : (text : List ℕ) → (is_number text ≡ true → ⊥) → number_of text ≡ None
no_number text h = let e : is_number text ≡ false = false_from_ne_true (is_number text) h in rw e

-- `parse` of a plain string returns its number
pub number_of-parse : {E : Type 0} (text : List ℕ) (r : Result ℕ E) → ParsesUnsigned 64 10 text r → IsPlain text → result_ok r ≡ number_of text
number_of-parse {E = E} text (Ok n) parsed plain =
    let ((digits, some, small), value) = parse_plain own {E = E} 64 text (Ok n) parsed plain.2 in
    ap Some value ∙ sym (number_of_digits text digits some (λ h. omega (arith, plain.1 h)) small)
number_of-parse {E = E} text (Err e) parsed plain =
    let refused = parse_plain own {E = E} 64 text (Err e) parsed plain.2 in
    sym (no_number text (λ h. let it = number_is_digits text h in refused (it.digits, it.some, it.small)))

-- no other string is canonical
pub number_of-not_plain : (text : List ℕ) → ¬ (IsPlain text) → number_of text ≡ None
number_of-not_plain text h = no_number text (λ is. let it = number_is_digits text is in h (it.some, (λ e. omega (arith, it.zero e)), it.no_plus))
