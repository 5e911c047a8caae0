-- Reading byte by byte.
use Rattle.std.proofs.Common.{◌≡◌, ◌≢◌, ◌∙◌, ℕ, suc, ◌+◌, ◌-◌, ◌<◌, ◌≤◌, true, false, List, [], ◌∷◌, ◌++◌, length, take, drop, get_or, Option, Some, None, ap, sym, refl, arith, append_assoc, append-nil, add-one, drop-cons, eq-eqb}
use Rattle.std.proofs.lemmas.Bool.{ne_eqb}
use Rattle.std.proofs.lemmas.List.{take_more, drop_more, drop_all}
use Rattle.jj_fast_import.specs.declared.quoting.Escape.{Escape}
use Rattle.jj_fast_import.specs.declared.quoting.Escape.TheVariants.{Outside}
use Rattle.jj_fast_import.specs.declared.quoting.QuotedByte.TheVariants.{End, Literal, Within, Invalid}
use Rattle.jj_fast_import.specs.Words.{with_byte, split_once, and_then, push_digit, digits_after}
use Rattle.jj_fast_import.specs.Quoting.{quoted_byte, after_quoted_byte, unquoted}

-- 1. Byte strings with bytes before them.

pub prepended : List ℕ → Option (List ℕ × List ℕ) → Option (List ℕ × List ℕ)
prepended bytes None = None
prepended bytes (Some parts) = Some (bytes ++ parts.0, parts.1)

pub prepended-nil : (bytes : List ℕ) (r : Option (List ℕ × List ℕ)) → bytes ≡ [] → prepended bytes r ≡ r
unfolding prepended
prepended-nil bytes None none = refl
prepended-nil bytes (Some parts) none = ap (λ (l : List ℕ). Some (l ++ parts.0, parts.1)) none

pub prepended-push : (bytes new : List ℕ) (b : ℕ) (r : Option (List ℕ × List ℕ)) → new ≡ bytes ++ b ∷ [] → prepended new r ≡ prepended bytes (with_byte b r)
unfolding prepended
prepended-push bytes new b None is = refl
prepended-push bytes new b (Some parts) is = ap (λ (l : List ℕ). Some (l ++ parts.0, parts.1)) is ∙ ap (λ (l : List ℕ). Some (l, parts.1)) (append_assoc bytes (b ∷ []) parts.0)

pub prepended-ended : (bytes rest : List ℕ) → prepended bytes (Some ([], rest)) ≡ Some (bytes, rest)
unfolding prepended
prepended-ended bytes rest = ap (λ (l : List ℕ). Some (l, rest)) (append-nil bytes)

pub prepended-none : (bytes : List ℕ) → prepended bytes None ≡ None
unfolding prepended
prepended-none bytes = refl

-- 2. The first of a byte.

split_here : (byte b : ℕ) (bs : List ℕ) → b ≡ byte → split_once byte (b ∷ bs) ≡ Some ([], bs)
split_here byte b bs is = rw (eq-eqb b byte is) refl

split_later : (byte b : ℕ) (bs : List ℕ) → b ≢ byte → split_once byte (b ∷ bs) ≡ with_byte b (split_once byte bs)
split_later byte b bs other = rw (ne_eqb b byte other) refl

pub split_found : (byte i : ℕ) (xs : List ℕ) → prepended (take i xs) (split_once byte (drop i xs)) ≡ split_once byte xs → i < length xs → get_or xs i 0 ≡ byte
    → Some (take i xs, drop (i + 1) xs) ≡ split_once byte xs
split_found byte i xs so below is =
    sym (prepended-ended (take i xs) (drop (i + 1) xs))
    ∙ ap (prepended (take i xs)) (sym (ap (split_once byte) (drop_more xs i 0 below) ∙ split_here byte (get_or xs i 0) (drop (i + 1) xs) is))
    ∙ so

pub split_next : (byte i : ℕ) (xs : List ℕ) → prepended (take i xs) (split_once byte (drop i xs)) ≡ split_once byte xs → i < length xs → get_or xs i 0 ≢ byte
    → prepended (take (i + 1) xs) (split_once byte (drop (i + 1) xs)) ≡ split_once byte xs
split_next byte i xs so below other =
    prepended-push (take i xs) (take (i + 1) xs) (get_or xs i 0) (split_once byte (drop (i + 1) xs)) (take_more xs i 0 below)
    ∙ ap (prepended (take i xs)) (sym (ap (split_once byte) (drop_more xs i 0 below) ∙ split_later byte (get_or xs i 0) (drop (i + 1) xs) other))
    ∙ so

pub split_nowhere : (byte i : ℕ) (xs : List ℕ) → prepended (take i xs) (split_once byte (drop i xs)) ≡ split_once byte xs → length xs ≤ i → None ≡ split_once byte xs
split_nowhere byte i xs so past =
    sym (prepended-none (take i xs)) ∙ ap (λ l. prepended (take i xs) (split_once byte l)) (sym (drop_all i xs past)) ∙ so

-- 3. Numbers.

pub digit_next : (n m c : ℕ) (rest after whole : List ℕ) → digits_after n rest ≡ digits_after 0 whole → rest ≡ c ∷ after → push_digit n c ≡ Some m → digits_after m after ≡ digits_after 0 whole
digit_next n m c rest after whole so split is =
    ap (λ r. and_then r (λ k. digits_after k after)) (sym is) ∙ ap (digits_after n) (sym split) ∙ so

pub digit_fails : (n c : ℕ) (rest after whole : List ℕ) → digits_after n rest ≡ digits_after 0 whole → rest ≡ c ∷ after → push_digit n c ≡ None → None ≡ digits_after 0 whole
digit_fails n c rest after whole so split is =
    ap (λ r. and_then r (λ k. digits_after k after)) (sym is) ∙ ap (digits_after n) (sym split) ∙ so

pub digits_end : (n : ℕ) (rest whole : List ℕ) → digits_after n rest ≡ digits_after 0 whole → rest ≡ [] → Some n ≡ digits_after 0 whole
digits_end n rest whole so none = ap (digits_after n) (sym none) ∙ so

-- 4. Quoted paths.

pub unquoted-ends : (escape : Escape) (b : ℕ) (text rest bytes after : List ℕ) → prepended bytes (unquoted escape rest) ≡ unquoted Outside text → rest ≡ b ∷ after
    → quoted_byte escape b ≡ End → Some (bytes, after) ≡ unquoted Outside text
unquoted-ends escape b text rest bytes after so split is =
    sym (prepended-ended bytes after)
    ∙ ap (λ q. prepended bytes (after_quoted_byte q after (λ next. unquoted next after))) (sym is)
    ∙ ap (λ l. prepended bytes (unquoted escape l)) (sym split) ∙ so

pub unquoted-literal : (escape : Escape) (b c : ℕ) (text rest bytes new after : List ℕ) → prepended bytes (unquoted escape rest) ≡ unquoted Outside text → rest ≡ b ∷ after
    → quoted_byte escape b ≡ Literal c → new ≡ bytes ++ c ∷ [] → prepended new (unquoted Outside after) ≡ unquoted Outside text
unquoted-literal escape b c text rest bytes new after so split is pushes =
    prepended-push bytes new c (unquoted Outside after) pushes
    ∙ ap (λ q. prepended bytes (after_quoted_byte q after (λ next. unquoted next after))) (sym is)
    ∙ ap (λ l. prepended bytes (unquoted escape l)) (sym split) ∙ so

pub unquoted-within : (escape next : Escape) (b : ℕ) (text rest bytes after : List ℕ) → prepended bytes (unquoted escape rest) ≡ unquoted Outside text → rest ≡ b ∷ after
    → quoted_byte escape b ≡ Within next → prepended bytes (unquoted next after) ≡ unquoted Outside text
unquoted-within escape next b text rest bytes after so split is =
    ap (λ q. prepended bytes (after_quoted_byte q after (λ n. unquoted n after))) (sym is)
    ∙ ap (λ l. prepended bytes (unquoted escape l)) (sym split) ∙ so

pub unquoted-invalid : (escape : Escape) (b : ℕ) (text rest bytes after : List ℕ) → prepended bytes (unquoted escape rest) ≡ unquoted Outside text → rest ≡ b ∷ after
    → quoted_byte escape b ≡ Invalid → None ≡ unquoted Outside text
unquoted-invalid escape b text rest bytes after so split is =
    sym (prepended-none bytes)
    ∙ ap (λ q. prepended bytes (after_quoted_byte q after (λ next. unquoted next after))) (sym is)
    ∙ ap (λ l. prepended bytes (unquoted escape l)) (sym split) ∙ so

pub unquoted-unclosed : (escape : Escape) (text rest bytes : List ℕ) → prepended bytes (unquoted escape rest) ≡ unquoted Outside text → rest ≡ [] → None ≡ unquoted Outside text
unquoted-unclosed escape text rest bytes so none =
    sym (prepended-none bytes) ∙ ap (λ l. prepended bytes (unquoted escape l)) (sym none) ∙ so
