-- Loop invariants of `write_quoted`, on the string written so far.
use Rattle.std.proofs.Common.{◌≡◌, ℕ, ◌/◌, ◌%◌, ◌<◌, List, [], ◌∷◌, ◌++◌, length, get_or, true, None, refl, sym, ap, ◌∙◌, arith}
use Rattle.std.specs.Prelude.{find, ◌==◌}
use Rattle.std.specs.List.{flat_map}
use Rattle.std.specs.Char.{is_ascii_control}
use Rattle.std.specs.Fmt.{WritesInCalls}
use Rattle.std.proofs.Output.{writes_in_calls_single, writes_in_calls_append}
use Rattle.std.proofs.lemmas.Bool.Decides.{nat_tests}
use Rattle.std.proofs.lemmas.Str.{encode_ascii}
use lib.Utf8.{encode}
use Rattle.jj_content.specs.Hex.{hex_digits}
use Rattle.jj_content.specs.Symbols.{letter_escapes, escaped_byte, escaped_string}
use Rattle.jj_content.proofs.SymbolEscapes.{escaped_letter, control_byte, escaped_step, escaped_end}

-- rewrites the written string by an equality
pub writes_same : {W : Type 0} (took : W → List ℕ → W → Type 0) (w v : W) (text bytes : List ℕ) → text ≡ bytes → WritesInCalls took w bytes v → WritesInCalls took w text v
writes_same took w v text bytes e h = rw e h

-- one call writes the escape
pub writes_escape : {W : Type 0} (took : W → List ℕ → W → Type 0) (w v : W) (c : ℕ) (piece : List ℕ) → c < 128 → escaped_byte c ≡ piece → took w piece v
    → WritesInCalls took w (flat_map escaped_byte (encode c)) v
writes_escape took w v c piece small e h =
    writes_same took w v _ piece (escaped_letter c piece small e) (writes_in_calls_single took w piece v h)

control_small : (c : ℕ) → true ≡ is_ascii_control c → c < 128
control_small c control = grind (arith, nat_tests)

-- three calls write `\x` and two hex digits
pub writes_control : {W : Type 0} (took : W → List ℕ → W → Type 0) (w a b v : W) (c high low n : ℕ)
    → find (λ e. e.0 == c) letter_escapes ≡ None → true ≡ is_ascii_control c
    → high ≡ get_or hex_digits (c / 16) 0 → high < 128 → low ≡ get_or hex_digits n 0 → n ≡ c % 16 → low < 128
    → took w (92 ∷ 120 ∷ []) a → took a (encode high) b → took b (encode low) v → WritesInCalls took w (flat_map escaped_byte (encode c)) v
writes_control took w a b v c high low n none control is_high small_high is_low is_digit small_low p q r =
    let first = writes_in_calls_single took w (92 ∷ 120 ∷ []) a p in
    let second = writes_in_calls_single took a (encode high) b q in
    let third = writes_in_calls_single took b (encode low) v r in
    let both = writes_in_calls_append took w (92 ∷ 120 ∷ []) a (encode high) b first second in
    let all = writes_in_calls_append took w ((92 ∷ 120 ∷ []) ++ encode high) b (encode low) v both third in
    let text : flat_map escaped_byte (encode c) ≡ ((92 ∷ 120 ∷ []) ++ encode high) ++ encode low
    = rw (encode_ascii c (control_small c control), encode_ascii high small_high, encode_ascii low small_low, is_high, is_low, is_digit, control_byte c none control) refl in
    writes_same took w v _ _ text all

-- before the loop, its step and its exit
pub quote_start : {W : Type 0} (took : W → List ℕ → W → Type 0) (w v : W) (rest whole : List ℕ) → took w (encode 34) v → rest ≡ whole
    → (prefix : List ℕ) × WritesInCalls took w (34 ∷ prefix) v × (prefix ++ escaped_string rest ≡ escaped_string whole)
quote_start took w v rest whole h e =
    ([], rw (← encode_ascii 34 (omega arith)) (writes_in_calls_single took w (encode 34) v h), ap escaped_string e)

pub quote_next : {W : Type 0} (took : W → List ℕ → W → Type 0) (w v u : W) (piece rest rest' whole : List ℕ)
    → ((prefix : List ℕ) × WritesInCalls took w (34 ∷ prefix) v × (prefix ++ escaped_string rest ≡ whole)) → WritesInCalls took v (flat_map escaped_byte piece) u → rest ≡ piece ++ rest'
    → (prefix : List ℕ) × WritesInCalls took w (34 ∷ prefix) u × (prefix ++ escaped_string rest' ≡ whole)
quote_next took w v u piece rest rest' whole (prefix, written, before) more split = (
  prefix ++ flat_map escaped_byte piece,
  writes_in_calls_append took w (34 ∷ prefix) v (flat_map escaped_byte piece) u written more,
  escaped_step prefix (prefix ++ flat_map escaped_byte piece) piece rest rest' whole refl split before,
)

pub quote_end : {W : Type 0} (took : W → List ℕ → W → Type 0) (w v u : W) (rest whole : List ℕ)
    → ((prefix : List ℕ) × WritesInCalls took w (34 ∷ prefix) v × (prefix ++ escaped_string rest ≡ whole)) → length rest ≡ 0 → took v (encode 34) u
    → WritesInCalls took w (34 ∷ (whole ++ 34 ∷ [])) u
quote_end took w v u rest whole (prefix, written, before) empty last =
    let is : prefix ≡ whole = escaped_end prefix rest whole empty before in
    let end = writes_in_calls_append took w (34 ∷ prefix) v (encode 34) u written (writes_in_calls_single took v (encode 34) u last) in
    writes_same took w u _ _ (ap (λ t. 34 ∷ (t ++ 34 ∷ [])) (sym is) ∙ ap (λ q. 34 ∷ (prefix ++ q)) (sym (encode_ascii 34 (omega arith)))) end
