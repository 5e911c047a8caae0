-- The tables of digit values agree with `digit_value`.
use Rattle.std.proofs.Common.{◌≡◌, ◌∙◌, ◌+◌, ◌<◌, ◌≤◌, ◌==◌, ℕ, List, Option, Some, None, length, map, ap, refl, arith, slice_index_or}
use Rattle.std.specs.Prelude.{unwrap_or}
use Rattle.std.specs.List.{range_with_len}
use Rattle.std.proofs.lemmas.List.Quantifiers.{position-Some}
use Rattle.std.specs.Char.{to_ascii_lowercase}
use Rattle.std.proofs.lemmas.List.{get_or-map}
use Rattle.std.proofs.lemmas.List.FromFn.{get_or-range_with_len, length-range_with_len}
use Rattle.jj_content.specs.Hex.{digit_value}

-- the value of each byte as a digit, or 16 if it is not a digit
abbrev pub digit_table : List ℕ → List ℕ
digit_table digits = map (λ b. unwrap_or (digit_value digits b) 16) (range_with_len 0 256)

looked_up : (digits xs : List ℕ) → xs ≡ digit_table digits → (b : ℕ) → b < 256 → slice_index_or xs b 0 ≡ unwrap_or (digit_value digits b) 16
looked_up digits xs is b within =
    let value : ℕ → ℕ = λ c. unwrap_or (digit_value digits c) 16 in
    let bytes = range_with_len 0 256 in
    let counted : 0 + b ≡ b = omega arith in
    let inside : b < length bytes = omega (arith, length-range_with_len 0 256) in
    ap (λ ys. slice_index_or ys b 0) is ∙ get_or-map value bytes b 0 0 inside ∙ ap value (get_or-range_with_len 0 256 b 0 within ∙ counted)

small : (digits : List ℕ) → length digits ≡ 16 → (b v : ℕ) → digit_value digits b ≡ Some v → v < 16
small digits long b v is =
    let within = (position-Some (λ digit. digit == to_ascii_lowercase b) digits v 0 is).0 in
    omega (arith, within, long)

pub digit_found : (digits : List ℕ) {xs : List ℕ} → xs ≡ digit_table digits → {b : ℕ} → b < 256 → slice_index_or xs b 0 < 16 → Some (slice_index_or xs b 0) ≡ digit_value digits b
digit_found digits {xs} is {b} within low = by_value (digit_value digits b) refl
  where
    by_value : (o : Option ℕ) → digit_value digits b ≡ o → Some (slice_index_or xs b 0) ≡ o
    by_value None none = absurd (let same = looked_up digits xs is b within ∙ ap (λ o. unwrap_or o 16) none in omega (arith, low, same))
    by_value (Some v) some = ap (λ n. Some n) (looked_up digits xs is b within ∙ ap (λ o. unwrap_or o 16) some)

pub digit_missed : (digits : List ℕ) → length digits ≡ 16 → {xs : List ℕ} → xs ≡ digit_table digits → {b : ℕ} → b < 256 → 16 ≤ slice_index_or xs b 0 → None ≡ digit_value digits b
digit_missed digits long {xs} is {b} within high = by_value (digit_value digits b) refl
  where
    by_value : (o : Option ℕ) → digit_value digits b ≡ o → None ≡ o
    by_value None none = refl
    by_value (Some v) some = absurd (let same = looked_up digits xs is b within ∙ ap (λ o. unwrap_or o 16) some in let low = small digits long b v some in omega (arith, high, same, low))
