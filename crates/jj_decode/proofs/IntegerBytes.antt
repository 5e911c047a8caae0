-- Integers decoded from little-endian bytes.
use Rattle.std.proofs.Common.{◌≡◌, ℕ, ◌+◌, ◌^◌, ◌<◌, ◌≤◌, List, [], ◌++◌, length, drop, take, get_or, ℤ, arith, sym, ap, subst, ◌∙◌, inl, inr}
use Rattle.std.specs.Prelude.{FitsSigned}
use Rattle.std.specs.Int.{w32, w64, from_le_bytes, cast_signed, cast_unsigned}
use Rattle.std.proofs.lemmas.Int.{ints, of_z-to_z}
use Rattle.std.proofs.lemmas.Bool.{cases_lt}
use Rattle.std.proofs.lemmas.List.{append-nil, length-drop, length-take, get_or-drop, get_or-take, get_or_past}
use Rattle.std.proofs.lemmas.Nat.{le_bytes_4, le_bytes_8}
use Rattle.jj_content.specs.Content.{u32_content, u64_content, i32_content, i64_content}
use Rattle.jj_decode.specs.declared.error.DecodeError.{DecodeError}
use Rattle.jj_decode.specs.Decoding.{IsContentAt, IsErrorAt}
use Rattle.jj_decode.proofs.ContentAt.{parts_at, error_by_first}

abbrev pub IsBytes : List ℕ → Type 0
IsBytes bytes = (i : ℕ) → get_or bytes i 0 < 256

pub IsBytes-drop : (n : ℕ) (bytes : List ℕ) → IsBytes bytes → IsBytes (drop n bytes)
IsBytes-drop n bytes h i = rw get_or-drop (h (n + i))

IsBytes-take : (n : ℕ) (bytes : List ℕ) → IsBytes bytes → IsBytes (take n bytes)
IsBytes-take n bytes h i =
    elim (cases_lt i n) [
      | inl lt ↦ rw (get_or-take n bytes i 0 lt) (h i)
      | inr le ↦ rw (get_or_past (take n bytes) i 0 (omega (arith, length-take n bytes)))
          (omega arith)
    ]

pub u64_decoded : (bytes : List ℕ) (start n k : ℕ) → IsBytes bytes → start + 8 ≤ length bytes
    → k ≡ 8 → n ≡ from_le_bytes w64 (take k (drop start bytes))
    → IsContentAt (λ n. n < 2 ^ 64) u64_content bytes start n (start + 8)
unfolding u64_content
u64_decoded bytes start n k fits le k-is read =
    let e : n ≡ from_le_bytes w64 (take 8 (drop start bytes)) = read
    ∙ ap (λ (m : ℕ). from_le_bytes w64 (take m (drop start bytes))) k-is in
    let front : List ℕ = take 8 (drop start bytes) in
    let small : IsBytes front = IsBytes-take 8 (drop start bytes) (IsBytes-drop start bytes fits) in
    let len : length front
    ≡ 8 = omega (arith, length-take 8 (drop start bytes), length-drop start bytes) in
    record {
      valid = rw e (omega (
        arith,
        small 0,
        small 1,
        small 2,
        small 3,
        small 4,
        small 5,
        small 6,
        small 7,
      ));
      split = parts_at bytes start 8 ∙ ap (λ (z : List ℕ). z ++ drop (start + 8) bytes)
          (sym (le_bytes_8 front n len small e));
      within = le;
    }

pub u32_decoded : (bytes : List ℕ) (start n k : ℕ) → IsBytes bytes → start + 4 ≤ length bytes
    → k ≡ 4 → n ≡ from_le_bytes w32 (take k (drop start bytes))
    → IsContentAt (λ n. n < 2 ^ 32) u32_content bytes start n (start + 4)
unfolding u32_content
u32_decoded bytes start n k fits le k-is read =
    let e : n ≡ from_le_bytes w32 (take 4 (drop start bytes)) = read
    ∙ ap (λ (m : ℕ). from_le_bytes w32 (take m (drop start bytes))) k-is in
    let front : List ℕ = take 4 (drop start bytes) in
    let small : IsBytes front = IsBytes-take 4 (drop start bytes) (IsBytes-drop start bytes fits) in
    let len : length front
    ≡ 4 = omega (arith, length-take 4 (drop start bytes), length-drop start bytes) in
    record {
      valid = rw e (omega (arith, small 0, small 1, small 2, small 3));
      split = parts_at bytes start 4 ∙ ap (λ (z : List ℕ). z ++ drop (start + 4) bytes)
          (sym (le_bytes_4 front n len small e));
      within = le;
    }

pub u64_length : (n : ℕ) → 8 ≤ length (u64_content n)
unfolding u64_content
u64_length n = omega arith

pub u32_length : (n : ℕ) → 4 ≤ length (u32_content n)
unfolding u32_content
u32_length n = omega arith

-- ---- signed integers, by their two's complement

i64_from_bits : (bytes : List ℕ) (start n end : ℕ) → IsContentAt (λ n. n < 2 ^ 64) u64_content bytes
    start n end → IsContentAt (FitsSigned w64) i64_content bytes start (cast_signed w64 n) end
unfolding i64_content
i64_from_bits bytes start n end s =
    let small : n < 2 ^ 64 = s.valid in
    record {
      valid = omega (arith, ints);
      split = s.split
          ∙ ap (λ (m : ℕ). u64_content m ++ drop end bytes) (sym (of_z-to_z w64 n small));
      within = s.within;
    }

i32_from_bits : (bytes : List ℕ) (start n end : ℕ) → IsContentAt (λ n. n < 2 ^ 32) u32_content bytes
    start n end → IsContentAt (FitsSigned w32) i32_content bytes start (cast_signed w32 n) end
unfolding i32_content
i32_from_bits bytes start n end s =
    let small : n < 2 ^ 32 = s.valid in
    record {
      valid = omega (arith, ints);
      split = s.split
          ∙ ap (λ (m : ℕ). u32_content m ++ drop end bytes) (sym (of_z-to_z w32 n small));
      within = s.within;
    }

-- the cast of an unsigned integer that was read
pub i64_decoded : (bytes : List ℕ) (start n end : ℕ) (z : ℤ) → z ≡ cast_signed w64 n
    → IsContentAt (λ n. n < 2 ^ 64) u64_content bytes start n end
    → IsContentAt (FitsSigned w64) i64_content bytes start (cast_signed w64 (cast_unsigned w64 z))
    end
i64_decoded bytes start n end z e s =
    subst (λ (k : ℤ). IsContentAt (FitsSigned w64) i64_content bytes start k end)
    (sym (ap (λ (k : ℤ). cast_signed w64 (cast_unsigned w64 k)) e
    ∙ ap (cast_signed w64) (of_z-to_z w64 n s.valid))) (i64_from_bits bytes start n end s)

pub i32_decoded : (bytes : List ℕ) (start n end : ℕ) (z : ℤ) → z ≡ cast_signed w32 n
    → IsContentAt (λ n. n < 2 ^ 32) u32_content bytes start n end
    → IsContentAt (FitsSigned w32) i32_content bytes start (cast_signed w32 (cast_unsigned w32 z))
    end
i32_decoded bytes start n end z e s =
    subst (λ (k : ℤ). IsContentAt (FitsSigned w32) i32_content bytes start k end)
    (sym (ap (λ (k : ℤ). cast_signed w32 (cast_unsigned w32 k)) e
    ∙ ap (cast_signed w32) (of_z-to_z w32 n s.valid))) (i32_from_bits bytes start n end s)

pub i64_error : (bytes : List ℕ) (start : ℕ) (e : DecodeError)
    → IsErrorAt (λ n. n < 2 ^ 64) u64_content bytes start e
    → IsErrorAt (FitsSigned w64) i64_content bytes start e
unfolding i64_content
i64_error bytes start e n = error_by_first (λ n. n < 2 ^ 64) u64_content (FitsSigned w64)
    i64_content (cast_unsigned w64) (λ _. []) bytes start e (λ z fits. omega (arith, ints))
    (λ z. sym (append-nil (i64_content z))) n

pub i32_error : (bytes : List ℕ) (start : ℕ) (e : DecodeError)
    → IsErrorAt (λ n. n < 2 ^ 32) u32_content bytes start e
    → IsErrorAt (FitsSigned w32) i32_content bytes start e
unfolding i32_content
i32_error bytes start e n = error_by_first (λ n. n < 2 ^ 32) u32_content (FitsSigned w32)
    i32_content (cast_unsigned w32) (λ _. []) bytes start e (λ z fits. omega (arith, ints))
    (λ z. sym (append-nil (i32_content z))) n
