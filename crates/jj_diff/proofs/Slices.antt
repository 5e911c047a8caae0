-- Ranges of byte strings, and ranges of these.
use Rattle.std.proofs.Common.{◌≡◌, ℕ, ◌+◌, ◌-◌, ◌≤◌, List, ◌++◌, length, take, drop, ap, sym, ◌∙◌, arith}
use Rattle.std.proofs.lemmas.List.{take-take, drop-take, drop-drop}
use Rattle.std.proofs.Math.Seq.{take-add}
use Rattle.std.specs.List.{slice_range}
use Rattle.jj_diff.specs.Ends.{suffix}
use Rattle.jj_diff.specs.Tokenizers.{length_range}

-- a range of a range
pub range_of_range : (xs : List ℕ) (a b c d : ℕ) → c ≤ d → a + d ≤ b
    → slice_range (slice_range xs a b) c d ≡ slice_range xs (a + c) (a + d)
range_of_range xs a b c d le within =
    let m : b - a ≡ c + (b - a - c) = omega arith in
    let n : a + d - (a + c) ≡ d - c = omega arith in
    ap (λ k. take (d - c) (drop c (take k (drop a xs)))) m
    ∙ ap (take (d - c)) (drop-take c (b - a - c) (drop a xs))
    ∙ take-take (d - c) (b - a - c) (drop c (drop a xs)) (omega arith)
    ∙ ap (take (d - c)) (drop-drop c a xs)
    ∙ ap (λ k. take k (drop (a + c) xs)) (sym n)

-- two adjacent ranges
pub range_join : (xs : List ℕ) (a b c : ℕ) → a ≤ b → b ≤ c → slice_range xs a b ++ slice_range xs b c ≡ slice_range xs a c
range_join xs a b c le lt =
    let m : a + (b - a) ≡ b = omega arith in
    let n : b - a + (c - b) ≡ c - a = omega arith in
    ap (λ k. slice_range xs a b ++ take (c - b) (drop k xs)) (sym m)
    ∙ ap (λ ys. take (b - a) (drop a xs) ++ take (c - b) ys) (sym (drop-drop (b - a) a xs))
    ∙ sym (take-add (b - a) (c - b) (drop a xs))
    ∙ ap (λ k. take k (drop a xs)) n

pub range_start : (xs : List ℕ) (a b n : ℕ) → a + n ≤ b → take n (slice_range xs a b) ≡ slice_range xs a (a + n)
range_start xs a b n le =
    let m : n ≡ a + n - a = omega arith in
    take-take n (b - a) (drop a xs) (omega arith) ∙ ap (λ k. take k (drop a xs)) m

pub range_end : (xs : List ℕ) (a b n : ℕ) → a + n ≤ b → b ≤ length xs → suffix n (slice_range xs a b) ≡ slice_range xs (b - n) b
range_end xs a b n le within =
    let len : length (slice_range xs a b) - n ≡ b - a - n = omega (arith, length_range xs a b within) in
    let m : b - a ≡ b - a - n + n = omega arith in
    let k : a + (b - a - n) ≡ b - n = omega arith in
    let e : n ≡ b - (b - n) = omega arith in
    ap (λ j. drop j (slice_range xs a b)) len
    ∙ ap (λ j. drop (b - a - n) (take j (drop a xs))) m
    ∙ drop-take (b - a - n) n (drop a xs)
    ∙ ap (take n) (drop-drop (b - a - n) a xs ∙ ap (λ j. drop j xs) k)
    ∙ ap (λ j. take j (drop (b - n) xs)) e
