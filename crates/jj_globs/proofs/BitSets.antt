-- Bits of words as a set of indices.
use Rattle.std.proofs.Common.{◌≡◌, ◌≢◌, ◌↔◌, ◌⊎◌, ◌∙◌, ℕ, ◌+◌, ◌*◌, ◌/◌, ◌%◌, ◌^◌, ◌<◌, ◌≤◌, List, length, get_or, ap, sym, inl, inr, arith}
use Rattle.std.proofs.Math.ListN.{set}
use Rattle.std.proofs.lemmas.Bool.{cases_lt}
use Rattle.std.proofs.lemmas.List.{get_or-set_other, get_or_past}
use Rattle.std.proofs.lemmas.Grind.{get_or-set_at}
use Rattle.std.proofs.lemmas.Bool.Decides.{eqb_tells}
use Rattle.std.proofs.lemmas.Nat.Bits.{bit_at_set_same, bit_at_set_other, bit_at_clear_same, bit_at_clear_other, bit_at-zero}
use Rattle.std.specs.Int.{bit_at, w64, bit_not}
use Rattle.std.specs.Int.Bits.{bit_or, bit_and}
use Rattle.jj_globs.specs.GlobNfa.{HasBit}

same_place : (j p : ℕ) → j / 64 ≡ p / 64 → j % 64 ≡ p % 64 → j ≡ p
same_place j p e f = omega arith

in_word : (p : ℕ) → p % 64 < 64
in_word p = omega arith

pub put_live : (ws : List ℕ) (p : ℕ) → p / 64 < length ws → (j : ℕ)
    → HasBit (set ws (p / 64) (bit_or (get_or ws (p / 64) 0) (1 * 2 ^ (p % 64) % 2 ^ 64))) j ↔ (HasBit ws j ⊎ (j ≡ p))
put_live ws p room j =
    let x : ℕ = bit_or (get_or ws (p / 64) 0) (1 * 2 ^ (p % 64) % 2 ^ 64) in
    elim (eqb_tells (j / 64) (p / 64)) [
      | inl w ↦
          let here : get_or (set ws (p / 64) x) (j / 64) 0 ≡ x = get_or-set_at ws (p / 64) (j / 64) x 0 w.1 room in
          elim (eqb_tells (j % 64) (p % 64)) [
            | inl v ↦
                let set_is : bit_at x (j % 64) ≡ 1 = ap (bit_at x) v.1 ∙ bit_at_set_same w64 (get_or ws (p / 64) 0) (p % 64) (in_word p) in
                ((λ h. inr (same_place j p w.1 v.1)), (λ h. ap (λ y. bit_at y (j % 64)) here ∙ set_is))
            | inr v ↦
                let ne : j % 64 ≢ p % 64 = v.1 in
                let kept : bit_at x (j % 64) ≡ bit_at (get_or ws (p / 64) 0) (j % 64) = bit_at_set_other w64 (get_or ws (p / 64) 0) (p % 64) (in_word p) (j % 64) ne in
                let whole : bit_at (get_or (set ws (p / 64) x) (j / 64) 0) (j % 64) ≡ bit_at (get_or ws (j / 64) 0) (j % 64) =
                ap (λ y. bit_at y (j % 64)) here ∙ kept ∙ ap (λ (i : ℕ). bit_at (get_or ws i 0) (j % 64)) (sym w.1) in
                ((λ h. inl (sym whole ∙ h)), (λ h. elim h [ inl l ↦ whole ∙ l | inr e ↦ absurd (ne (ap (λ (i : ℕ). i % 64) e)) ]))
          ]
      | inr w ↦
          let ne : j / 64 ≢ p / 64 = w.1 in
          let whole : bit_at (get_or (set ws (p / 64) x) (j / 64) 0) (j % 64) ≡ bit_at (get_or ws (j / 64) 0) (j % 64) =
          ap (λ y. bit_at y (j % 64)) (get_or-set_other ws (p / 64) (j / 64) x 0 ne) in
          ((λ h. inl (sym whole ∙ h)), (λ h. elim h [ inl l ↦ whole ∙ l | inr e ↦ absurd (ne (ap (λ (i : ℕ). i / 64) e)) ]))
    ]

pub index_word : (w k : ℕ) → k < 64 → (w * 64 + k) / 64 ≡ w
index_word w k h = omega arith

pub index_bit : (w k : ℕ) → k < 64 → (w * 64 + k) % 64 ≡ k
index_bit w k h = omega arith

from_parts : (j w k : ℕ) → j / 64 ≡ w → j % 64 ≡ k → j ≡ w * 64 + k
from_parts j w k e f = omega arith

pub take_live : (ws : List ℕ) (w k : ℕ) → w < length ws → k < 64 → (j : ℕ)
    → HasBit (set ws w (bit_and (get_or ws w 0) (bit_not w64 (1 * 2 ^ k % 2 ^ 64)))) j ↔ (HasBit ws j × (j ≢ w * 64 + k))
take_live ws w k room low j =
    let x : ℕ = bit_and (get_or ws w 0) (bit_not w64 (1 * 2 ^ k % 2 ^ 64)) in
    elim (eqb_tells (j / 64) w) [
      | inl e ↦
          let here : get_or (set ws w x) (j / 64) 0 ≡ x = get_or-set_at ws w (j / 64) x 0 e.1 room in
          elim (eqb_tells (j % 64) k) [
            | inl f ↦
                let gone : bit_at x (j % 64) ≡ 0 = ap (bit_at x) f.1 ∙ bit_at_clear_same w64 (get_or ws w 0) k low in
                let none : bit_at (get_or (set ws w x) (j / 64) 0) (j % 64) ≡ 0 = ap (λ y. bit_at y (j % 64)) here ∙ gone in
                ((λ h. absurd (omega (arith, h, none))), (λ h. absurd (h.1 (from_parts j w k e.1 f.1))))
            | inr f ↦
                let ne : j % 64 ≢ k = f.1 in
                let kept : bit_at x (j % 64) ≡ bit_at (get_or ws w 0) (j % 64) = bit_at_clear_other w64 (get_or ws w 0) k low (j % 64) (in_word j) ne in
                let whole : bit_at (get_or (set ws w x) (j / 64) 0) (j % 64) ≡ bit_at (get_or ws (j / 64) 0) (j % 64) =
                ap (λ y. bit_at y (j % 64)) here ∙ kept ∙ ap (λ (i : ℕ). bit_at (get_or ws i 0) (j % 64)) (sym e.1) in
                ((λ h. (sym whole ∙ h, (λ q. ne (ap (λ (i : ℕ). i % 64) q ∙ index_bit w k low)))), (λ h. whole ∙ h.0))
          ]
      | inr e ↦
          let ne : j / 64 ≢ w = e.1 in
          let whole : bit_at (get_or (set ws w x) (j / 64) 0) (j % 64) ≡ bit_at (get_or ws (j / 64) 0) (j % 64) =
          ap (λ y. bit_at y (j % 64)) (get_or-set_other ws w (j / 64) x 0 ne) in
          ((λ h. (sym whole ∙ h, (λ q. ne (ap (λ (i : ℕ). i / 64) q ∙ index_word w k low)))), (λ h. whole ∙ h.0))
    ]

-- clearing the bit of an index
pub take_out_live : (ws : List ℕ) (p : ℕ) → p / 64 < length ws → (j : ℕ)
    → HasBit (set ws (p / 64) (bit_and (get_or ws (p / 64) 0) (bit_not w64 (1 * 2 ^ (p % 64) % 2 ^ 64)))) j ↔ (HasBit ws j × (j ≢ p))
take_out_live ws p room j =
    let e : p ≡ p / 64 * 64 + p % 64 = omega arith in
    let known = take_live ws (p / 64) (p % 64) room (in_word p) j in (
      (λ h. let left = known.0 h in (left.0, (λ q. left.1 (q ∙ e)))),
      (λ h. known.1 (h.0, (λ q. h.1 (q ∙ sym e)))),
    )

-- the lowest bit of the first nonzero word is the first bit that is set
pub lowest_live : (ws : List ℕ) (w k : ℕ) → k < 64 → bit_at (get_or ws w 0) k ≡ 1 → HasBit ws (w * 64 + k)
lowest_live ws w k low is =
    ap (λ (i : ℕ). bit_at (get_or ws i 0) ((w * 64 + k) % 64)) (index_word w k low) ∙ ap (bit_at (get_or ws w 0)) (index_bit w k low) ∙ is

pub first_live : (ws : List ℕ) (w k : ℕ) → k < 64 → ((i : ℕ) → i < k → bit_at (get_or ws w 0) i ≡ 0) → ((j : ℕ) → HasBit ws j → w * 64 ≤ j)
    → (j : ℕ) → HasBit ws j → w * 64 + k ≤ j
first_live ws w k low zeros before j live =
    let least : w * 64 ≤ j = before j live in
    elim (eqb_tells (j / 64) w) [
      | inl e ↦
          elim (cases_lt (j % 64) k) [
            | inl lt ↦
                let zero_bit : bit_at (get_or ws w 0) (j % 64) ≡ 0 = zeros (j % 64) lt in
                let one_bit : bit_at (get_or ws w 0) (j % 64) ≡ 1 = ap (λ (i : ℕ). bit_at (get_or ws i 0) (j % 64)) (sym e.1) ∙ live in
                absurd (omega (arith, zero_bit, one_bit))
            | inr ge ↦ (let at : j / 64 ≡ w = e.1 in omega (arith, ge))
          ]
      | inr e ↦ (let ne : j / 64 ≢ w = e.1 in omega (arith, low))
    ]

-- no bit of a zero word is set
pub none_in_word : (ws : List ℕ) (w : ℕ) → get_or ws w 0 ≡ 0 → ((j : ℕ) → HasBit ws j → w * 64 ≤ j) → (j : ℕ) → HasBit ws j → (w + 1) * 64 ≤ j
none_in_word ws w is before j live =
    let least : w * 64 ≤ j = before j live in
    elim (eqb_tells (j / 64) w) [
      | inl e ↦
          let bit : bit_at 0 (j % 64) ≡ 1 = ap (λ y. bit_at y (j % 64)) (sym (ap (λ (i : ℕ). get_or ws i 0) e.1 ∙ is)) ∙ live in
          absurd (omega (arith, bit, bit_at-zero (j % 64)))
      | inr e ↦ (let ne : j / 64 ≢ w = e.1 in omega arith)
    ]

-- no bit past the words is set
pub none_past : (ws : List ℕ) (w : ℕ) → length ws ≤ w → ((j : ℕ) → HasBit ws j → w * 64 ≤ j) → (j : ℕ) → HasBit ws j → ⊥
none_past ws w past before j live =
    let least : w * 64 ≤ j = before j live in
    let beyond : length ws ≤ j / 64 = omega arith in
    let bit : bit_at 0 (j % 64) ≡ 1 = ap (λ y. bit_at y (j % 64)) (sym (get_or_past ws (j / 64) 0 beyond)) ∙ live in
    absurd (omega (arith, bit, bit_at-zero (j % 64)))
