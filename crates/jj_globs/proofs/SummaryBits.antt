-- The summary of a set of states: a bit for each word that is not zero.
use Rattle.std.proofs.Common.{◌≡◌, ◌≢◌, ◌↔◌, ◌⊎◌, ◌∙◌, ℕ, ◌+◌, ◌*◌, ◌/◌, ◌%◌, ◌^◌, ◌<◌, ◌≤◌, List, length, get_or, ap, sym, inl, inr, refl, subst, arith}
use Rattle.std.proofs.Math.ListN.{set}
use Rattle.std.proofs.lemmas.Bool.{cases_lt}
use Rattle.std.proofs.lemmas.Bool.Decides.{eqb_tells}
use Rattle.std.proofs.lemmas.List.{get_or_past, length-set}
use Rattle.std.proofs.lemmas.Nat.Bits.{bit_at-zero}
use Rattle.std.proofs.lemmas.Nat.{and_le_r}
use Rattle.std.proofs.lemmas.Nat.Bits.{bit_at-trailing_zeros}
use Rattle.std.proofs.lemmas.Grind.{get_or-set_at}
use Rattle.std.specs.Int.{bit_at, bit_not, trailing_zeros, w64}
use Rattle.std.specs.Int.Bits.{bit_and}
use Rattle.jj_globs.specs.GlobNfa.{HasBit, WordHasBit, IsSummary}
use Rattle.jj_globs.proofs.BitSets.{index_word, lowest_live, first_live, take_live}

-- no bit of a zero word is set
zero_word : (ws : List ℕ) (w : ℕ) → get_or ws w 0 ≡ 0 → WordHasBit ws w → ⊥
zero_word ws w is held =
    let bit : bit_at 0 (held.0 % 64) ≡ 1 = ap (λ y. bit_at y (held.0 % 64)) (sym (ap (λ (i : ℕ). get_or ws i 0) held.1 ∙ is)) ∙ held.2 in
    absurd (omega (arith, bit, bit_at-zero (held.0 % 64)))

-- a word with a bit that is set is in range
pub word_within : (ws : List ℕ) (w : ℕ) → WordHasBit ws w → w < length ws
word_within ws w held =
    elim (cases_lt w (length ws)) [
      | inl lt ↦ lt
      | inr past ↦ absurd (zero_word ws w (get_or_past ws w 0 past) held)
    ]

-- an empty summary is that of an empty set
pub none_held : (ws ss : List ℕ) → IsSummary ws ss → ((w : ℕ) → HasBit ss w → ⊥) → (j : ℕ) → HasBit ws j → ⊥
none_held ws ss known none j live = none (j / 64) ((known.tells (j / 64)).1 (j, refl, live))

-- inserts a state, and sets the bit of its word
pub summary_put : (ws ws' ss ss' : List ℕ) (p : ℕ) → IsSummary ws ss
    → ((j : ℕ) → HasBit ws' j ↔ (HasBit ws j ⊎ (j ≡ p))) → ((w : ℕ) → HasBit ss' w ↔ (HasBit ss w ⊎ (w ≡ p / 64)))
    → length ws' ≡ length ws → length ss' ≡ length ss → IsSummary ws' ss'
summary_put ws ws' ss ss' p known live marks same_words same_marks = record {
  tells = λ w. (
    (λ h. elim ((marks w).0 h) [
      | inl l ↦ (let held = (known.tells w).0 l in (held.0, held.1, (live held.0).1 (inl held.2)))
      | inr e ↦ (p, sym e, (live p).1 (inr refl))
    ]),
    (λ held. (marks w).1 (elim ((live held.0).0 held.2) [
      | inl l ↦ inl ((known.tells w).1 (held.0, held.1, l))
      | inr e ↦ inr (sym held.1 ∙ ap (λ (i : ℕ). i / 64) e)
    ])),
  );
  room = (let room = known.room in rw (same_words, same_marks) room);
  limit = rw same_marks known.limit;
}

-- removes a state from a word with another one
summary_kept : (ws ws' ss : List ℕ) (w k : ℕ) → IsSummary ws ss → k < 64
    → ((j : ℕ) → HasBit ws' j ↔ (HasBit ws j × (j ≢ w * 64 + k))) → WordHasBit ws' w → length ws' ≡ length ws → IsSummary ws' ss
summary_kept ws ws' ss w k known low left other same_words = record {
  tells = λ v. (
    (λ h. elim (eqb_tells v w) [
      | inl e ↦ (other.0, other.1 ∙ sym e.1, other.2)
      | inr e ↦ (let held = (known.tells v).0 h in
          (held.0, held.1, (left held.0).1 (held.2, (λ q. e.1 (sym held.1 ∙ ap (λ (i : ℕ). i / 64) q ∙ index_word w k low)))))
    ]),
    (λ held. (known.tells v).1 (held.0, held.1, ((left held.0).0 held.2).0)),
  );
  room = rw same_words known.room;
  limit = known.limit;
}

-- removes the last state of a word, and clears the bit of the word
summary_emptied : (ws ws' ss ss' : List ℕ) (w k : ℕ) → IsSummary ws ss → k < 64
    → ((j : ℕ) → HasBit ws' j ↔ (HasBit ws j × (j ≢ w * 64 + k))) → get_or ws' w 0 ≡ 0
    → ((v : ℕ) → HasBit ss' v ↔ (HasBit ss v × (v ≢ w))) → length ws' ≡ length ws → length ss' ≡ length ss → IsSummary ws' ss'
summary_emptied ws ws' ss ss' w k known low left zeros marks same_words same_marks = record {
  tells = λ v. (
    (λ h.
        let was = (marks v).0 h in
        let held = (known.tells v).0 was.0 in
        (held.0, held.1, (left held.0).1 (held.2, (λ q. was.1 (sym held.1 ∙ ap (λ (i : ℕ). i / 64) q ∙ index_word w k low))))),
    (λ held. (marks v).1 (
      (known.tells v).1 (held.0, held.1, ((left held.0).0 held.2).0),
      (λ e. zero_word ws' w zeros (held.0, held.1 ∙ e, held.2)),
    )),
  );
  room = (let room = known.room in rw (same_words, same_marks) room);
  limit = rw same_marks known.limit;
}

-- the first nonzero word begins before all states
before_all : (ws ss : List ℕ) (w : ℕ) → IsSummary ws ss → ((v : ℕ) → HasBit ss v → w ≤ v) → (j : ℕ) → HasBit ws j → w * 64 ≤ j
before_all ws ss w known least j live =
    let low = least (j / 64) ((known.tells (j / 64)).1 (j, refl, live)) in omega (arith, low)

-- clears a bit of a word
abbrev without_bit : List ℕ → ℕ → ℕ → ℕ
without_bit ws w k = bit_and (get_or ws w 0) (bit_not w64 (1 * 2 ^ k % 2 ^ 64))

without_bit_fits : (x m : ℕ) → bit_and x (bit_not w64 m) < 2 ^ 64
without_bit_fits x m = let below = and_le_r x (bit_not w64 m) in omega (arith, below)

others_left : (ws ss : List ℕ) (w k : ℕ) → IsSummary ws ss → HasBit ss w → k < 64 → without_bit ws w k ≢ 0
    → IsSummary (set ws w (without_bit ws w k)) ss
others_left ws ss w k known marked low some =
    let x : ℕ = without_bit ws w k in
    let within = word_within ws w ((known.tells w).0 marked) in
    let lowest = bit_at-trailing_zeros w64 x (omega (arith, some)) (without_bit_fits (get_or ws w 0) (1 * 2 ^ k % 2 ^ 64)) in
    let bit : bit_at (get_or (set ws w x) w 0) (trailing_zeros w64 x) ≡ 1 =
    ap (λ y. bit_at y (trailing_zeros w64 x)) (get_or-set_at ws w w x 0 refl within) ∙ lowest.1 in
    summary_kept ws (set ws w x) ss w k known low (take_live ws w k within low)
    (w * 64 + trailing_zeros w64 x, index_word w (trailing_zeros w64 x) lowest.0, lowest_live (set ws w x) w (trailing_zeros w64 x) lowest.0 bit)
    (length-set ws w x)

none_left : (ws ss ss' : List ℕ) (w k : ℕ) → IsSummary ws ss → HasBit ss w → k < 64 → without_bit ws w k ≡ 0
    → ((v : ℕ) → HasBit ss' v ↔ (HasBit ss v × (v ≢ w))) → length ss' ≡ length ss → IsSummary (set ws w (without_bit ws w k)) ss'
none_left ws ss ss' w k known marked low zero marks same_marks =
    let x : ℕ = without_bit ws w k in
    let within = word_within ws w ((known.tells w).0 marked) in
    summary_emptied ws (set ws w x) ss ss' w k known low (take_live ws w k within low) (get_or-set_at ws w w x 0 refl within ∙ zero) marks (length-set ws w x) same_marks

-- removes a state, and clears the bit of its word if that is now zero
pub summary_taken : (ws ss ss' : List ℕ) (w k : ℕ) → IsSummary ws ss → HasBit ss w → k < 64
    → (without_bit ws w k ≡ 0 → (v : ℕ) → HasBit ss' v ↔ (HasBit ss v × (v ≢ w)))
    → (without_bit ws w k ≢ 0 → ss' ≡ ss) → length ss' ≡ length ss → IsSummary (set ws w (without_bit ws w k)) ss'
summary_taken ws ss ss' w k known marked low emptied kept same_marks =
    elim (eqb_tells (without_bit ws w k) 0) [
      | inl e ↦ none_left ws ss ss' w k known marked low e.1 (emptied e.1) same_marks
      | inr e ↦ subst (λ (x : List ℕ). IsSummary (set ws w (without_bit ws w k)) x) (sym (kept e.1)) (others_left ws ss w k known marked low e.1)
    ]

-- the lowest bit of the first nonzero word is a state, which is removed by clearing it
pub first_taken : (ws ss : List ℕ) (w k : ℕ) → IsSummary ws ss → HasBit ss w → k < 64 → bit_at (get_or ws w 0) k ≡ 1
    → HasBit ws (w * 64 + k) × ((j : ℕ) → HasBit (set ws w (without_bit ws w k)) j ↔ (HasBit ws j × (j ≢ w * 64 + k)))
first_taken ws ss w k known marked low bit = (lowest_live ws w k low bit, take_live ws w k (word_within ws w ((known.tells w).0 marked)) low)

-- this state is the least
pub first_of_all : (ws ss : List ℕ) (w k : ℕ) → IsSummary ws ss → ((v : ℕ) → HasBit ss v → w ≤ v) → k < 64
    → ((i : ℕ) → i < k → bit_at (get_or ws w 0) i ≡ 0) → (j : ℕ) → HasBit ws j → w * 64 + k ≤ j
first_of_all ws ss w k known least low zeros = first_live ws w k low zeros (before_all ws ss w known least)
