-- Loop invariants of escaping a string character by character.
use Rattle.std.proofs.Common.{◌≡◌, ℕ, ◌+◌, ◌≤◌, ◌/◌, ◌%◌, List, [], length, ◌∷◌, ◌++◌, Bool, true, false, cond, ltb, refl, sym, ap, ◌∙◌, arith}
use Rattle.std.specs.List.{flat_map}
use Rattle.std.proofs.lemmas.List.{append-nil, append_assoc, nil_from_length}
use Rattle.std.proofs.lemmas.List.Concat.{flat_map-append}
use lib.Utf8.{encode}

plain_either : (escape : ℕ → List ℕ) (b : Bool) (xs ys : List ℕ) → flat_map escape xs ≡ xs → flat_map escape ys ≡ ys → flat_map escape (cond b xs ys) ≡ cond b xs ys
plain_either escape true xs ys x y = x
plain_either escape false xs ys x y = y

-- a character is unchanged if its byte is, and if bytes that are not ASCII are
pub plain_character : (escape : ℕ → List ℕ) (c : ℕ) → escape c ≡ c ∷ [] → ((b : ℕ) → 128 ≤ b → escape b ≡ b ∷ []) → flat_map escape (encode c) ≡ encode c
unfolding encode
plain_character escape c plain high =
    let last = high (128 + c % 64) (omega arith) in
    let middle = high (128 + c / 64 % 64) (omega arith) in
    let early = high (128 + c / 4096 % 64) (omega arith) in
    let one = c ∷ [] in
    let two = (192 + c / 64) ∷ (128 + c % 64) ∷ [] in
    let three = (224 + c / 4096) ∷ (128 + c / 64 % 64) ∷ (128 + c % 64) ∷ [] in
    let four = (240 + c / 262144) ∷ (128 + c / 4096 % 64) ∷ (128 + c / 64 % 64) ∷ (128 + c % 64) ∷ [] in
    let one_plain : flat_map escape one ≡ one = rw plain refl in
    let two_plain : flat_map escape two ≡ two = rw (high (192 + c / 64) (omega arith), last) refl in
    let three_plain : flat_map escape three ≡ three = rw (high (224 + c / 4096) (omega arith), middle, last) refl in
    let four_plain : flat_map escape four ≡ four = rw (high (240 + c / 262144) (omega arith), early, middle, last) refl in
    let three_or_four = plain_either escape (ltb c 65536) three four three_plain four_plain in
    let two_or_more = plain_either escape (ltb c 2048) two (cond (ltb c 65536) three four) two_plain three_or_four in
    plain_either escape (ltb c 128) one (cond (ltb c 2048) two (cond (ltb c 65536) three four)) one_plain two_or_more

-- loop step: one more character
pub one_more_written : (escape : ℕ → List ℕ) (buffer buffer' piece rest rest' whole : List ℕ) → buffer' ≡ buffer ++ flat_map escape piece → rest ≡ piece ++ rest'
    → buffer ++ flat_map escape rest ≡ whole → buffer' ++ flat_map escape rest' ≡ whole
one_more_written escape buffer buffer' piece rest rest' whole written split before =
    ap (λ b. b ++ flat_map escape rest') written ∙ append_assoc buffer (flat_map escape piece) (flat_map escape rest')
    ∙ ap (λ t. buffer ++ t) (sym (ap (flat_map escape) split ∙ flat_map-append escape piece rest')) ∙ before

-- loop exit
pub all_written : (escape : ℕ → List ℕ) (buffer rest whole : List ℕ) → length rest ≡ 0 → buffer ++ flat_map escape rest ≡ whole → buffer ≡ whole
all_written escape buffer rest whole empty before =
    sym (ap (λ r. buffer ++ flat_map escape r) (nil_from_length rest empty) ∙ append-nil buffer) ∙ before
