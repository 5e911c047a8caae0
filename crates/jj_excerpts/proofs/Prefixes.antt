-- The first characters of a byte string, read byte by byte.
use Rattle.std.proofs.Common.{◌≡◌, ◌≢◌, ◌∙◌, ℕ, ◌+◌, ◌-◌, ◌<◌, ◌≤◌, true, false, List, [], ◌∷◌, ◌++◌, length, take, drop, get_or, min, inl, inr, refl, ap, sym, arith, append_assoc, append-nil}
use Rattle.std.proofs.lemmas.Bool.{cases_lt, ne_eqb}
use Rattle.std.proofs.lemmas.List.{take_more, drop_more, drop_all, take_all, take-take, length-take}
use Rattle.jj_excerpts.specs.Excerpts.{first_characters, is_continuation, shown}

continues : (n b : ℕ) (bs : List ℕ) → is_continuation b ≡ true → shown n (b ∷ bs) ≡ b ∷ shown n bs
unfolding shown
continues n b bs is = rw is refl

begins : (n b : ℕ) (bs : List ℕ) → is_continuation b ≡ false → n ≢ 0 → shown n (b ∷ bs) ≡ b ∷ shown (n - 1) bs
unfolding shown
begins n b bs is more = rw (is, ne_eqb n 0 more) refl

ends : (b : ℕ) (bs : List ℕ) → is_continuation b ≡ false → shown 0 (b ∷ bs) ≡ []
unfolding shown
ends b bs is = rw is refl

shown-nil : (n : ℕ) → shown n [] ≡ []
unfolding shown
shown-nil n = refl

-- one byte more
more : (n m i : ℕ) (xs : List ℕ) → i < length xs → take i xs ++ shown n (drop i xs) ≡ shown 60 xs
    → shown n (get_or xs i 0 ∷ drop (i + 1) xs) ≡ get_or xs i 0 ∷ shown m (drop (i + 1) xs) → take (i + 1) xs ++ shown m (drop (i + 1) xs) ≡ shown 60 xs
more n m i xs within so is =
    ap (λ l. l ++ shown m (drop (i + 1) xs)) (take_more xs i 0 within)
    ∙ append_assoc (take i xs) (get_or xs i 0 ∷ []) (shown m (drop (i + 1) xs))
    ∙ ap (λ l. take i xs ++ l) (sym is ∙ ap (shown n) (sym (drop_more xs i 0 within)))
    ∙ so

pub more_of_character : (n i : ℕ) (xs : List ℕ) → i < length xs → take i xs ++ shown n (drop i xs) ≡ shown 60 xs → is_continuation (get_or xs i 0) ≡ true
    → take (i + 1) xs ++ shown n (drop (i + 1) xs) ≡ shown 60 xs
more_of_character n i xs within so is = more n n i xs within so (continues n (get_or xs i 0) (drop (i + 1) xs) is)

pub next_character : (n i : ℕ) (xs : List ℕ) → i < length xs → take i xs ++ shown n (drop i xs) ≡ shown 60 xs → is_continuation (get_or xs i 0) ≡ false → n ≢ 0
    → take (i + 1) xs ++ shown (n - 1) (drop (i + 1) xs) ≡ shown 60 xs
next_character n i xs within so is left = more n (n - 1) i xs within so (begins n (get_or xs i 0) (drop (i + 1) xs) is left)

pub all_characters : (n i : ℕ) (xs : List ℕ) → i < length xs → take i xs ++ shown n (drop i xs) ≡ shown 60 xs → is_continuation (get_or xs i 0) ≡ false → n ≡ 0
    → take i xs ≡ shown 60 xs
all_characters n i xs within so is none =
    sym (append-nil (take i xs))
    ∙ ap (λ l. take i xs ++ l) (sym (ap (λ m. shown m (drop i xs)) none ∙ ap (shown 0) (drop_more xs i 0 within) ∙ ends (get_or xs i 0) (drop (i + 1) xs) is))
    ∙ so

pub all_bytes : (n i : ℕ) (xs : List ℕ) → length xs ≤ i → take i xs ++ shown n (drop i xs) ≡ shown 60 xs → take i xs ≡ shown 60 xs
all_bytes n i xs past so =
    sym (append-nil (take i xs)) ∙ ap (λ l. take i xs ++ l) (sym (ap (shown n) (drop_all i xs past) ∙ shown-nil n)) ∙ so

-- the first characters of the first 240 bytes
pub first_of_limited : (xs : List ℕ) (limit i : ℕ) → limit ≡ min (length xs) 240 → i ≤ length (take limit xs) → take i (take limit xs) ≡ shown 60 (take limit xs) → take i xs ≡ first_characters xs
first_of_limited xs limit i is within so =
    let short : i ≤ limit = omega (arith, within, length-take limit xs) in
    sym (take-take i limit xs short) ∙ so ∙ ap (shown 60) (limited xs limit is)
  where
    limited : (xs : List ℕ) (limit : ℕ) → limit ≡ min (length xs) 240 → take limit xs ≡ take 240 xs
    limited xs limit is = elim (cases_lt (length xs) 240) [
      | inl short ↦ let e : length xs ≤ limit = omega arith in let f : length xs ≤ 240 = omega arith in take_all limit xs e ∙ sym (take_all 240 xs f)
      | inr long ↦ let e : limit ≡ 240 = omega arith in ap (λ n. take n xs) e
    ]
