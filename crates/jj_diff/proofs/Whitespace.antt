-- Canonical forms of byte strings, a byte at a time.
use Rattle.std.proofs.Common.{◌≡◌, ◌≢◌, ℕ, ◌+◌, ◌<◌, ◌≤◌, List, [], ◌∷◌, ◌++◌, length, drop, get_or, refl, ap, sym, ◌∙◌, subst, arith, Bool, true, false, append_assoc, length-drop}
use Rattle.std.proofs.lemmas.List.{drop_more, drop_all, append-nil}
use Rattle.std.specs.Char.{is_ascii_whitespace}
use Rattle.jj_diff.specs.Whitespace.{without_whitespace, spaced, with_single_spaces, symbol_of, form_of}

without_yes : (b : ℕ) (bs : List ℕ) → is_ascii_whitespace b ≡ true → without_whitespace (b ∷ bs) ≡ without_whitespace bs
without_yes b bs e = rw e refl

without_no : (b : ℕ) (bs : List ℕ) → is_ascii_whitespace b ≡ false → without_whitespace (b ∷ bs) ≡ symbol_of b ∷ without_whitespace bs
without_no b bs e = rw e refl

spaced_yes : (b : ℕ) (bs : List ℕ) → is_ascii_whitespace b ≡ true → spaced true (b ∷ bs) ≡ spaced true bs
spaced_yes b bs e = rw e refl

spaced_first : (b : ℕ) (bs : List ℕ) → is_ascii_whitespace b ≡ true → spaced false (b ∷ bs) ≡ symbol_of b ∷ spaced true bs
spaced_first b bs e = rw e refl

spaced_no : (b : ℕ) (bs : List ℕ) → is_ascii_whitespace b ≡ false → spaced false (b ∷ bs) ≡ symbol_of b ∷ spaced false bs
spaced_no b bs e = rw e refl

spaced_word : (b : ℕ) (bs : List ℕ) → is_ascii_whitespace b ≡ false → spaced true (b ∷ bs) ≡ spaced false (b ∷ bs)
spaced_word b bs e = rw e refl

module _ (xs : List ℕ) (i : ℕ) (lt : i < length xs) where
  -- one more byte of white space
  pub skip_without : is_ascii_whitespace (get_or xs i 0) ≡ true → without_whitespace (drop i xs) ≡ without_whitespace (drop (i + 1) xs)
  skip_without e = ap without_whitespace (drop_more xs i 0 lt) ∙ without_yes (get_or xs i 0) (drop (i + 1) xs) e

  pub skip_spaced : is_ascii_whitespace (get_or xs i 0) ≡ true → spaced true (drop i xs) ≡ spaced true (drop (i + 1) xs)
  skip_spaced e = ap (spaced true) (drop_more xs i 0 lt) ∙ spaced_yes (get_or xs i 0) (drop (i + 1) xs) e

  pub next_without : is_ascii_whitespace (get_or xs i 0) ≡ false
      → without_whitespace (drop i xs) ≡ symbol_of (get_or xs i 0) ∷ without_whitespace (drop (i + 1) xs)
  next_without e = ap without_whitespace (drop_more xs i 0 lt) ∙ without_no (get_or xs i 0) (drop (i + 1) xs) e

  pub next_spaced : is_ascii_whitespace (get_or xs i 0) ≡ false
      → with_single_spaces (drop i xs) ≡ symbol_of (get_or xs i 0) ∷ with_single_spaces (drop (i + 1) xs)
  next_spaced e = ap (spaced false) (drop_more xs i 0 lt) ∙ spaced_no (get_or xs i 0) (drop (i + 1) xs) e

  next_space : is_ascii_whitespace (get_or xs i 0) ≡ true
      → with_single_spaces (drop i xs) ≡ symbol_of (get_or xs i 0) ∷ spaced true (drop (i + 1) xs)
  next_space e = ap (spaced false) (drop_more xs i 0 lt) ∙ spaced_first (get_or xs i 0) (drop (i + 1) xs) e

-- after white space, at the end or before a byte of another kind
word_after : (xs : List ℕ) (i : ℕ) → i ≤ length xs → (i < length xs → is_ascii_whitespace (get_or xs i 0) ≡ false)
    → spaced true (drop i xs) ≡ with_single_spaces (drop i xs)
word_after xs i le word = elim (drop i xs) as (λ ys. drop i xs ≡ ys → spaced true ys ≡ spaced false ys) [
  | [] ↦ λ e. refl
  | b ∷ bs ↦ λ e.
      let lt : i < length xs = omega (arith, ap length e, length-drop i xs) in
      let here : get_or xs i 0 ≡ b = ap (λ ys. get_or ys 0 0) (sym (drop_more xs i 0 lt) ∙ e) in
      spaced_word b bs (subst (λ c. is_ascii_whitespace c ≡ false) here (word lt))
] refl

pub next_run : (xs : List ℕ) (i j : ℕ) → i < length xs → j ≤ length xs → is_ascii_whitespace (get_or xs i 0) ≡ true
    → spaced true (drop (i + 1) xs) ≡ spaced true (drop j xs) → (j < length xs → is_ascii_whitespace (get_or xs j 0) ≡ false)
    → with_single_spaces (drop i xs) ≡ symbol_of (get_or xs i 0) ∷ with_single_spaces (drop j xs)
next_run xs i j lt le e skipped word =
    next_space xs i lt e ∙ ap (λ ys. symbol_of (get_or xs i 0) ∷ ys) (skipped ∙ word_after xs j le word)

pub next_word : (xs : List ℕ) (i j : ℕ) → i < length xs → is_ascii_whitespace (get_or xs i 0) ≡ false
    → without_whitespace (drop (i + 1) xs) ≡ without_whitespace (drop j xs)
    → without_whitespace (drop i xs) ≡ symbol_of (get_or xs i 0) ∷ without_whitespace (drop j xs)
next_word xs i j lt e skipped = next_without xs i lt e ∙ ap (λ ys. symbol_of (get_or xs i 0) ∷ ys) skipped

pub ruleset skip_steps = (skip_without, skip_spaced)

pub ruleset next_steps = (next_run, next_word, next_spaced)

-- the form of no byte
form_end : (all : Bool) (xs : List ℕ) (i : ℕ) → length xs ≤ i → form_of all (drop i xs) ≡ []
form_end all xs i le = ap (form_of all) (drop_all i xs le) ∙ elim all as (λ a. form_of a [] ≡ []) [ true ↦ refl | false ↦ refl ]

tail_same : (a b : ℕ) (xs ys : List ℕ) → a ∷ xs ≡ b ∷ ys → xs ≡ ys
tail_same a b xs ys e = ap (drop 1) e

module _ (all : Bool) (xs ys : List ℕ) (i j k l : ℕ) (s t : ℕ) where
  -- equal bytes at i and j, and what follows at k and l
  pub same_on : form_of all (drop i xs) ≡ s ∷ form_of all (drop k xs) → form_of all (drop j ys) ≡ t ∷ form_of all (drop l ys)
      → s ≡ t → form_of all (drop k xs) ≡ form_of all (drop l ys) → form_of all (drop i xs) ≡ form_of all (drop j ys)
  same_on e f g h = e ∙ ap (λ c. c ∷ form_of all (drop k xs)) g ∙ ap (λ zs. t ∷ zs) h ∙ sym f

  pub same_back : form_of all (drop i xs) ≡ s ∷ form_of all (drop k xs) → form_of all (drop j ys) ≡ t ∷ form_of all (drop l ys)
      → form_of all (drop i xs) ≡ form_of all (drop j ys) → form_of all (drop k xs) ≡ form_of all (drop l ys)
  same_back e f h = tail_same s t _ _ (sym e ∙ h ∙ f)

module _ (all : Bool) (xs : List ℕ) where
  pub form_nothing : (ys : List ℕ) (i j : ℕ) → length xs ≤ i → length ys ≤ j → form_of all (drop i xs) ≡ form_of all (drop j ys)
  form_nothing ys i j le lf = form_end all xs i le ∙ sym (form_end all ys j lf)

  pub form_more : (before more whole : List ℕ) (i k : ℕ) (s : ℕ) → form_of all (drop i xs) ≡ s ∷ form_of all (drop k xs)
      → more ≡ before ++ s ∷ [] → whole ≡ before ++ form_of all (drop i xs) → whole ≡ more ++ form_of all (drop k xs)
  form_more before more whole i k s e f g =
      g ∙ ap (λ ys. before ++ ys) e ∙ sym (append_assoc before (s ∷ []) (form_of all (drop k xs)))
      ∙ ap (λ ys. ys ++ form_of all (drop k xs)) (sym f)

  pub form_whole : (before whole : List ℕ) (i : ℕ) → length xs ≤ i → whole ≡ before ++ form_of all (drop i xs) → before ≡ whole
  form_whole before whole i le g = sym (g ∙ ap (λ ys. before ++ ys) (form_end all xs i le) ∙ append-nil before)

-- the first byte counts
pub form_first : (all : Bool) (xs : List ℕ) (i : ℕ) → i < length xs → (all ≡ true → is_ascii_whitespace (get_or xs i 0) ≡ false)
    → form_of all (drop i xs) ≢ []
form_first true xs i lt word = λ e. absurd (omega (arith, ap length (sym (next_without xs i lt (word refl)) ∙ e)))
form_first false xs i lt word =
    elim (is_ascii_whitespace (get_or xs i 0)) as (λ b. is_ascii_whitespace (get_or xs i 0) ≡ b → form_of false (drop i xs) ≢ []) [
      | true ↦ λ b e. absurd (omega (arith, ap length (sym (next_space xs i lt b) ∙ e)))
      | false ↦ λ b e. absurd (omega (arith, ap length (sym (next_spaced xs i lt b) ∙ e)))
    ] refl

-- one of two strings is at its end
pub form_ends : (all : Bool) (xs ys : List ℕ) (i j : ℕ) → length xs ≤ i → j < length ys
    → (all ≡ true → is_ascii_whitespace (get_or ys j 0) ≡ false) → form_of all (drop i xs) ≢ form_of all (drop j ys)
form_ends all xs ys i j le lt word = λ e. form_first all ys j lt word (sym e ∙ form_end all xs i le)

pub form_ends_other : (all : Bool) (xs ys : List ℕ) (i j : ℕ) → i < length xs → length ys ≤ j
    → (all ≡ true → is_ascii_whitespace (get_or xs i 0) ≡ false) → form_of all (drop i xs) ≢ form_of all (drop j ys)
form_ends_other all xs ys i j lt le word = λ e. form_first all xs i lt word (e ∙ form_end all ys j le)

-- the first byte of a form
pub form_head : (all : Bool) (xs : List ℕ) (i : ℕ) → i < length xs → (all ≡ true → is_ascii_whitespace (get_or xs i 0) ≡ false)
    → get_or (form_of all (drop i xs)) 0 0 ≡ symbol_of (get_or xs i 0)
form_head true xs i lt word = ap (λ ys. get_or ys 0 0) (next_without xs i lt (word refl))
form_head false xs i lt word =
    elim (is_ascii_whitespace (get_or xs i 0)) as (λ b. is_ascii_whitespace (get_or xs i 0) ≡ b
    → get_or (form_of false (drop i xs)) 0 0 ≡ symbol_of (get_or xs i 0)) [
      | true ↦ λ b. ap (λ ys. get_or ys 0 0) (next_space xs i lt b)
      | false ↦ λ b. ap (λ ys. get_or ys 0 0) (next_spaced xs i lt b)
    ] refl

pub ruleset form_steps = (same_on, same_back, form_nothing, form_more, form_whole, form_ends, form_ends_other)
