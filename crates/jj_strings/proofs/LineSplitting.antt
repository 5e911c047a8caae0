-- Splitting off the first line.
use Rattle.std.proofs.Common.{◌≡◌, ◌≢◌, ◌∙◌, sym, ap, refl, inl, inr, ℕ, suc, ◌≤◌, ◌<◌, Bool, true, false, ◌==◌, if◌then◌else◌, List, [], ◌∷◌, ◌++◌, length, take, drop, arith}
use Rattle.std.proofs.lemmas.Bool.Decides.{eqb_tells}
use Rattle.jj_strings.specs.Lines.{lines, with_byte, first_len, without_line_feed}

-- the lines are the first line, then the lines of the rest
abbrev pub IsCut : List ℕ → ℕ → Type 0
IsCut text n = lines text ≡ take n text ∷ lines (drop n text)

pub cut_by : (t : Bool) (b : ℕ) (bs : List ℕ) → (0 < length bs → IsCut bs (first_len bs))
    → (if t then (b ∷ []) ∷ lines bs else with_byte b (lines bs))
    ≡ take (if t then 1 else suc (first_len bs)) (b ∷ bs) ∷ lines (drop (if t then 1 else suc (first_len bs)) (b ∷ bs))
cut_by true b bs ih = refl
cut_by false b [] ih = refl
cut_by false b (c ∷ bs) ih = ap (with_byte b) (ih (omega arith))

pub lines-cut : (text : List ℕ) → 0 < length text → IsCut text (first_len text)
lines-cut [] h = absurd (omega arith)
lines-cut (b ∷ bs) h = cut_by (b == 10) b bs (lines-cut bs)

pub first_len-le : (text : List ℕ) → first_len text ≤ length text
first_len-le [] = omega arith
first_len-le (b ∷ bs) = le_by (b == 10) bs (first_len-le bs)
  where
    le_by : (t : Bool) (bs : List ℕ) → first_len bs ≤ length bs → (if t then 1 else suc (first_len bs)) ≤ suc (length bs)
    le_by true bs h = omega arith
    le_by false bs h = omega arith

-- a byte string with this last byte
pub feed-end : (prefix : List ℕ) (x : ℕ) → without_line_feed (prefix ++ x ∷ []) ≡ (if x == 10 then prefix else prefix ++ x ∷ [])
feed-end [] x = refl
feed-end (b ∷ []) x = end_by (x == 10) b x
  where
    end_by : (t : Bool) (b x : ℕ) → b ∷ (if t then [] else x ∷ []) ≡ (if t then b ∷ [] else b ∷ x ∷ [])
    end_by true b x = refl
    end_by false b x = refl
feed-end (b ∷ c ∷ bs) x = ap (λ l. b ∷ l) (feed-end (c ∷ bs) x) ∙ more_by (x == 10) b (c ∷ bs) x
  where
    more_by : (t : Bool) (b : ℕ) (bs : List ℕ) (x : ℕ) → b ∷ (if t then bs else bs ++ x ∷ []) ≡ (if t then b ∷ bs else b ∷ (bs ++ x ∷ []))
    more_by true b bs x = refl
    more_by false b bs x = refl

pub feed_off : (line prefix : List ℕ) (x : ℕ) → line ≡ prefix ++ x ∷ [] → x ≡ 10 → prefix ≡ without_line_feed line
feed_off line prefix x cut feed =
    sym (ap without_line_feed cut ∙ feed-end prefix x ∙ ap (λ (y : ℕ). if y == 10 then prefix else prefix ++ y ∷ []) feed)

pub feed_kept : (line prefix : List ℕ) (x : ℕ) → line ≡ prefix ++ x ∷ [] → x ≢ 10 → line ≡ without_line_feed line
feed_kept line prefix x cut other =
    elim (eqb_tells x 10) [
      | inl w ↦ absurd (other w.1)
      | inr w ↦ sym (ap without_line_feed cut ∙ feed-end prefix x ∙ ap (λ (t : Bool). if t then prefix else prefix ++ x ∷ []) w.0 ∙ sym cut)
    ]

pub first_len-positive : (text : List ℕ) → 0 < length text → 0 < first_len text
first_len-positive [] h = absurd (omega arith)
first_len-positive (b ∷ bs) h = positive_by (b == 10) bs
  where
    positive_by : (t : Bool) (bs : List ℕ) → 0 < (if t then 1 else suc (first_len bs))
    positive_by true bs = omega arith
    positive_by false bs = omega arith

pub cut_is : (text prefix back : List ℕ) (n : ℕ) → 0 < length text → n ≡ first_len text → prefix ≡ take n text → back ≡ drop n text
    → lines text ≡ prefix ∷ lines back
cut_is text prefix back n h n_is f b =
    lines-cut text h ∙ ap (λ (k : ℕ). take k text ∷ lines (drop k text)) (sym n_is)
    ∙ ap (λ (l : List ℕ). l ∷ lines (drop n text)) (sym f) ∙ ap (λ (l : List ℕ). prefix ∷ lines l) (sym b)
