-- Lines of byte strings that are joined or cut.
use Rattle.std.proofs.Common.{◌≡◌, ℕ, zero, suc, ◌+◌, ◌-◌, ◌<◌, true, false, cond, ◌==◌, List, [], ◌∷◌, ◌++◌, length, get_or, take, drop, refl, sym, ap, ◌∙◌, inl, inr, add-one, arith, eq-eqb, ne_eqb, eqb-true}
use Rattle.std.proofs.lemmas.Bool.{cases_eq, cases_Bool, eqb-false}
use Rattle.std.proofs.lemmas.List.{take_all, drop_all}
use Rattle.std.specs.List.{list_any, concat}
use Rattle.jj_conflicts.specs.Lines.{prepended, split_lines, is_terminated, terminated}
use Rattle.jj_conflicts.proofs.Booleans.{cond_true, cond_false, or_false}

pub split-newline : (b : ℕ) (bs : List ℕ) → b ≡ 10
    → split_lines (b ∷ bs) ≡ (b ∷ []) ∷ split_lines bs
split-newline b bs e =
    cond_true (b == 10) ((b ∷ []) ∷ split_lines bs) (prepended b (split_lines bs)) (eq-eqb b 10 e)

pub split-other : (b : ℕ) (bs : List ℕ) → (b ≡ 10 → ⊥)
    → split_lines (b ∷ bs) ≡ prepended b (split_lines bs)
split-other b bs n =
    cond_false (b == 10) ((b ∷ []) ∷ split_lines bs) (prepended b (split_lines bs)) (ne_eqb b 10 n)

-- the first line ends at the first LF
split_at : (text : List ℕ) (i : ℕ) → i < length text
    → ((k : ℕ) → k < i → get_or text k 0 ≡ 10 → ⊥) → get_or text i 0 ≡ 10
    → split_lines text ≡ take (suc i) text ∷ split_lines (drop (suc i) text)
split_at [] i h none found = absurd (omega arith)
split_at (b ∷ bs) zero h none found = split-newline b bs found
split_at (b ∷ bs) (suc i) h none found =
    split-other b bs (none 0 (omega arith))
    ∙ ap (prepended b) (split_at bs i (omega arith) (λ k l. none (suc k) (omega arith)) found)

pub split_at_newline : (text : List ℕ) (i : ℕ) → i < length text
    → ((k : ℕ) → k < i → get_or text k 0 ≡ 10 → ⊥) → get_or text i 0 ≡ 10
    → split_lines text ≡ take (i + 1) text ∷ split_lines (drop (i + 1) text)
split_at_newline text i h none found = rw add-one (split_at text i h none found)

one_line : (text : List ℕ) → 0 < length text
    → ((k : ℕ) → k < length text → get_or text k 0 ≡ 10 → ⊥) → split_lines text ≡ text ∷ []
one_line [] h none = absurd (omega arith)
one_line (b ∷ []) h none = split-other b [] (none 0 (omega arith))
one_line (b ∷ c ∷ bs) h none =
    split-other b (c ∷ bs) (none 0 (omega arith))
    ∙ ap (prepended b) (one_line (c ∷ bs) (omega arith) (λ k l. none (suc k) (omega arith)))

pub split_without_newline : (text : List ℕ) → 0 < length text
    → ((k : ℕ) → k < length text → get_or text k 0 ≡ 10 → ⊥)
    → split_lines text ≡ take (length text) text ∷ split_lines (drop (length text) text)
split_without_newline text h none =
    rw (take_all (length text) text (omega arith), drop_all (length text) text (omega arith))
    (one_line text h none)

terminated_by_last : (text : List ℕ) (i : ℕ) → suc i ≡ length text
    → is_terminated text ≡ (get_or text i 0 == 10)
terminated_by_last [] i e = absurd (omega arith)
terminated_by_last (x ∷ []) zero e = refl
terminated_by_last (x ∷ []) (suc i) e = absurd (omega arith)
terminated_by_last (x ∷ y ∷ ys) zero e = absurd (omega arith)
terminated_by_last (x ∷ y ∷ ys) (suc i) e = terminated_by_last (y ∷ ys) i (omega arith)

pub terminated_at_end : (text : List ℕ) → 0 < length text
    → is_terminated text ≡ (get_or text (length text - 1) 0 == 10)
terminated_at_end text h = terminated_by_last text (length text - 1) (omega arith)

pub terminated_empty : (text : List ℕ) → length text ≡ 0 → is_terminated text ≡ true
terminated_empty [] h = refl
terminated_empty (x ∷ xs) h = absurd (omega arith)

pub split_empty : (text : List ℕ) → length text ≡ 0 → split_lines text ≡ []
split_empty [] h = refl
split_empty (x ∷ xs) h = absurd (omega arith)

-- ---- lines of joined byte strings

prepended-append : (b : ℕ) (ls ms : List (List ℕ)) → 0 < length ls
    → prepended b (ls ++ ms) ≡ prepended b ls ++ ms
prepended-append b [] ms h = absurd (omega arith)
prepended-append b (l ∷ ls) ms h = refl

prepended-nonempty : (b : ℕ) (ls : List (List ℕ)) → 0 < length (prepended b ls)
prepended-nonempty b [] = omega arith
prepended-nonempty b (l ∷ ls) = omega arith

pub split-nonempty : (b : ℕ) (bs : List ℕ) → 0 < length (split_lines (b ∷ bs))
split-nonempty b bs =
    elim (b == 10) as (λ v. 0 < length (cond v ((b ∷ []) ∷ split_lines bs)
    (prepended b (split_lines bs))))
    [ true ↦ omega arith | false ↦ prepended-nonempty b (split_lines bs) ]

pub split-append : (x y : List ℕ) → is_terminated x ≡ true
    → split_lines (x ++ y) ≡ split_lines x ++ split_lines y
split-append [] y t = refl
split-append (b ∷ []) y t =
    let e : b ≡ 10 = eqb-true b 10 t in
    split-newline b y e ∙ sym (ap (λ ls. ls ++ split_lines y) (split-newline b [] e))
split-append (b ∷ c ∷ bs) y t =
    elim (cases_eq b 10) [
      | inl e ↦ split-newline b (c ∷ (bs ++ y)) e
          ∙ ap (λ ls. (b ∷ []) ∷ ls) (split-append (c ∷ bs) y t)
          ∙ sym (ap (λ ls. ls ++ split_lines y) (split-newline b (c ∷ bs) e))
      | inr n ↦ split-other b (c ∷ (bs ++ y)) n
          ∙ ap (prepended b) (split-append (c ∷ bs) y t)
          ∙ prepended-append b (split_lines (c ∷ bs)) (split_lines y) (split-nonempty c bs)
          ∙ sym (ap (λ ls. ls ++ split_lines y) (split-other b (c ∷ bs) n))
    ]

-- a line without an LF before its end
pub split-line : (x : List ℕ) → list_any (λ b. b == 10) x ≡ false
    → split_lines (x ++ 10 ∷ []) ≡ (x ++ 10 ∷ []) ∷ []
split-line [] h = refl
split-line (b ∷ bs) h =
    let p : ((b == 10) ≡ false) × (list_any (λ c. c == 10) bs ≡ false)
    = or_false (b == 10) (list_any (λ c. c == 10) bs) h in
    split-other b (bs ++ 10 ∷ []) (eqb-false b 10 p.0) ∙ ap (prepended b) (split-line bs p.1)

concat-prepended : (b : ℕ) (ls : List (List ℕ)) → concat (prepended b ls) ≡ b ∷ concat ls
concat-prepended b [] = refl
concat-prepended b (l ∷ ls) = refl

pub concat-split : (x : List ℕ) → concat (split_lines x) ≡ x
concat-split [] = refl
concat-split (b ∷ bs) =
    elim (cases_eq b 10) [
      | inl e ↦ ap concat (split-newline b bs e) ∙ ap (λ r. b ∷ r) (concat-split bs)
      | inr n ↦ ap concat (split-other b bs n) ∙ concat-prepended b (split_lines bs)
          ∙ ap (λ r. b ∷ r) (concat-split bs)
    ]

-- ---- LF at the end

pub terminated-push : (x : List ℕ) → is_terminated (x ++ 10 ∷ []) ≡ true
terminated-push [] = refl
terminated-push (b ∷ []) = refl
terminated-push (b ∷ c ∷ bs) = terminated-push (c ∷ bs)

pub terminated-append : (x y : List ℕ) → is_terminated x ≡ true → is_terminated y ≡ true
    → is_terminated (x ++ y) ≡ true
terminated-append [] y s t = t
terminated-append (b ∷ []) [] s t = s
terminated-append (b ∷ []) (c ∷ y) s t = t
terminated-append (b ∷ c ∷ bs) y s t = terminated-append (c ∷ bs) y s t

pub is_terminated-terminated : (x : List ℕ) → is_terminated (terminated x) ≡ true
is_terminated-terminated x =
    elim (cases_Bool (is_terminated x)) [
      | inl e ↦ ap is_terminated (cond_true (is_terminated x) x (x ++ 10 ∷ []) e) ∙ e
      | inr e ↦ ap is_terminated (cond_false (is_terminated x) x (x ++ 10 ∷ []) e)
          ∙ terminated-push x
    ]
