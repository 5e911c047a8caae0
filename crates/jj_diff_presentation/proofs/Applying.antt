-- Steps of the application, as the code makes them.
use Rattle.std.proofs.Common.{◌≡◌, ℕ, zero, suc, ◌+◌, ◌-◌, ◌<◌, ◌≤◌, Bool, true, false, cond, ◌==◌, nat_lt, List, [], ◌∷◌, ◌++◌, length, take, drop, get_or, fold, Some, None, Result, Ok, Err, refl, sym, ap, ◌∙◌, arith, le-ltb, lt-ltb, eq-eqb, ne_eqb, append_assoc, append-nil, add-one, inl, inr}
use Rattle.std.proofs.lemmas.Bool.{cases_eq}
use Rattle.std.proofs.lemmas.List.Folds.{concat-append, fold_stays}
use Rattle.std.specs.List.{concat}
use Rattle.jj_diff_presentation.specs.Lines.{split_lines, prepended}
use Rattle.jj_diff_presentation.specs.Applying.{Applying, copied, with_left, with_right, then_right, with_hunk_line, is_note, patch_lines, run_line, fault, with_line, after_line, run, start, applied, missing, finished, finished_unless}
use Rattle.jj_diff_presentation.specs.declared.unified.patch.ExpectedInPatch.{ExpectedInPatch}
use Rattle.jj_diff_presentation.specs.declared.unified.patch.ExpectedInPatch.TheVariants.{HunkLine}
use Rattle.jj_diff_presentation.specs.declared.unified.patch.PatchFault.{PatchFault}
use Rattle.jj_diff_presentation.specs.declared.unified.patch.PatchPart.{PatchPart}
use Rattle.jj_diff_presentation.proofs.Booleans.{cond_true, cond_false}
use Rattle.jj_diff_presentation.proofs.LineLaws.{split-newline, split-other, split_empty, concat-split}

-- ---- copied lines

next_at : {X : Type 0} (xs ys : List X) (k : ℕ) (x : X) → drop k xs ≡ x ∷ ys
    → (k < length xs) × (drop (suc k) xs ≡ ys) × (take (suc k) xs ≡ take k xs ++ x ∷ [])
next_at [] ys zero x e = absurd (cc)
next_at [] ys (suc k) x e = absurd (cc)
next_at (z ∷ xs) ys zero x e =
    let head : z ≡ x = cc in
    let tail : xs ≡ ys = cc in
    (omega arith, tail, ap (λ y. y ∷ []) head)
next_at (z ∷ xs) ys (suc k) x e =
    let r : (k < length xs) × (drop (suc k) xs ≡ ys) × (take (suc k) xs ≡ take k xs ++ x ∷ [])
    = next_at xs ys k x e in
    (omega (arith, r.0), r.1, ap (λ l. z ∷ l) r.2)

-- a list that goes on with x at index k
pub next_item : {X : Type 0} (xs ys : List X) (k : ℕ) (x : X) → drop k xs ≡ x ∷ ys
    → (k < length xs) × (drop (k + 1) xs ≡ ys) × (take (k + 1) xs ≡ take k xs ++ x ∷ [])
next_item xs ys k x e = rw add-one (next_at xs ys k x e)

pub copied_next : (xs ys : List (List ℕ)) (k : ℕ) (x before output : List ℕ)
    → drop k xs ≡ x ∷ ys → output ≡ before ++ concat (take k xs)
    → output ++ x ≡ before ++ concat (take (k + 1) xs)
copied_next xs ys k x before output e inv =
    let r : (k < length xs) × (drop (k + 1) xs ≡ ys) × (take (k + 1) xs ≡ take k xs ++ x ∷ [])
    = next_item xs ys k x e in
    ap (λ o. o ++ x) inv
    ∙ append_assoc before (concat (take k xs)) x
    ∙ ap (λ o. before ++ o)
    (ap (λ o. concat (take k xs) ++ o) (sym (append-nil x))
    ∙ sym (concat-append (take k xs) (x ∷ []))
    ∙ ap concat (sym r.2))

applying_same : (s t : Applying) → s.part ≡ t.part → s.rest ≡ t.rest → s.position ≡ t.position
    → s.output ≡ t.output → s.left ≡ t.left → s.right ≡ t.right → s ≡ t
applying_same s t a b c d e f =
    let made : PatchPart → List (List ℕ) → ℕ → List ℕ → ℕ → ℕ → Applying
    = λ part rest position output left right. record {
      part = part;
      rest = rest;
      position = position;
      output = output;
      left = left;
      right = right;
    } in
    ap (λ x. made x s.rest s.position s.output s.left s.right) a
    ∙ ap (λ x. made t.part x s.position s.output s.left s.right) b
    ∙ ap (λ x. made t.part t.rest x s.output s.left s.right) c
    ∙ ap (λ x. made t.part t.rest t.position x s.left s.right) d
    ∙ ap (λ x. made t.part t.rest t.position t.output x s.right) e
    ∙ ap (λ x. made t.part t.rest t.position t.output t.left x) f

pub copied_some : (s t : Applying) (n : ℕ) → n ≤ length s.rest → t.part ≡ s.part
    → t.rest ≡ drop n s.rest → t.position ≡ s.position + n
    → t.output ≡ s.output ++ concat (take n s.rest) → t.left ≡ s.left → t.right ≡ s.right
    → copied n s ≡ Some t
copied_some s t n le part rest position output left right =
    let u : Applying = record {
      part = s.part;
      rest = drop n s.rest;
      position = s.position + n;
      output = s.output ++ concat (take n s.rest);
      left = s.left;
      right = s.right;
    } in
    let same : u ≡ t
    = applying_same u t (sym part) (sym rest) (sym position) (sym output) (sym left) (sym right) in
    cond_false (nat_lt (length s.rest) n) None (Some u) (le-ltb (length s.rest) n le)
    ∙ ap (λ v. Some v) same

pub copied_none : (s : Applying) (n : ℕ) → length s.rest < n → copied n s ≡ None
copied_none s n lt =
    cond_true (nat_lt (length s.rest) n) None
    (Some (record {
      part = s.part;
      rest = drop n s.rest;
      position = s.position + n;
      output = s.output ++ concat (take n s.rest);
      left = s.left;
      right = s.right;
    })) (lt-ltb (length s.rest) n lt)

pub dropped_all : {X : Type 0} (xs : List X) (k : ℕ) → drop k xs ≡ [] → length xs ≤ k
dropped_all [] k e = omega arith
dropped_all (x ∷ xs) zero e = absurd (cc)
dropped_all (x ∷ xs) (suc k) e = omega (arith, dropped_all xs k e)

-- ---- lines of hunks

pub hunk_line_empty : (s : Applying) (line : List ℕ) → length line ≡ 0
    → with_hunk_line s line ≡ Err HunkLine
hunk_line_empty s [] e = refl
hunk_line_empty s (b ∷ bs) e = absurd (omega arith)

pub hunk_line_context : (s : Applying) (line : List ℕ) → 0 < length line → get_or line 0 0 ≡ 32
    → with_hunk_line s line ≡ then_right (drop 1 line) (with_left s (drop 1 line))
hunk_line_context s [] lt e = absurd (omega arith)
hunk_line_context s (b ∷ bs) lt e =
    cond_true (b == 32) (then_right bs (with_left s bs))
    (cond (b == 45) (with_left s bs) (cond (b == 43) (with_right s bs) (Err HunkLine)))
    (eq-eqb b 32 e)

pub hunk_line_removed : (s : Applying) (line : List ℕ) → 0 < length line → get_or line 0 0 ≡ 45
    → with_hunk_line s line ≡ with_left s (drop 1 line)
hunk_line_removed s [] lt e = absurd (omega arith)
hunk_line_removed s (b ∷ bs) lt e =
    cond_false (b == 32) (then_right bs (with_left s bs))
    (cond (b == 45) (with_left s bs) (cond (b == 43) (with_right s bs) (Err HunkLine)))
    (ne_eqb b 32 (λ f. absurd (omega (arith, e, f))))
    ∙ cond_true (b == 45) (with_left s bs) (cond (b == 43) (with_right s bs) (Err HunkLine))
    (eq-eqb b 45 e)

pub hunk_line_added : (s : Applying) (line : List ℕ) → 0 < length line → get_or line 0 0 ≡ 43
    → with_hunk_line s line ≡ with_right s (drop 1 line)
hunk_line_added s [] lt e = absurd (omega arith)
hunk_line_added s (b ∷ bs) lt e =
    cond_false (b == 32) (then_right bs (with_left s bs))
    (cond (b == 45) (with_left s bs) (cond (b == 43) (with_right s bs) (Err HunkLine)))
    (ne_eqb b 32 (λ f. absurd (omega (arith, e, f))))
    ∙ cond_false (b == 45) (with_left s bs) (cond (b == 43) (with_right s bs) (Err HunkLine))
    (ne_eqb b 45 (λ f. absurd (omega (arith, e, f))))
    ∙ cond_true (b == 43) (with_right s bs) (Err HunkLine) (eq-eqb b 43 e)

pub hunk_line_other : (s : Applying) (line : List ℕ) → 0 < length line
    → (get_or line 0 0 ≡ 32 → ⊥) → (get_or line 0 0 ≡ 45 → ⊥) → (get_or line 0 0 ≡ 43 → ⊥)
    → with_hunk_line s line ≡ Err HunkLine
hunk_line_other s [] lt e f g = absurd (omega arith)
hunk_line_other s (b ∷ bs) lt e f g =
    cond_false (b == 32) (then_right bs (with_left s bs))
    (cond (b == 45) (with_left s bs) (cond (b == 43) (with_right s bs) (Err HunkLine)))
    (ne_eqb b 32 e)
    ∙ cond_false (b == 45) (with_left s bs) (cond (b == 43) (with_right s bs) (Err HunkLine))
    (ne_eqb b 45 f)
    ∙ cond_false (b == 43) (with_right s bs) (Err HunkLine) (ne_eqb b 43 g)

pub ruleset hunk_line_steps = (hunk_line_empty, hunk_line_context, hunk_line_removed, hunk_line_added, hunk_line_other)

-- ---- lines of patches

abbrev pub first_is_note : List (List ℕ) → Bool
first_is_note [] = false
first_is_note (y ∷ ys) = is_note y

note_before : (b : ℕ) (ls : List (List ℕ)) → first_is_note (prepended b ls) ≡ is_note (b ∷ [])
note_before b [] = refl
note_before b (l ∷ ls) = refl

pub note_at_first : (text : List ℕ) → first_is_note (split_lines text) ≡ is_note text
note_at_first [] = refl
note_at_first (b ∷ bs) =
    elim (cases_eq b 10) [
      | inl e ↦ ap first_is_note (split-newline b bs e)
      | inr n ↦ ap first_is_note (split-other b bs n) ∙ note_before b (split_lines bs)
    ]

pub plain_lines : (n : ℕ) (x : List ℕ) (ls : List (List ℕ)) → first_is_note ls ≡ false
    → patch_lines n (x ∷ ls) ≡ (n, x) ∷ patch_lines (n + 1) ls
plain_lines n x [] e = refl
plain_lines n x (y ∷ ls) e =
    cond_false (is_note y) ((n, take (length x - 1) x) ∷ patch_lines (n + 2) ls)
    ((n, x) ∷ patch_lines (n + 1) (y ∷ ls)) e

pub patch_plain : (text line rest : List ℕ) → split_lines text ≡ line ∷ split_lines rest
    → is_note rest ≡ false → (n : ℕ)
    → patch_lines n (split_lines text) ≡ (n, line) ∷ patch_lines (n + 1) (split_lines rest)
patch_plain text line rest e f n =
    ap (patch_lines n) e ∙ plain_lines n line (split_lines rest) (note_at_first rest ∙ f)

pub patch_noted : (text line rest note after : List ℕ)
    → split_lines text ≡ line ∷ split_lines rest → split_lines rest ≡ note ∷ split_lines after
    → is_note rest ≡ true → (n : ℕ)
    → patch_lines n (split_lines text)
    ≡ (n, take (length line - 1) line) ∷ patch_lines (n + 2) (split_lines after)
patch_noted text line rest note after e f t n =
    ap (patch_lines n) e ∙ ap (λ ls. patch_lines n (line ∷ ls)) f
    ∙ cond_true (is_note note)
    ((n, take (length line - 1) line) ∷ patch_lines (n + 2) (split_lines after))
    ((n, line) ∷ patch_lines (n + 1) (note ∷ split_lines after))
    (ap first_is_note (sym f) ∙ note_at_first rest ∙ t)

pub noted_nonempty : (rest : List ℕ) → is_note rest ≡ true → 0 < length rest
noted_nonempty [] t = absurd (cc)
noted_nonempty (b ∷ bs) t = omega arith

pub ruleset patch_line_steps = (patch_plain, patch_noted, noted_nonempty)

-- ---- a run

pub run_next : (s t : Applying) (n m : ℕ) (line : List ℕ) (text after : List ℕ)
    (total : Result Applying PatchFault)
    → patch_lines n (split_lines text) ≡ (n, line) ∷ patch_lines m (split_lines after)
    → Ok t ≡ with_line s line
    → fold run_line (Ok s) (patch_lines n (split_lines text)) ≡ total
    → fold run_line (Ok t) (patch_lines m (split_lines after)) ≡ total
run_next s t n m line text after total e f inv =
    ap (λ r. fold run_line (after_line n r) (patch_lines m (split_lines after))) f
    ∙ sym (ap (fold run_line (Ok s)) e) ∙ inv

pub run_fault : (s : Applying) (x : ExpectedInPatch) (n m : ℕ) (line : List ℕ)
    (text after : List ℕ) (total : Result Applying PatchFault)
    → patch_lines n (split_lines text) ≡ (n, line) ∷ patch_lines m (split_lines after)
    → Err x ≡ with_line s line
    → fold run_line (Ok s) (patch_lines n (split_lines text)) ≡ total
    → total ≡ Err (fault n x)
run_fault s x n m line text after total e f inv =
    sym inv ∙ ap (fold run_line (Ok s)) e
    ∙ ap (λ r. fold run_line (after_line n r) (patch_lines m (split_lines after))) (sym f)
    ∙ fold_stays run_line (Err (fault n x)) (λ p. refl) (patch_lines m (split_lines after))

pub run_end : (s : Applying) (n : ℕ) (text : List ℕ) (total : Result Applying PatchFault)
    → length text ≡ 0 → fold run_line (Ok s) (patch_lines n (split_lines text)) ≡ total
    → total ≡ Ok s
run_end s n text total e inv =
    sym inv ∙ ap (λ ls. fold run_line (Ok s) (patch_lines n ls)) (split_empty text e)

pub ruleset run_steps = (run_next, run_fault, run_end, split_empty)

pub applied_whole : (left patch : List ℕ) (s : Applying) (n : ℕ) (rest : List ℕ)
    → run (start left) (patch_lines 1 (split_lines patch)) ≡ Ok s
    → n ≡ length (split_lines patch) + 1 → missing n s ≡ None → s.rest ≡ split_lines rest
    → applied left patch ≡ Ok (s.output ++ rest)
applied_whole left patch s n rest r e none f =
    ap (finished (length (split_lines patch) + 1)) r
    ∙ ap (λ k. finished_unless (missing k s) k s) (sym e)
    ∙ ap (λ o. finished_unless o n s) none
    ∙ ap (λ ls. Ok (s.output ++ concat ls)) f
    ∙ ap (λ b. Ok (s.output ++ b)) (concat-split rest)
