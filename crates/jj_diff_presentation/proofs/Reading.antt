-- Hunks of a patch as the application reads them.
use Rattle.std.proofs.Common.{◌≡◌, ℕ, zero, suc, ◌+◌, ◌-◌, ◌<◌, true, false, cond, ◌&&◌, ◌==◌, List, [], ◌∷◌, ◌++◌, length, take, drop, fold, Ok, Err, refl, sym, ap, ◌∙◌, subst, arith, eq-eqb, ne_eqb, append_assoc, append-nil, length-append, inl, inr}
use Rattle.std.proofs.lemmas.Bool.{cases_eq, cases_Bool}
use Rattle.std.proofs.lemmas.List.{take_at}
use Rattle.std.proofs.lemmas.List.Folds.{concat-append}
use Rattle.std.proofs.lemmas.Slice.Eq.{bytes_eq-Decides}
use Rattle.std.specs.List.{concat}
use Rattle.std.specs.Str.{bytes_eq}
use Rattle.jj_diff_presentation.specs.Lines.{split_lines, is_terminated, prepended}
use Rattle.jj_diff_presentation.specs.Scripts.{left_lines, right_lines, on_left, on_right}
use Rattle.jj_diff_presentation.specs.PatchText.{type_byte, note, line_text, lines_text}
use Rattle.jj_diff_presentation.specs.Applying.{Applying, is_note, patch_lines, run_line, after_line, with_line, with_left, with_right, then_right, with_hunk_line, with_header, header}
use Rattle.jj_diff_presentation.specs.declared.unified.patch.ExpectedInPatch.TheVariants.{HunkLine, LeftLine}
use Rattle.jj_diff_presentation.specs.declared.unified.patch.PatchPart.TheVariants.{Hunks}
use Rattle.jj_diff_presentation.specs.declared.unified.script.DiffLine.{DiffLine}
use Rattle.jj_diff_presentation.specs.declared.unified.script.DiffLineType.{DiffLineType}
use Rattle.jj_diff_presentation.specs.declared.unified.script.DiffLineType.TheVariants.{Context, Removed, Added}
use Rattle.jj_diff_presentation.proofs.Booleans.{cond_true, cond_false}
use Rattle.jj_diff_presentation.proofs.LineLaws.{split-append, split-other, split-newline, split-nonempty, terminated-push}
use Rattle.jj_diff_presentation.proofs.Applying.{note_at_first, plain_lines}

-- ---- single lines

abbrev pub IsLine : List ℕ → Type 0
IsLine line = split_lines line ≡ line ∷ []

abbrev pub Each : {X : Type 0} → (X → Type 0) → List X → Type 0
Each P [] = Unit {0}
Each P (x ∷ xs) = P x × Each P xs

pub line_after : (k : ℕ) (line : List ℕ) → (k ≡ 10 → ⊥) → IsLine line → IsLine (k ∷ line)
line_after k line n e = split-other k line n ∙ ap (prepended k) e

each_prepended : (b : ℕ) (ls : List (List ℕ)) → (b ≡ 10 → ⊥) → Each IsLine ls
    → Each IsLine (prepended b ls)
each_prepended b [] n all = (split-other b [] n, tt)
each_prepended b (l ∷ ls) n all = (line_after b l n all.0, all.1)

pub each_line : (x : List ℕ) → Each IsLine (split_lines x)
each_line [] = tt
each_line (b ∷ bs) =
    elim (cases_eq b 10) [
      | inl e ↦ subst (Each IsLine) (sym (split-newline b bs e))
          (split-newline b [] e, each_line bs)
      | inr n ↦ subst (Each IsLine) (sym (split-other b bs n))
          (each_prepended b (split_lines bs) n (each_line bs))
    ]

pub each_drop : {X : Type 0} (P : X → Type 0) (n : ℕ) (xs : List X) → Each P xs → Each P (drop n xs)
each_drop P zero xs all = all
each_drop P (suc n) [] all = tt
each_drop P (suc n) (x ∷ xs) all = each_drop P n xs all.1

pub each_take : {X : Type 0} (P : X → Type 0) (n : ℕ) (xs : List X) → Each P xs → Each P (take n xs)
each_take P zero xs all = tt
each_take P (suc n) [] all = tt
each_take P (suc n) (x ∷ xs) all = (all.0, each_take P n xs all.1)

abbrev pub AreLines : List DiffLine → Type 0
AreLines lines = Each (λ l. IsLine l.content.now) lines

one_of_lines : (k : DiffLineType) (line : List ℕ) (ls rs : List (List ℕ))
    → Each IsLine (on_left k (line ∷ []) ++ ls) → Each IsLine (on_right k (line ∷ []) ++ rs)
    → IsLine line × Each IsLine ls × Each IsLine rs
one_of_lines Context line ls rs p q = (p.0, p.1, q.1)
one_of_lines Removed line ls rs p q = (p.0, p.1, q)
one_of_lines Added line ls rs p q = (q.0, p, q.1)

pub are_lines : (lines : List DiffLine) → Each IsLine (left_lines lines)
    → Each IsLine (right_lines lines) → AreLines lines
are_lines [] ls rs = tt
are_lines (l ∷ lines) ls rs =
    let p : IsLine l.content.now × Each IsLine (left_lines lines) × Each IsLine (right_lines lines)
    = one_of_lines l.line_type l.content.now (left_lines lines) (right_lines lines) ls rs in
    (p.0, are_lines lines p.1 p.2)

-- ---- lines after an LF

abbrev pub ended : List (List ℕ) → List (List ℕ)
ended [] = []
ended (line ∷ []) = (line ++ 10 ∷ []) ∷ []
ended (line ∷ l ∷ lines) = line ∷ ended (l ∷ lines)

ended-cons : (line : List ℕ) (lines : List (List ℕ)) → 0 < length lines
    → line ∷ ended lines ≡ ended (line ∷ lines)
ended-cons line [] h = absurd (omega arith)
ended-cons line (l ∷ lines) h = refl

prepended-ended : (b : ℕ) (lines : List (List ℕ)) → 0 < length lines
    → prepended b (ended lines) ≡ ended (prepended b lines)
prepended-ended b [] h = absurd (omega arith)
prepended-ended b (line ∷ []) h = refl
prepended-ended b (line ∷ l ∷ lines) h = refl

split-end : (text : List ℕ) → is_terminated text ≡ false
    → split_lines (text ++ 10 ∷ []) ≡ ended (split_lines text)
split-end [] t = absurd (cc)
split-end (b ∷ []) t =
    elim (cases_eq b 10) [
      | inl e ↦ absurd (let f : true ≡ false = sym (eq-eqb b 10 e) ∙ t in cc)
      | inr n ↦ split-other b (10 ∷ []) n ∙ sym (ap ended (split-other b [] n))
    ]
split-end (b ∷ c ∷ bs) t =
    elim (cases_eq b 10) [
      | inl e ↦ split-newline b (c ∷ (bs ++ 10 ∷ [])) e
          ∙ ap (λ ls. (b ∷ []) ∷ ls) (split-end (c ∷ bs) t)
          ∙ ended-cons (b ∷ []) (split_lines (c ∷ bs)) (split-nonempty c bs)
          ∙ sym (ap ended (split-newline b (c ∷ bs) e))
      | inr n ↦ split-other b (c ∷ (bs ++ 10 ∷ [])) n
          ∙ ap (prepended b) (split-end (c ∷ bs) t)
          ∙ prepended-ended b (split_lines (c ∷ bs)) (split-nonempty c bs)
          ∙ sym (ap ended (split-other b (c ∷ bs) n))
    ]

-- ---- parts of a patch

-- after these whole lines, whatever follows but a note, the state s is t
pub record Reads (text : List ℕ) (s t : Applying) : Type 0 where
  pub number : ℕ → ℕ
  pub run : (n : ℕ) (rest : List ℕ) → is_note rest ≡ false
      → fold run_line (Ok s) (patch_lines n (split_lines (text ++ rest)))
      ≡ fold run_line (Ok t) (patch_lines (number n) (split_lines rest))

-- neither the string nor the rest after it begins with a note
abbrev pub NoNote : List ℕ → Type 0
NoNote text = (rest : List ℕ) → is_note rest ≡ false → is_note (text ++ rest) ≡ false

pub reads_both : (x y : List ℕ) (s t u : Applying) → NoNote y → Reads x s t → Reads y t u
    → Reads (x ++ y) s u
reads_both x y s t u q a b = record {
  number = λ n. b.number (a.number n);
  run = λ n rest e.
      ap (λ z. fold run_line (Ok s) (patch_lines n (split_lines z))) (append_assoc x y rest)
      ∙ a.run n (y ++ rest) (q rest e) ∙ b.run (a.number n) rest e;
}

pub reads_none : (s t : Applying) → s ≡ t → Reads [] s t
reads_none s t same = record {
  number = λ n. n;
  run = λ n rest e. ap (λ u. fold run_line (Ok u) (patch_lines n (split_lines rest))) same;
}

pub reads_along : (x : List ℕ) (s s' t t' : Applying) → s ≡ s' → t ≡ t' → Reads x s t
    → Reads x s' t'
reads_along x s s' t t' e f r = subst (λ u. Reads x s' u) f (subst (λ u. Reads x u t) e r)

pub reads_line : (x : List ℕ) (s t : Applying) → IsLine x → is_terminated x ≡ true
    → with_line s x ≡ Ok t → Reads x s t
reads_line x s t one end step = record {
  number = λ n. n + 1;
  run = λ n rest e.
      ap (λ ls. fold run_line (Ok s) (patch_lines n ls))
      (split-append x rest end ∙ ap (λ ls. ls ++ split_lines rest) one)
      ∙ ap (fold run_line (Ok s)) (plain_lines n x (split_lines rest) (note_at_first rest ∙ e))
      ∙ ap (λ r. fold run_line (after_line n r) (patch_lines (n + 1) (split_lines rest))) step;
}

reads_noted : (x : List ℕ) (s t : Applying) → IsLine x → is_terminated x ≡ false
    → with_line s x ≡ Ok t → Reads (x ++ 10 ∷ note) s t
reads_noted x s t one end step =
    let y : List ℕ = x ++ 10 ∷ [] in
    let split : split_lines y ≡ y ∷ [] = split-end x end ∙ ap ended one in
    let short : take (length y - 1) y ≡ x
    = take_at x (10 ∷ []) (length y - 1) (omega (arith, length-append x (10 ∷ []))) in
    record {
      number = λ n. n + 2;
      run = λ n rest e.
          let ls : List (List ℕ) = split_lines rest in
          ap (λ z. fold run_line (Ok s) (patch_lines n (split_lines z)))
          (append_assoc x (10 ∷ note) rest ∙ sym (append_assoc x (10 ∷ []) (note ++ rest)))
          ∙ ap (λ l. fold run_line (Ok s) (patch_lines n l))
          (split-append y (note ++ rest) (terminated-push x)
          ∙ ap (λ l. l ++ split_lines (note ++ rest)) split
          ∙ ap (λ l. y ∷ l) (split-append note rest refl))
          ∙ ap (λ z. fold run_line (Ok s) ((n, z) ∷ patch_lines (n + 2) ls)) short
          ∙ ap (λ r. fold run_line (after_line n r) (patch_lines (n + 2) ls)) step;
    }

-- ---- lines of hunks

no_newline : (k : DiffLineType) → type_byte k ≡ 10 → ⊥
no_newline Context e = omega (arith, e)
no_newline Removed e = omega (arith, e)
no_newline Added e = omega (arith, e)

no_note : (k : DiffLineType) (text : List ℕ) → NoNote (type_byte k ∷ text)
no_note Context text rest e = refl
no_note Removed text rest e = refl
no_note Added text rest e = refl

terminated_after : (b : ℕ) (line : List ℕ) → IsLine line
    → is_terminated (b ∷ line) ≡ is_terminated line
terminated_after b [] one = absurd (cc)
terminated_after b (c ∷ line) one = refl

reads_text : (k : DiffLineType) (line : List ℕ) (s t : Applying) → IsLine line
    → with_line s (type_byte k ∷ line) ≡ Ok t → Reads (line_text k line) s t
reads_text k line s t one step =
    let whole : IsLine (type_byte k ∷ line) = line_after (type_byte k) line (no_newline k) one in
    elim (cases_Bool (is_terminated line)) [
      | inl e ↦ subst (λ c. Reads (type_byte k ∷ c) s t)
          (sym (cond_true (is_terminated line) line (line ++ 10 ∷ note) e))
          (reads_line (type_byte k ∷ line) s t whole
          (terminated_after (type_byte k) line one ∙ e) step)
      | inr f ↦ subst (λ c. Reads (type_byte k ∷ c) s t)
          (sym (cond_false (is_terminated line) line (line ++ 10 ∷ note) f))
          (reads_noted (type_byte k ∷ line) s t whole
          (terminated_after (type_byte k) line one ∙ f) step)
    ]

-- a state in hunks
abbrev pub at : ℕ → List (List ℕ) → List ℕ → ℕ → ℕ → Applying
at position rest output left right = record {
  part = Hunks;
  rest = rest;
  position = position;
  output = output;
  left = left;
  right = right;
}

pub at_same : (p q : ℕ) (rest more : List (List ℕ)) (o u : List ℕ) (a b c d : ℕ) → p ≡ q
    → rest ≡ more → o ≡ u → a ≡ c → b ≡ d → at p rest o a b ≡ at q more u c d
at_same p q rest more o u a b c d e f g h i =
    ap (λ x. at x rest o a b) e ∙ ap (λ x. at q x o a b) f ∙ ap (λ x. at q more x a b) g
    ∙ ap (λ x. at q more u x b) h ∙ ap (λ x. at q more u c x) i

not_done : (a b : ℕ) → 0 < a + b → ((a == 0) && (b == 0)) ≡ false
not_done zero b lt = ne_eqb b 0 (λ e. omega (arith, e, lt))
not_done (suc a) b lt = ap (λ v. v && (b == 0)) (ne_eqb (suc a) 0 (λ e. omega (arith, e)))

in_hunk_line : (p : ℕ) (rest : List (List ℕ)) (o : List ℕ) (a b : ℕ) (line : List ℕ) → 0 < a + b
    → with_line (at p rest o a b) line ≡ with_hunk_line (at p rest o a b) line
in_hunk_line p rest o a b line lt =
    cond_false ((a == 0) && (b == 0)) (with_header (at p rest o a b) (header line))
    (with_hunk_line (at p rest o a b) line) (not_done a b lt)

left_step : (p : ℕ) (line : List ℕ) (rest : List (List ℕ)) (o : List ℕ) (a b c : ℕ) → a ≡ c + 1
    → with_left (at p (line ∷ rest) o a b) line ≡ Ok (at (p + 1) rest o c b)
left_step p line rest o a b c e =
    cond_false (a == 0) (Err HunkLine)
    (cond (bytes_eq line line) (Ok (at (p + 1) rest o (a - 1) b)) (Err LeftLine))
    (ne_eqb a 0 (λ f. omega (arith, e, f)))
    ∙ cond_true (bytes_eq line line) (Ok (at (p + 1) rest o (a - 1) b)) (Err LeftLine)
    ((bytes_eq-Decides line line).1 refl)
    ∙ ap (λ n. Ok (at (p + 1) rest o n b)) (omega arith)

right_step : (p : ℕ) (line : List ℕ) (rest : List (List ℕ)) (o : List ℕ) (a b c : ℕ) → b ≡ c + 1
    → with_right (at p rest o a b) line ≡ Ok (at p rest (o ++ line) a c)
right_step p line rest o a b c e =
    cond_false (b == 0) (Err HunkLine) (Ok (at p rest (o ++ line) a (b - 1)))
    (ne_eqb b 0 (λ f. omega (arith, e, f)))
    ∙ ap (λ n. Ok (at p rest (o ++ line) a n)) (omega arith)

line_step : (k : DiffLineType) (line : List ℕ) (p : ℕ) (rest : List (List ℕ)) (o : List ℕ)
    (a b : ℕ)
    → with_line (at p (on_left k (line ∷ []) ++ rest) o (length (on_left k (line ∷ [])) + a)
    (length (on_right k (line ∷ [])) + b)) (type_byte k ∷ line)
    ≡ Ok (at (p + length (on_left k (line ∷ []))) rest (o ++ concat (on_right k (line ∷ []))) a b)
line_step Context line p rest o a b =
    in_hunk_line p (line ∷ rest) o (1 + a) (1 + b) (32 ∷ line) (omega arith)
    ∙ ap (then_right line) (left_step p line rest o (1 + a) (1 + b) a (omega arith))
    ∙ right_step (p + 1) line rest o a (1 + b) b (omega arith)
    ∙ ap (λ l. Ok (at (p + 1) rest (o ++ l) a b)) (sym (append-nil line))
line_step Removed line p rest o a b =
    in_hunk_line p (line ∷ rest) o (1 + a) (0 + b) (45 ∷ line) (omega arith)
    ∙ left_step p line rest o (1 + a) (0 + b) a (omega arith)
    ∙ ap (λ n. Ok (at (p + 1) rest o a n)) (omega arith)
    ∙ ap (λ l. Ok (at (p + 1) rest l a b)) (sym (append-nil o))
line_step Added line p rest o a b =
    in_hunk_line p rest o (0 + a) (1 + b) (43 ∷ line) (omega arith)
    ∙ right_step p line rest o (0 + a) (1 + b) b (omega arith)
    ∙ ap (λ n. Ok (at p rest (o ++ line) n b)) (omega arith)
    ∙ ap (λ n. Ok (at n rest (o ++ line) a b)) (omega arith)
    ∙ ap (λ l. Ok (at (p + 0) rest (o ++ l) a b)) (sym (append-nil line))

pub no_note_lines : (lines : List DiffLine) → NoNote (lines_text lines)
no_note_lines [] rest e = e
no_note_lines (l ∷ lines) rest e =
    no_note l.line_type
    (cond (is_terminated l.content.now) l.content.now (l.content.now ++ 10 ∷ note)
    ++ lines_text lines) rest e

pub reads_lines : (lines : List DiffLine) (p : ℕ) (rest : List (List ℕ)) (o : List ℕ)
    → AreLines lines
    → Reads (lines_text lines) (at p (left_lines lines ++ rest) o (length (left_lines lines))
    (length (right_lines lines)))
    (at (p + length (left_lines lines)) rest (o ++ concat (right_lines lines)) 0 0)
reads_lines [] p rest o all =
    reads_none (at p rest o 0 0) (at (p + 0) rest (o ++ []) 0 0)
    (at_same p (p + 0) rest rest o (o ++ []) 0 0 0 0 (omega arith) refl (sym (append-nil o)) refl
    refl)
reads_lines (l ∷ lines) p rest o all =
    let k : DiffLineType = l.line_type in
    let line : List ℕ = l.content.now in
    let ls : List (List ℕ) = on_left k (line ∷ []) in
    let rs : List (List ℕ) = on_right k (line ∷ []) in
    let a : ℕ = length (left_lines lines) in
    let b : ℕ = length (right_lines lines) in
    let before : Applying = at p (ls ++ (left_lines lines ++ rest)) o (length ls + a) (length rs + b)
    in
    let between : Applying
    = at (p + length ls) (left_lines lines ++ rest) (o ++ concat rs) a b in
    let after : Applying
    = at ((p + length ls) + a) rest ((o ++ concat rs) ++ concat (right_lines lines)) 0 0 in
    reads_along (line_text k line ++ lines_text lines) before
    (at p ((ls ++ left_lines lines) ++ rest) o (length (ls ++ left_lines lines))
    (length (rs ++ right_lines lines)))
    after
    (at (p + length (ls ++ left_lines lines)) rest (o ++ concat (rs ++ right_lines lines)) 0 0)
    (at_same p p (ls ++ (left_lines lines ++ rest)) ((ls ++ left_lines lines) ++ rest) o o
    (length ls + a) (length rs + b) (length (ls ++ left_lines lines))
    (length (rs ++ right_lines lines)) refl (sym (append_assoc ls (left_lines lines) rest)) refl
    (sym (length-append ls (left_lines lines))) (sym (length-append rs (right_lines lines))))
    (at_same ((p + length ls) + a) (p + length (ls ++ left_lines lines)) rest rest
    ((o ++ concat rs) ++ concat (right_lines lines)) (o ++ concat (rs ++ right_lines lines)) 0 0 0 0
    (omega (arith, length-append ls (left_lines lines))) refl
    (append_assoc o (concat rs) (concat (right_lines lines))
    ∙ ap (λ c. o ++ c) (sym (concat-append rs (right_lines lines)))) refl refl)
    (reads_both (line_text k line) (lines_text lines) before between after (no_note_lines lines)
    (reads_text k line before between all.0
    (line_step k line p (left_lines lines ++ rest) o a b))
    (reads_lines lines (p + length ls) rest (o ++ concat rs) all.1))
