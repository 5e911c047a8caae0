-- A diff that is applied to the left side yields the right side.
use Rattle.std.proofs.Common.{◌≡◌, ℕ, ◌+◌, ◌-◌, ◌^◌, ◌<◌, ◌≤◌, true, false, cond, ◌||◌, ◌==◌, nat_lt, List, [], ◌∷◌, ◌++◌, length, drop, fold, Ok, Err, codes, refl, sym, ap, ◌∙◌, subst, arith, le-ltb, ne_eqb, true≢false, append_assoc, append-nil, inl, inr}
use Rattle.std.proofs.lemmas.Bool.{cases_Bool, cases_eq, and_parts}
use Rattle.std.proofs.lemmas.List.{length-drop, length-take-le, drop-drop}
use Rattle.std.proofs.lemmas.List.Folds.{concat-append, drop_split}
use Rattle.std.proofs.lemmas.List.Elements.{All-nil, All-cons}
use Rattle.std.specs.Prelude.{All}
use Rattle.std.specs.List.{concat, slice_range, list_any}
use Rattle.std.specs.Char.{is_ascii_digit}
use Rattle.std.specs.Fmt.{decimal}
use Rattle.std.specs.Str.{all_ascii_digits}
use Rattle.std.proofs.lemmas.Fmt.{digits_decimal}
use Rattle.jj_diff_presentation.specs.Lines.{split_lines, prepended}
use Rattle.jj_diff_presentation.specs.Scripts.{left_lines, right_lines}
use Rattle.jj_diff_presentation.specs.Hunks.{IsHunkAfter, IsPatchFrom, IsPatch, HasRanges}
use Rattle.jj_diff_presentation.specs.PatchText.{range_text, header_text, lines_text, hunks_text, names_text, diff_text}
use Rattle.jj_diff_presentation.specs.Applying.{Applying, Header, copied, in_hunk, with_header, with_line, patch_lines, run_line, start, applied, finished}
use Rattle.jj_diff_presentation.specs.declared.unified.hunks.UnifiedDiffHunk.{UnifiedDiffHunk}
use Rattle.jj_diff_presentation.specs.declared.unified.patch.ExpectedInPatch.TheVariants.{LaterHunk}
use Rattle.jj_diff_presentation.specs.declared.unified.patch.PatchPart.TheVariants.{Names}
use Rattle.jj_diff_presentation.proofs.Booleans.{cond_true, cond_false}
use Rattle.jj_diff_presentation.specs.Names.{side_name, tab_after, name_line}
use Rattle.jj_diff_presentation.proofs.Names.{NoNewline, no_newline_both, name, no_newline_name}
use Rattle.jj_diff_presentation.proofs.LineLaws.{split-line, split-newline, split-other, split_empty, terminated-push, concat-split}
use Rattle.jj_diff_presentation.proofs.Applying.{copied_some}
use Rattle.jj_diff_presentation.proofs.Headers.{header_read, own, first_of_range}
use Rattle.jj_diff_presentation.proofs.Reading.{IsLine, Each, each_line, each_drop, each_take, are_lines, Reads, NoNote, reads_both, reads_none, reads_along, reads_line, reads_lines, at, at_same, no_note_lines}

-- ---- no LF within a line

reads_whole : (x : List ℕ) (s t : Applying) → NoNewline x → with_line s (x ++ 10 ∷ []) ≡ Ok t
    → Reads (x ++ 10 ∷ []) s t
reads_whole x s t none step =
    reads_line (x ++ 10 ∷ []) s t (split-line x none) (terminated-push x) step

digit_not_newline : (d : ℕ) → is_ascii_digit d ≡ true → (d == 10) ≡ false
digit_not_newline d e = ne_eqb d 10 (λ f. true≢false (sym (ap is_ascii_digit (sym f) ∙ e)))

no_newline_digits : (ds : List ℕ) → all_ascii_digits ds ≡ true → NoNewline ds
no_newline_digits [] all = refl
no_newline_digits (d ∷ ds) all =
    let p : (is_ascii_digit d ≡ true) × (all_ascii_digits ds ≡ true)
    = and_parts (is_ascii_digit d) (all_ascii_digits ds) all in
    ap (λ c. c || list_any (λ b. b == 10) ds) (digit_not_newline d p.0) ∙ no_newline_digits ds p.1

no_newline_range : (start len : ℕ) → start + 1 < 2 ^ 64 → len < 2 ^ 64
    → NoNewline (range_text start len)
no_newline_range start len ls ll =
    let first : ℕ = first_of_range start len in
    let small : first < 2 ^ 64
    = elim (cases_Bool (len == 0)) [
      | inl t ↦ omega (arith, cond_true (len == 0) start (start + 1) t)
      | inr f ↦ omega (arith, cond_false (len == 0) start (start + 1) f)
    ] in
    no_newline_both (decimal first) (cond (len == 1) [] (44 ∷ decimal len))
    (no_newline_digits (decimal first) (digits_decimal own first small))
    (elim (cases_Bool (len == 1)) [
      | inl t ↦ ap (list_any (λ b. b == 10)) (cond_true (len == 1) [] (44 ∷ decimal len) t)
      | inr f ↦ ap (list_any (λ b. b == 10)) (cond_false (len == 1) [] (44 ∷ decimal len) f)
          ∙ no_newline_digits (decimal len) (digits_decimal own len ll)
    ])

-- ---- a hunk

-- the numbers of lines have at most 19 digits
pub record IsSmall (left right : List (List ℕ)) : Type 0 where
  pub left_small : length left + 1 < 10 ^ 19
  pub right_small : length right + 1 < 10 ^ 19

header_step : (left right : List (List ℕ)) (i j : ℕ) (o : List ℕ) (h : UnifiedDiffHunk)
    → IsSmall left right → IsHunkAfter left right i j h
    → with_line (at i (drop i left) o 0 0) (header_text h.left_line_range h.right_line_range)
    ≡ Ok (at h.left_line_range.start (drop h.left_line_range.start left)
    (o ++ concat (slice_range left i h.left_line_range.start))
    (h.left_line_range.end - h.left_line_range.start)
    (h.right_line_range.end - h.right_line_range.start))
header_step left right i j o h small p =
    let s : Applying = at i (drop i left) o 0 0 in
    let first : ℕ = h.left_line_range.start in
    let n : ℕ = first - i in
    let found : Header = record {
      before = first;
      left = h.left_line_range.end - first;
      right = h.right_line_range.end - h.right_line_range.start;
    } in
    let t : Applying = at first (drop first left) (o ++ concat (slice_range left i first)) 0 0 in
    let le : i ≤ first = p.left_start in
    let far : first ≤ length left = omega (arith, p.left_end, p.left_within) in
    let sum : i + n ≡ first = omega arith in
    ap (with_header s) (header_read h.left_line_range h.right_line_range
    (omega (arith, far, small.left_small)) (omega (arith, p.left_within, small.left_small))
    (omega (arith, p.right_end, p.right_within, small.right_small))
    (omega (arith, p.right_within, small.right_small)))
    ∙ cond_false (nat_lt first i) (Err LaterHunk) (in_hunk found (copied n s)) (le-ltb first i le)
    ∙ ap (in_hunk found)
    (copied_some s t n (omega (arith, length-drop i left, far)) refl
    (sym (drop-drop n i left ∙ ap (λ k. drop k left) sum)) (sym sum) refl refl refl)

reads_header : (left right : List (List ℕ)) (i j : ℕ) (o : List ℕ) (h : UnifiedDiffHunk)
    → IsSmall left right → IsHunkAfter left right i j h
    → Reads (header_text h.left_line_range h.right_line_range) (at i (drop i left) o 0 0)
    (at h.left_line_range.start (drop h.left_line_range.start left)
    (o ++ concat (slice_range left i h.left_line_range.start))
    (h.left_line_range.end - h.left_line_range.start)
    (h.right_line_range.end - h.right_line_range.start))
reads_header left right i j o h small p =
    let ll : ℕ = h.left_line_range.end - h.left_line_range.start in
    let rl : ℕ = h.right_line_range.end - h.right_line_range.start in
    let a : List ℕ = range_text h.left_line_range.start ll in
    let b : List ℕ = range_text h.right_line_range.start rl in
    let front : List ℕ = codes "@@ -" ++ a ++ codes " +" ++ b in
    let s : Applying = at i (drop i left) o 0 0 in
    let t : Applying = at h.left_line_range.start (drop h.left_line_range.start left)
    (o ++ concat (slice_range left i h.left_line_range.start)) ll rl in
    let whole : (front ++ codes " @@") ++ 10 ∷ []
    ≡ header_text h.left_line_range h.right_line_range
    = append_assoc front (codes " @@") (10 ∷ []) in
    let none : NoNewline (front ++ codes " @@")
    = no_newline_both front (codes " @@")
    (no_newline_both (codes "@@ -" ++ a ++ codes " +") b
    (no_newline_both (codes "@@ -" ++ a) (codes " +")
    (no_newline_both (codes "@@ -") a refl
    (no_newline_range h.left_line_range.start ll
    (omega (arith, p.left_end, p.left_within, small.left_small))
    (omega (arith, p.left_within, small.left_small)))) refl)
    (no_newline_range h.right_line_range.start rl
    (omega (arith, p.right_end, p.right_within, small.right_small))
    (omega (arith, p.right_within, small.right_small)))) refl in
    subst (λ x. Reads x s t) whole
    (reads_whole (front ++ codes " @@") s t none
    (ap (with_line s) whole ∙ header_step left right i j o h small p))

length-slice : (side : List (List ℕ)) (start end : ℕ) → start ≤ end → end ≤ length side
    → length (slice_range side start end) ≡ end - start
length-slice side start end le within =
    length-take-le (end - start) (drop start side) (omega (arith, length-drop start side))

reads_hunk : (left right : List (List ℕ)) (i j : ℕ) (o : List ℕ) (h : UnifiedDiffHunk)
    → Each IsLine left → Each IsLine right → IsSmall left right → IsHunkAfter left right i j h
    → Reads (header_text h.left_line_range h.right_line_range ++ lines_text h.lines.items)
    (at i (drop i left) o 0 0)
    (at h.left_line_range.end (drop h.left_line_range.end left)
    ((o ++ concat (slice_range left i h.left_line_range.start))
    ++ concat (right_lines h.lines.items)) 0 0)
reads_hunk left right i j o h each_left each_right small p =
    let first : ℕ = h.left_line_range.start in
    let end : ℕ = h.left_line_range.end in
    let rest : List (List ℕ) = drop end left in
    let output : List ℕ = o ++ concat (slice_range left i first) in
    let ls : List (List ℕ) = left_lines h.lines.items in
    let rs : List (List ℕ) = right_lines h.lines.items in
    let left_len : length ls ≡ end - first
    = ap length p.left_lines ∙ length-slice left first end p.left_end p.left_within in
    let right_len : length rs ≡ h.right_line_range.end - h.right_line_range.start
    = ap length p.right_lines ∙ length-slice right h.right_line_range.start h.right_line_range.end
    p.right_end p.right_within in
    let split : ls ++ rest ≡ drop first left
    = ap (λ x. x ++ rest) p.left_lines ∙ sym (drop_split left first end p.left_end) in
    reads_both (header_text h.left_line_range h.right_line_range) (lines_text h.lines.items)
    (at i (drop i left) o 0 0)
    (at first (drop first left) output (end - first)
    (h.right_line_range.end - h.right_line_range.start))
    (at end rest (output ++ concat rs) 0 0) (no_note_lines h.lines.items)
    (reads_header left right i j o h small p)
    (reads_along (lines_text h.lines.items) (at first (ls ++ rest) output (length ls) (length rs))
    (at first (drop first left) output (end - first)
    (h.right_line_range.end - h.right_line_range.start))
    (at (first + length ls) rest (output ++ concat rs) 0 0)
    (at end rest (output ++ concat rs) 0 0)
    (at_same first first (ls ++ rest) (drop first left) output output (length ls) (length rs)
    (end - first) (h.right_line_range.end - h.right_line_range.start) refl split refl left_len
    right_len)
    (at_same (first + length ls) end rest rest (output ++ concat rs) (output ++ concat rs) 0 0 0 0
    (omega (arith, left_len, p.left_end)) refl refl refl refl)
    (reads_lines h.lines.items first rest output
    (are_lines h.lines.items
    (subst (Each IsLine) (sym p.left_lines)
    (each_take IsLine (end - first) (drop first left) (each_drop IsLine first left each_left)))
    (subst (Each IsLine) (sym p.right_lines)
    (each_take IsLine (h.right_line_range.end - h.right_line_range.start)
    (drop h.right_line_range.start right)
    (each_drop IsLine h.right_line_range.start right each_right))))))

-- ---- all hunks

-- a state after these lines at which a patch may end, and the output
pub record Finishes (text : List ℕ) (s : Applying) (bytes : List ℕ) : Type 0 where
  pub position : ℕ
  pub rest : List (List ℕ)
  pub output : List ℕ
  pub reads : Reads text s (at position rest output 0 0)
  pub whole : output ++ concat rest ≡ bytes

no_note_hunks : (hunks : List UnifiedDiffHunk) → NoNote (hunks_text hunks)
no_note_hunks [] rest e = e
no_note_hunks (h ∷ hunks) rest e = refl

pub reads_hunks : (left right : List (List ℕ)) (i j : ℕ) (o : List ℕ)
    (hunks : List UnifiedDiffHunk) → Each IsLine left → Each IsLine right → IsSmall left right
    → IsPatchFrom left right i j hunks
    → Finishes (hunks_text hunks) (at i (drop i left) o 0 0) (o ++ concat (drop j right))
reads_hunks left right i j o [] each_left each_right small p = record {
  position = i;
  rest = drop i left;
  output = o;
  reads = reads_none (at i (drop i left) o 0 0) (at i (drop i left) o 0 0) refl;
  whole = ap (λ x. o ++ concat x) p;
}
reads_hunks left right i j o (h ∷ hunks) each_left each_right small p =
    let hunk : IsHunkAfter left right i j h = p.0 in
    let first : ℕ = h.right_line_range.start in
    let end : ℕ = h.right_line_range.end in
    let gap : List (List ℕ) = slice_range left i h.left_line_range.start in
    let rs : List (List ℕ) = right_lines h.lines.items in
    let output : List ℕ = (o ++ concat gap) ++ concat rs in
    let more : Finishes (hunks_text hunks)
    (at h.left_line_range.end (drop h.left_line_range.end left) output 0 0)
    (output ++ concat (drop end right))
    = reads_hunks left right h.left_line_range.end end output hunks each_left each_right small p.1
    in
    let after : drop first right ≡ rs ++ drop end right
    = drop_split right first end hunk.right_end
    ∙ ap (λ x. x ++ drop end right) (sym hunk.right_lines) in
    let before : drop j right ≡ gap ++ (rs ++ drop end right)
    = drop_split right j first hunk.right_start
    ∙ ap (λ x. x ++ drop first right) (sym hunk.equal)
    ∙ ap (λ x. gap ++ x) after in
    record {
      position = more.position;
      rest = more.rest;
      output = more.output;
      reads = reads_both
          (header_text h.left_line_range h.right_line_range ++ lines_text h.lines.items)
          (hunks_text hunks) (at i (drop i left) o 0 0)
          (at h.left_line_range.end (drop h.left_line_range.end left) output 0 0)
          (at more.position more.rest more.output 0 0) (no_note_hunks hunks)
          (reads_hunk left right i j o h each_left each_right small hunk) more.reads;
      whole = more.whole
          ∙ append_assoc (o ++ concat gap) (concat rs) (concat (drop end right))
          ∙ append_assoc o (concat gap) (concat rs ++ concat (drop end right))
          ∙ ap (λ x. o ++ (concat gap ++ x)) (sym (concat-append rs (drop end right)))
          ∙ ap (λ x. o ++ x) (sym (concat-append gap (rs ++ drop end right)))
          ∙ ap (λ x. o ++ concat x) (sym before);
    }

-- ---- the names

reads_name : (first side path : List ℕ) (s t : Applying) → NoNewline first → NoNewline side
    → with_line s ((first ++ name side path) ++ 10 ∷ []) ≡ Ok t
    → Reads (name_line first side path) s t
reads_name first side path s t plain plain_side step =
    subst (λ x. Reads x s t)
    (ap (λ x. x ++ 10 ∷ []) (sym (append_assoc first (side_name side path) (tab_after path))))
    (reads_whole (first ++ name side path) s t
    (no_newline_both first (name side path) plain (no_newline_name side path plain_side)) step)

reads_names : (path left : List ℕ)
    → Reads (names_text path) (start left) (at 0 (split_lines left) [] 0 0)
reads_names path left =
    let named : Applying = record {
      part = Names;
      rest = split_lines left;
      position = 0;
      output = [];
      left = 0;
      right = 0;
    } in
    reads_both (name_line (codes "--- ") (codes "a/") path)
    (name_line (codes "+++ ") (codes "b/") path) (start left) named
    (at 0 (split_lines left) [] 0 0) (λ rest e. refl)
    (reads_name (codes "--- ") (codes "a/") path (start left) named refl refl refl)
    (reads_name (codes "+++ ") (codes "b/") path named (at 0 (split_lines left) [] 0 0) refl refl
    refl)

-- ---- the law

finished_text : (left text : List ℕ) (p : ℕ) (rest : List (List ℕ)) (o : List ℕ)
    → Reads text (start left) (at p rest o 0 0) → applied left text ≡ Ok (o ++ concat rest)
finished_text left text p rest o r =
    ap (finished (length (split_lines text) + 1))
    (ap (λ x. fold run_line (Ok (start left)) (patch_lines 1 (split_lines x)))
    (sym (append-nil text)) ∙ r.run 1 [] refl)

pub round_trip : (path left right : List ℕ) (hunks : List UnifiedDiffHunk)
    → IsSmall (split_lines left) (split_lines right)
    → IsPatch (split_lines left) (split_lines right) hunks
    → applied left (diff_text path hunks) ≡ Ok right
round_trip path left right [] small p =
    ap (λ x. Ok (concat x)) p ∙ ap (λ x. Ok x) (concat-split right)
round_trip path left right (h ∷ hunks) small p =
    let s : Applying = at 0 (split_lines left) [] 0 0 in
    let end : Finishes (hunks_text (h ∷ hunks)) s (concat (split_lines right))
    = reads_hunks (split_lines left) (split_lines right) 0 0 [] (h ∷ hunks) (each_line left)
    (each_line right) small p in
    finished_text left (names_text path ++ hunks_text (h ∷ hunks)) end.position end.rest end.output
    (reads_both (names_text path) (hunks_text (h ∷ hunks)) (start left) s
    (at end.position end.rest end.output 0 0) (no_note_hunks (h ∷ hunks))
    (reads_names path left) end.reads)
    ∙ ap (λ x. Ok x) (end.whole ∙ concat-split right)

-- ---- what the code needs of a patch

-- one line more, or as many as before
prepended_bounded : (b : ℕ) (ls : List (List ℕ)) → length (prepended b ls) ≤ 1 + (length ls - 1)
prepended_bounded b [] = omega arith
prepended_bounded b (l ∷ ls) = omega arith

empty_lines : (x : List ℕ) → length x ≡ 0 → length (split_lines x) ≡ 0
empty_lines x e = ap length (split_empty x e)

lines_bounded : (x : List ℕ) → length (split_lines x) ≤ length x
lines_bounded [] = omega arith
lines_bounded (b ∷ bs) =
    elim (cases_eq b 10) [
      | inl e ↦ omega (arith, ap length (split-newline b bs e), lines_bounded bs)
      | inr n ↦ omega (
        arith,
        ap length (split-other b bs n),
        prepended_bounded b (split_lines bs),
        lines_bounded bs,
        empty_lines bs,
      )
    ]

pub small_lines : (left right : List ℕ) → length left + 1 < 10 ^ 19 → length right + 1 < 10 ^ 19
    → IsSmall (split_lines left) (split_lines right)
small_lines left right l r = record {
  left_small = omega (arith, lines_bounded left);
  right_small = omega (arith, lines_bounded right);
}

pub patch_ranges : (left right : List (List ℕ)) (i j : ℕ) (hunks : List UnifiedDiffHunk)
    → IsSmall left right → IsPatchFrom left right i j hunks → All HasRanges hunks
patch_ranges left right i j [] small p = All-nil HasRanges
patch_ranges left right i j (h ∷ hunks) small p =
    All-cons HasRanges h hunks
    (record {
      left_order = p.0.left_end;
      left_fits = omega (arith, p.0.left_end, p.0.left_within, small.left_small);
      right_order = p.0.right_end;
      right_fits = omega (arith, p.0.right_end, p.0.right_within, small.right_small);
    })
    (patch_ranges left right h.left_line_range.end h.right_line_range.end hunks small p.1)
