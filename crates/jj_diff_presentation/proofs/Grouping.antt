-- The loop over the lines of a diff that makes hunks.
use Rattle.std.proofs.Common.{◌≡◌, ℕ, zero, suc, ◌+◌, ◌-◌, ◌<◌, ◌≤◌, min, true, List, [], ◌∷◌, ◌++◌, length, take, drop, refl, sym, ap, ◌∙◌, subst, inl, inr, arith, append_assoc, append-nil, length-append}
use Rattle.std.proofs.lemmas.Bool.{cases_Bool, cases_lt}
use Rattle.std.proofs.lemmas.List.{take_at, drop_at, take_all, take-append-drop, drop-drop, length-drop, length-take-le}
use Rattle.std.specs.List.{slice_range}
use Rattle.jj_diff_presentation.specs.Scripts.{left_lines, right_lines, is_context, on_left, on_right}
use Rattle.jj_diff_presentation.specs.Hunks.{leading_context, trailing_context, IsHunkAfter, IsPatchFrom, IsPatch, HasContextAfter, HasContextFrom, HasContext, IsHunkEnd}
use Rattle.jj_diff_presentation.specs.declared.unified.script.DiffLine.{DiffLine}
use Rattle.jj_diff_presentation.specs.declared.unified.script.DiffLineType.{DiffLineType}
use Rattle.jj_diff_presentation.specs.declared.unified.script.DiffLineType.TheVariants.{Context, Removed, Added}
use Rattle.jj_diff_presentation.specs.declared.unified.hunks.UnifiedDiffHunk.{UnifiedDiffHunk}
use Rattle.jj_diff_presentation.proofs.Booleans.{cond_true, cond_false}
use Rattle.jj_diff_presentation.proofs.Scripts.{left-append, right-append}
use Rattle.jj_diff_presentation.proofs.Runs.{leading_drop, leading_take}

-- ---- the lines of one side

-- lines before a hunk, of the hunk and after it, where a range starts at the second and ends at the
-- third
pub record IsCutAt (side gap lines rest : List (List ℕ)) (i start end : ℕ) : Type 0 where
  pub before : slice_range side i start ≡ gap
  pub within : slice_range side start end ≡ lines
  pub after : drop end side ≡ rest
  pub bounded : end ≤ length side

cut_at : (side gap lines rest : List (List ℕ)) (i start end : ℕ) → i ≤ length side
    → gap ++ (lines ++ rest) ≡ drop i side → start ≡ i + length gap → end ≡ start + length lines
    → IsCutAt side gap lines rest i start end
cut_at side gap lines rest i start end le e s t =
    let from_start : drop start side ≡ lines ++ rest
    = ap (λ n. drop n side) s ∙ sym (drop-drop (length gap) i side)
    ∙ ap (drop (length gap)) (sym e) ∙ drop_at gap (lines ++ rest) (length gap) refl in
    let before : start - i ≡ length gap = omega (arith, s) in
    let within : end - start ≡ length lines = omega (arith, t) in
    record {
      before = ap (λ n. take n (drop i side)) before ∙ ap (take (length gap)) (sym e)
          ∙ take_at gap (lines ++ rest) (length gap) refl;
      within = ap (λ n. take n (drop start side)) within ∙ ap (take (length lines)) from_start
          ∙ take_at lines rest (length lines) refl;
      after = ap (λ n. drop n side) t ∙ sym (drop-drop (length lines) start side)
          ∙ ap (drop (length lines)) from_start ∙ drop_at lines rest (length lines) refl;
      bounded = omega (
        arith,
        s,
        t,
        ap length e,
        length-append gap (lines ++ rest),
        length-append lines rest,
        length-drop i side,
      );
    }

-- ---- context lines are on both sides

context_type : (k : DiffLineType) (line : List ℕ)
    → is_context (record { line_type = k; content = record { ref_ptr = (0, 0); now = line } }) ≡ true
    → (on_left k (line ∷ []) ≡ line ∷ []) × (on_right k (line ∷ []) ≡ line ∷ [])
context_type Context line t = (refl, refl)
context_type Removed line t = absurd (cc)
context_type Added line t = absurd (cc)

-- the first n lines, all of them context
pub same_lines : (xs : List DiffLine) (n : ℕ) → n ≤ leading_context xs
    → (left_lines (take n xs) ≡ right_lines (take n xs)) × (length (left_lines (take n xs)) ≡ n)
same_lines xs zero le = (refl, refl)
same_lines [] (suc n) le = absurd (omega arith)
same_lines (x ∷ xs) (suc n) le =
    elim (cases_Bool (is_context x)) [
      | inl t ↦
          let one : leading_context (x ∷ xs) ≡ 1 + leading_context xs
          = cond_true (is_context x) (1 + leading_context xs) 0 t in
          let s : (left_lines (take n xs) ≡ right_lines (take n xs))
          × (length (left_lines (take n xs)) ≡ n)
          = same_lines xs n (omega (arith, one, le)) in
          let k : (on_left x.line_type (x.content.now ∷ []) ≡ x.content.now ∷ [])
          × (on_right x.line_type (x.content.now ∷ []) ≡ x.content.now ∷ [])
          = context_type x.line_type x.content.now t in (
            ap (λ l. l ++ left_lines (take n xs)) k.0 ∙ ap (λ l. x.content.now ∷ l) s.0
                ∙ sym (ap (λ l. l ++ right_lines (take n xs)) k.1),
            ap (λ l. length (l ++ left_lines (take n xs))) k.0 ∙ ap suc s.1,
          )
      | inr f ↦
          absurd (omega (arith, le, cond_false (is_context x) (1 + leading_context xs) 0 f))
    ]

-- ---- the invariant

-- the lines up to i and j are in the hunks or equal, and `rest` is left
pub record IsGrouped (left right : List (List ℕ)) (context i j : ℕ) (rest : List DiffLine)
    (hunks : List UnifiedDiffHunk) : Type 0 where
  pub left_rest : left_lines rest ≡ drop i left
  pub right_rest : right_lines rest ≡ drop j right
  pub left_within : i ≤ length left
  pub right_within : j ≤ length right
  pub patch : (more : List UnifiedDiffHunk) → IsPatchFrom left right i j more
      → IsPatch left right (hunks ++ more)
  pub least : ℕ
  pub trail : ℕ
  pub around : (more : List UnifiedDiffHunk)
      → HasContextFrom context (length left) least i trail more
      → HasContext context (length left) (hunks ++ more)
  pub least_fits : leading_context rest < length rest
      → least ≤ i + (leading_context rest - context)
  pub short : trail ≤ context
  pub full : 0 < length rest → trail ≡ context

pub grouped_first : (script : List DiffLine) (context : ℕ)
    → IsGrouped (left_lines script) (right_lines script) context 0 0 script []
grouped_first script context = record {
  left_rest = refl;
  right_rest = refl;
  left_within = omega arith;
  right_within = omega arith;
  patch = λ more h. h;
  least = 0;
  trail = context;
  around = λ more h. h;
  least_fits = λ lt. omega arith;
  short = omega arith;
  full = λ lt. refl;
}

-- no change is left
pub grouped_last : (left right : List (List ℕ)) (context i j : ℕ) (rest : List DiffLine)
    (hunks : List UnifiedDiffHunk) → IsGrouped left right context i j rest hunks
    → leading_context rest ≡ length rest
    → IsPatch left right hunks × HasContext context (length left) hunks
grouped_last left right context i j rest hunks g none =
    let s : (left_lines (take (length rest) rest) ≡ right_lines (take (length rest) rest))
    × (length (left_lines (take (length rest) rest)) ≡ length rest)
    = same_lines rest (length rest) (omega (arith, none)) in
    let whole : take (length rest) rest ≡ rest = take_all (length rest) rest (omega arith) in
    let same : drop i left ≡ drop j right
    = sym g.left_rest ∙ ap left_lines (sym whole) ∙ s.0 ∙ ap right_lines whole ∙ g.right_rest in
    let size : length rest ≡ length left - i
    = sym s.1 ∙ ap (λ ls. length (left_lines ls)) whole ∙ ap length g.left_rest
    ∙ length-drop i left in
    let end : g.trail ≡ min context (g.trail + (length left - i))
    = elim (cases_lt 0 (length rest)) [
      | inl some ↦ omega (arith, g.full some)
      | inr empty ↦ omega (arith, g.short, size)
    ] in (
      subst (IsPatch left right) (append-nil hunks) (g.patch [] same),
      subst (HasContext context (length left)) (append-nil hunks) (g.around [] end),
    )

-- one hunk more
pub grouped_next : (left right : List (List ℕ)) (context i j : ℕ) (rest : List DiffLine)
    (hunks : List UnifiedDiffHunk) (h : UnifiedDiffHunk) (before n : ℕ)
    → IsGrouped left right context i j rest hunks → leading_context rest < length rest
    → before ≡ leading_context rest - context → leading_context (drop before rest) < n
    → n ≤ length (drop before rest) → IsHunkEnd (drop before rest) context n
    → h.lines.items ≡ take n (drop before rest)
    → h.left_line_range.start ≡ i + before → h.right_line_range.start ≡ j + before
    → h.left_line_range.end ≡ h.left_line_range.start + length (left_lines h.lines.items)
    → h.right_line_range.end ≡ h.right_line_range.start + length (right_lines h.lines.items)
    → IsGrouped left right context h.left_line_range.end h.right_line_range.end
    (drop n (drop before rest)) (hunks ++ h ∷ [])
grouped_next left right context i j rest hunks h before n g some at first within end items ls rs le re =
    let from : List DiffLine = drop before rest in
    let mid : List DiffLine = take n from in
    let after : List DiffLine = drop n from in
    let same : (left_lines (take before rest) ≡ right_lines (take before rest))
    × (length (left_lines (take before rest)) ≡ before)
    = same_lines rest before (omega (arith, at)) in
    let left_split : left_lines (take before rest) ++ (left_lines mid ++ left_lines after)
    ≡ drop i left
    = sym (ap left_lines (sym (take-append-drop before rest))
    ∙ left-append (take before rest) from
    ∙ ap (λ r. left_lines (take before rest) ++ r)
    (ap left_lines (sym (take-append-drop n from)) ∙ left-append mid after))
    ∙ g.left_rest in
    let right_split : right_lines (take before rest) ++ (right_lines mid ++ right_lines after)
    ≡ drop j right
    = sym (ap right_lines (sym (take-append-drop before rest))
    ∙ right-append (take before rest) from
    ∙ ap (λ r. right_lines (take before rest) ++ r)
    (ap right_lines (sym (take-append-drop n from)) ∙ right-append mid after))
    ∙ g.right_rest in
    let left_len : length (left_lines h.lines.items) ≡ length (left_lines mid)
    = ap (λ ls. length (left_lines ls)) items in
    let right_len : length (right_lines h.lines.items) ≡ length (right_lines mid)
    = ap (λ ls. length (right_lines ls)) items in
    let right_gap : length (right_lines (take before rest)) ≡ before
    = ap length (sym same.0) ∙ same.1 in
    let l : IsCutAt left (left_lines (take before rest)) (left_lines mid) (left_lines after) i
    h.left_line_range.start h.left_line_range.end
    = cut_at left (left_lines (take before rest)) (left_lines mid) (left_lines after) i
    h.left_line_range.start h.left_line_range.end g.left_within left_split
    (omega (arith, ls, same.1)) (omega (arith, le, left_len)) in
    let r : IsCutAt right (right_lines (take before rest)) (right_lines mid) (right_lines after) j
    h.right_line_range.start h.right_line_range.end
    = cut_at right (right_lines (take before rest)) (right_lines mid) (right_lines after) j
    h.right_line_range.start h.right_line_range.end g.right_within right_split
    (omega (arith, rs, right_gap)) (omega (arith, re, right_len)) in
    let hunk : IsHunkAfter left right i j h = record {
      left_start = omega (arith, ls);
      left_end = omega (arith, le);
      left_within = l.bounded;
      right_start = omega (arith, rs);
      right_end = omega (arith, re);
      right_within = r.bounded;
      equal = l.before ∙ same.0 ∙ sym r.before;
      left_lines = ap left_lines items ∙ sym l.within;
      right_lines = ap right_lines items ∙ sym r.within;
    } in
    let lead : leading_context h.lines.items ≡ leading_context from
    = ap leading_context items ∙ leading_take from n first in
    let size : length h.lines.items ≡ n
    = ap length items ∙ length-take-le n from within in
    let tail : trailing_context h.lines.items ≡ trailing_context (take n from)
    = ap trailing_context items in
    let surrounded : HasContextAfter context i g.trail h = record {
      changed = omega (arith, lead, size, first);
      leading = omega (arith, lead, leading_drop rest before (omega (arith, at)), at, ls);
      trailing = omega (arith, g.full (omega (arith, some)));
    } in
    record {
      left_rest = sym l.after;
      right_rest = sym r.after;
      left_within = l.bounded;
      right_within = r.bounded;
      patch = λ more p. subst (IsPatch left right) (sym (append_assoc hunks (h ∷ []) more))
          (g.patch (h ∷ more) (hunk, p));
      least = h.left_line_range.end + 1;
      trail = trailing_context h.lines.items;
      around = λ more p. subst (HasContext context (length left))
          (sym (append_assoc hunks (h ∷ []) more))
          (g.around (h ∷ more)
          (omega (arith, g.least_fits some, at, ls), surrounded, p));
      least_fits = λ lt. omega (arith, end.next lt);
      short = omega (arith, tail, end.trailing);
      full = λ lt. tail ∙ end.full (omega (arith, lt, length-drop n from));
    }

-- one hunk more, by the parts that the code has names for
pub grouped_step : (left right : List (List ℕ)) (context i j : ℕ) (rest from own after : List DiffLine)
    (hunks more : List UnifiedDiffHunk) (h : UnifiedDiffHunk) (before n : ℕ)
    → IsGrouped left right context i j rest hunks → leading_context rest < length rest
    → before ≡ leading_context rest - context → from ≡ drop before rest → own ≡ take n from
    → after ≡ drop n from → more ≡ hunks ++ h ∷ [] → leading_context from < n
    → n ≤ length from → IsHunkEnd from context n → h.lines.items ≡ own
    → h.left_line_range.start ≡ i + before → h.right_line_range.start ≡ j + before
    → h.left_line_range.end ≡ h.left_line_range.start + length (left_lines h.lines.items)
    → h.right_line_range.end ≡ h.right_line_range.start + length (right_lines h.lines.items)
    → IsGrouped left right context h.left_line_range.end h.right_line_range.end after more
grouped_step left right context i j rest from own after hunks more h before n g some at e o a p first within end items ls rs le re =
    let r : IsGrouped left right context h.left_line_range.end h.right_line_range.end
    (drop n (drop before rest)) (hunks ++ h ∷ [])
    = grouped_next left right context i j rest hunks h before n g some at
    (omega (arith, first, ap leading_context e)) (omega (arith, within, ap length e))
    (subst (λ f. IsHunkEnd f context n) e end) (items ∙ o ∙ ap (take n) e) ls rs le re in
    subst (λ hs. IsGrouped left right context h.left_line_range.end h.right_line_range.end after hs)
    (sym p)
    (subst (λ xs. IsGrouped left right context h.left_line_range.end h.right_line_range.end xs
    (hunks ++ h ∷ [])) (sym (a ∙ ap (drop n) e)) r)

on_left_bounded : (k : DiffLineType) (line : List ℕ) → length (on_left k (line ∷ [])) ≤ 1
on_left_bounded Context line = omega arith
on_left_bounded Removed line = omega arith
on_left_bounded Added line = omega arith

on_right_bounded : (k : DiffLineType) (line : List ℕ) → length (on_right k (line ∷ [])) ≤ 1
on_right_bounded Context line = omega arith
on_right_bounded Removed line = omega arith
on_right_bounded Added line = omega arith

left_bounded : (xs : List DiffLine) → length (left_lines xs) ≤ length xs
left_bounded [] = omega arith
left_bounded (x ∷ xs) =
    omega (
      arith,
      length-append (on_left x.line_type (x.content.now ∷ [])) (left_lines xs),
      on_left_bounded x.line_type x.content.now,
      left_bounded xs,
    )

right_bounded : (xs : List DiffLine) → length (right_lines xs) ≤ length xs
right_bounded [] = omega arith
right_bounded (x ∷ xs) =
    omega (
      arith,
      length-append (on_right x.line_type (x.content.now ∷ [])) (right_lines xs),
      on_right_bounded x.line_type x.content.now,
      right_bounded xs,
    )

-- the ends of a hunk and the lines after it are within the list
pub ends_bounded : (total i j start_l start_r end_l end_r before n : ℕ)
    (rest from own after mid : List DiffLine)
    → i + length rest ≤ total → j + length rest ≤ total → before ≤ length rest
    → from ≡ drop before rest → own ≡ take n from → after ≡ drop n from → n ≤ length from
    → mid ≡ own → start_l ≡ i + before → start_r ≡ j + before
    → end_l ≡ start_l + length (left_lines mid) → end_r ≡ start_r + length (right_lines mid)
    → (end_l + length after ≤ total) × (end_r + length after ≤ total)
ends_bounded total i j sl sr el er before n rest from own after mid li rj b e o a within m ls rs le re =
    let size : length mid ≡ n = ap length (m ∙ o) ∙ length-take-le n from within in
    let left : length after ≡ length from - n = ap length a ∙ length-drop n from in
    let whole : length from ≡ length rest - before = ap length e ∙ length-drop before rest in
    (omega (arith, left_bounded mid), omega (arith, right_bounded mid))
