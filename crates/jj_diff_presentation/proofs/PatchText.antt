-- Unified diffs, as the code writes them.
use Rattle.std.proofs.Common.{◌≡◌, ℕ, zero, suc, ◌+◌, ◌-◌, ◌<◌, ◌≤◌, Bool, true, false, cond, ◌==◌, List, [], ◌∷◌, ◌++◌, length, take, drop, get_or, codes, refl, sym, ap, ◌∙◌, arith, eq-eqb, ne_eqb, append_assoc, append-nil, add-one}
use Rattle.std.proofs.lemmas.List.{at_drop_more, drop_all}
use Rattle.std.specs.Fmt.{decimal}
use Rattle.jj_diff_presentation.specs.Lines.{is_terminated}
use Rattle.jj_diff_presentation.specs.PatchText.{type_byte, note, line_text, lines_text, range_text, header_text, hunks_text, names_text, diff_text}
use Rattle.jj_diff_presentation.specs.declared.unified.script.DiffLine.{DiffLine}
use Rattle.jj_diff_presentation.specs.declared.unified.script.DiffLineType.{DiffLineType}
use Rattle.jj_diff_presentation.specs.declared.unified.hunks.UnifiedDiffHunk.{UnifiedDiffHunk}
use Rattle.jj_diff_presentation.proofs.Booleans.{cond_true, cond_false}

pub line_ended : (k : DiffLineType) (content before : List ℕ) → is_terminated content ≡ true
    → (before ++ type_byte k ∷ []) ++ content ≡ before ++ line_text k content
line_ended k content before t =
    append_assoc before (type_byte k ∷ []) content
    ∙ ap (λ c. before ++ type_byte k ∷ c)
    (sym (cond_true (is_terminated content) content (content ++ 10 ∷ note) t))

pub line_noted : (k : DiffLineType) (content before : List ℕ) → is_terminated content ≡ false
    → ((before ++ type_byte k ∷ []) ++ content) ++ 10 ∷ note ≡ before ++ line_text k content
line_noted k content before f =
    append_assoc (before ++ type_byte k ∷ []) content (10 ∷ note)
    ∙ append_assoc before (type_byte k ∷ []) (content ++ 10 ∷ note)
    ∙ ap (λ c. before ++ type_byte k ∷ c)
    (sym (cond_false (is_terminated content) content (content ++ 10 ∷ note) f))

pub ruleset line_steps = (line_ended, line_noted)

pub lines_next : (lines : List DiffLine) (i : ℕ) (x : DiffLine) (before after total : List ℕ)
    → i < length lines → x ≡ get_or lines i x
    → after ≡ before ++ line_text x.line_type x.content.now
    → before ++ lines_text (drop i lines) ≡ total → after ++ lines_text (drop (i + 1) lines) ≡ total
lines_next lines i x before after total lt e pushed inv =
    ap (λ t. t ++ lines_text (drop (i + 1) lines)) pushed
    ∙ append_assoc before (line_text x.line_type x.content.now) (lines_text (drop (i + 1) lines))
    ∙ ap (λ t. before ++ t)
    (sym (at_drop_more lines_text lines i x lt
    ∙ ap (λ (y : DiffLine). line_text y.line_type y.content.now ++ lines_text (drop (i + 1) lines)) (sym e)))
    ∙ inv

pub lines_finished : (lines : List DiffLine) (i : ℕ) (text total : List ℕ) → length lines ≤ i
    → text ++ lines_text (drop i lines) ≡ total → text ≡ total
lines_finished lines i text total le inv =
    sym (ap (λ ls. text ++ lines_text ls) (drop_all i lines le) ∙ append-nil text) ∙ inv

pub ruleset lines_steps = (lines_next, lines_finished)

pub hunks_next : (hunks : List UnifiedDiffHunk) (i : ℕ) (h : UnifiedDiffHunk)
    (before middle after total : List ℕ) (lines : List DiffLine)
    → i < length hunks → h ≡ get_or hunks i h
    → middle ≡ before ++ header_text h.left_line_range h.right_line_range
    → after ≡ middle ++ lines_text lines → lines ≡ h.lines.items
    → before ++ hunks_text (drop i hunks) ≡ total → after ++ hunks_text (drop (i + 1) hunks) ≡ total
hunks_next hunks i h before middle after total lines lt e header pushed same inv =
    let rest : List ℕ = hunks_text (drop (i + 1) hunks) in
    let top : List ℕ = header_text h.left_line_range h.right_line_range in
    ap (λ t. t ++ rest) (pushed ∙ ap (λ m. m ++ lines_text lines) header
    ∙ ap (λ ls. (before ++ top) ++ lines_text ls) same)
    ∙ append_assoc (before ++ top) (lines_text h.lines.items) rest
    ∙ append_assoc before top (lines_text h.lines.items ++ rest)
    ∙ ap (λ t. before ++ t) (sym (append_assoc top (lines_text h.lines.items) rest))
    ∙ ap (λ t. before ++ t)
    (sym (at_drop_more hunks_text hunks i h lt
    ∙ ap (λ (g : UnifiedDiffHunk). header_text g.left_line_range g.right_line_range
    ++ lines_text g.lines.items ++ rest) (sym e)))
    ∙ inv

pub hunks_finished : (hunks : List UnifiedDiffHunk) (i : ℕ) (text total : List ℕ)
    → length hunks ≤ i → text ++ hunks_text (drop i hunks) ≡ total → text ≡ total
hunks_finished hunks i text total le inv =
    sym (ap (λ hs. text ++ hunks_text hs) (drop_all i hunks le) ∙ append-nil text) ∙ inv

pub ruleset hunks_steps = (hunks_next, hunks_finished)

pub no_diff : (path : List ℕ) (hunks : List UnifiedDiffHunk) → length hunks ≡ 0
    → diff_text path hunks ≡ []
no_diff path [] e = refl
no_diff path (h ∷ hs) e = absurd (omega arith)

pub some_diff : (path : List ℕ) (hunks : List UnifiedDiffHunk) → (length hunks ≡ 0 → ⊥)
    → diff_text path hunks ≡ names_text path ++ hunks_text hunks
some_diff path [] e = absurd (e refl)
some_diff path (h ∷ hs) e = refl

pub ruleset diff_steps = (no_diff, some_diff)

pub range_one : (start len : ℕ) (before : List ℕ) → len ≡ 1
    → before ++ decimal (cond (len == 0) start (start + 1)) ≡ before ++ range_text start len
range_one start len before e =
    ap (λ t. before ++ t)
    (sym (ap (λ t. decimal (cond (len == 0) start (start + 1)) ++ t)
    (cond_true (len == 1) [] (44 ∷ decimal len) (eq-eqb len 1 e))
    ∙ append-nil (decimal (cond (len == 0) start (start + 1)))))

pub range_more : (start len : ℕ) (before : List ℕ) → (len ≡ 1 → ⊥)
    → ((before ++ decimal (cond (len == 0) start (start + 1))) ++ 44 ∷ []) ++ decimal len
    ≡ before ++ range_text start len
range_more start len before n =
    append_assoc (before ++ decimal (cond (len == 0) start (start + 1))) (44 ∷ []) (decimal len)
    ∙ append_assoc before (decimal (cond (len == 0) start (start + 1))) (44 ∷ decimal len)
    ∙ ap (λ t. before ++ (decimal (cond (len == 0) start (start + 1)) ++ t))
    (sym (cond_false (len == 1) [] (44 ∷ decimal len) (ne_eqb len 1 n)))

pub ruleset range_steps = (range_one, range_more, eq-eqb, ne_eqb)
