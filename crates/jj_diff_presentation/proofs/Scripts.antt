-- Scripts that are joined.
use Rattle.std.proofs.Common.{◌≡◌, ℕ, zero, suc, ◌<◌, true, List, [], ◌∷◌, ◌++◌, length, get_or, refl, sym, ap, ◌∙◌, arith, append_assoc, append-nil}
use Rattle.std.proofs.lemmas.Bool.{and_from}
use Rattle.std.proofs.lemmas.List.Folds.{list_all-append}
use Rattle.std.specs.List.{list_all}
use Rattle.jj_diff.specs.Inputs.{AreEqual}
use Rattle.jj_diff.specs.Hunks.{AllMatch}
use Rattle.jj_diff.specs.declared.diff.hunks.DiffHunk.{DiffHunk}
use Rattle.jj_diff.specs.declared.diff.hunks.DiffHunkKind.TheVariants.{Matching}
use Rattle.jj_diff_presentation.specs.Lines.{split_lines}
use Rattle.jj_diff_presentation.specs.Scripts.{on_left, on_right, left_lines, right_lines, is_context, is_context_type, AreContext, lines_of_type, typed_lines}
use Rattle.jj_diff_presentation.specs.declared.unified.script.DiffLine.{DiffLine}
use Rattle.jj_diff_presentation.specs.declared.unified.script.DiffLineType.{DiffLineType}
use Rattle.jj_diff_presentation.specs.declared.unified.script.DiffLineType.TheVariants.{Context, Removed, Added}
use Rattle.jj_diff_presentation.proofs.LineLaws.{split_empty}

pub left-append : (xs ys : List DiffLine) → left_lines (xs ++ ys) ≡ left_lines xs ++ left_lines ys
left-append [] ys = refl
left-append (x ∷ xs) ys =
    ap (λ r. on_left x.line_type (x.content.now ∷ []) ++ r) (left-append xs ys)
    ∙ sym (append_assoc (on_left x.line_type (x.content.now ∷ [])) (left_lines xs) (left_lines ys))

pub right-append : (xs ys : List DiffLine) → right_lines (xs ++ ys) ≡ right_lines xs ++ right_lines ys
right-append [] ys = refl
right-append (x ∷ xs) ys =
    ap (λ r. on_right x.line_type (x.content.now ∷ []) ++ r) (right-append xs ys)
    ∙ sym (append_assoc (on_right x.line_type (x.content.now ∷ [])) (right_lines xs) (right_lines ys))

on_left-cons : (k : DiffLineType) (line : List ℕ) (lines : List (List ℕ))
    → on_left k (line ∷ lines) ≡ on_left k (line ∷ []) ++ on_left k lines
on_left-cons Context line lines = refl
on_left-cons Removed line lines = refl
on_left-cons Added line lines = refl

on_right-cons : (k : DiffLineType) (line : List ℕ) (lines : List (List ℕ))
    → on_right k (line ∷ lines) ≡ on_right k (line ∷ []) ++ on_right k lines
on_right-cons Context line lines = refl
on_right-cons Removed line lines = refl
on_right-cons Added line lines = refl

-- one line more, and no line more, in the loop over the lines of a byte string
pub left_pushed : (k : DiffLineType) (xs : List DiffLine) (x : DiffLine) (rest after : List ℕ)
    (total : List (List ℕ)) → x.line_type ≡ k
    → split_lines rest ≡ x.content.now ∷ split_lines after
    → left_lines xs ++ on_left k (split_lines rest) ≡ total
    → left_lines (xs ++ x ∷ []) ++ on_left k (split_lines after) ≡ total
left_pushed k xs x rest after total e split inv =
    ap (λ r. r ++ on_left k (split_lines after)) (left-append xs (x ∷ []))
    ∙ append_assoc (left_lines xs) (left_lines (x ∷ [])) (on_left k (split_lines after))
    ∙ ap (λ r. left_lines xs ++ (r ++ on_left k (split_lines after)))
    (append-nil (on_left x.line_type (x.content.now ∷ [])))
    ∙ ap (λ t. left_lines xs ++ (on_left t (x.content.now ∷ []) ++ on_left k (split_lines after))) e
    ∙ ap (λ r. left_lines xs ++ r)
    (sym (on_left-cons k x.content.now (split_lines after)) ∙ sym (ap (on_left k) split))
    ∙ inv

pub right_pushed : (k : DiffLineType) (xs : List DiffLine) (x : DiffLine) (rest after : List ℕ)
    (total : List (List ℕ)) → x.line_type ≡ k
    → split_lines rest ≡ x.content.now ∷ split_lines after
    → right_lines xs ++ on_right k (split_lines rest) ≡ total
    → right_lines (xs ++ x ∷ []) ++ on_right k (split_lines after) ≡ total
right_pushed k xs x rest after total e split inv =
    ap (λ r. r ++ on_right k (split_lines after)) (right-append xs (x ∷ []))
    ∙ append_assoc (right_lines xs) (right_lines (x ∷ [])) (on_right k (split_lines after))
    ∙ ap (λ r. right_lines xs ++ (r ++ on_right k (split_lines after)))
    (append-nil (on_right x.line_type (x.content.now ∷ [])))
    ∙ ap (λ t. right_lines xs ++ (on_right t (x.content.now ∷ []) ++ on_right k (split_lines after))) e
    ∙ ap (λ r. right_lines xs ++ r)
    (sym (on_right-cons k x.content.now (split_lines after)) ∙ sym (ap (on_right k) split))
    ∙ inv

on_left-nil : (k : DiffLineType) → on_left k [] ≡ []
on_left-nil Context = refl
on_left-nil Removed = refl
on_left-nil Added = refl

on_right-nil : (k : DiffLineType) → on_right k [] ≡ []
on_right-nil Context = refl
on_right-nil Removed = refl
on_right-nil Added = refl

typed-append : (xs ys : List DiffLine) → typed_lines (xs ++ ys) ≡ typed_lines xs ++ typed_lines ys
typed-append [] ys = refl
typed-append (x ∷ xs) ys = ap (λ r. (x.line_type, x.content.now) ∷ r) (typed-append xs ys)

pub typed_pushed : (k : DiffLineType) (xs : List DiffLine) (x : DiffLine) (rest after : List ℕ)
    (total : List (DiffLineType × List ℕ)) → x.line_type ≡ k
    → split_lines rest ≡ x.content.now ∷ split_lines after
    → typed_lines xs ++ lines_of_type k (split_lines rest) ≡ total
    → typed_lines (xs ++ x ∷ []) ++ lines_of_type k (split_lines after) ≡ total
typed_pushed k xs x rest after total e split inv =
    ap (λ r. r ++ lines_of_type k (split_lines after)) (typed-append xs (x ∷ []))
    ∙ append_assoc (typed_lines xs) ((x.line_type, x.content.now) ∷ []) (lines_of_type k (split_lines after))
    ∙ ap (λ t. typed_lines xs ++ ((t, x.content.now) ∷ lines_of_type k (split_lines after))) e
    ∙ ap (λ r. typed_lines xs ++ r) (sym (ap (lines_of_type k) split))
    ∙ inv

pub typed_finished : (k : DiffLineType) (xs : List DiffLine) (rest : List ℕ) (total : List (DiffLineType × List ℕ))
    → length rest ≡ 0 → typed_lines xs ++ lines_of_type k (split_lines rest) ≡ total → typed_lines xs ≡ total
typed_finished k xs rest total h inv =
    sym (ap (λ r. typed_lines xs ++ lines_of_type k r) (split_empty rest h) ∙ append-nil (typed_lines xs)) ∙ inv

pub left_finished : (k : DiffLineType) (xs : List DiffLine) (rest : List ℕ) (total : List (List ℕ))
    → length rest ≡ 0 → left_lines xs ++ on_left k (split_lines rest) ≡ total → left_lines xs ≡ total
left_finished k xs rest total h inv =
    sym (ap (λ r. left_lines xs ++ on_left k r) (split_empty rest h)
    ∙ ap (λ r. left_lines xs ++ r) (on_left-nil k) ∙ append-nil (left_lines xs))
    ∙ inv

pub right_finished : (k : DiffLineType) (xs : List DiffLine) (rest : List ℕ) (total : List (List ℕ))
    → length rest ≡ 0 → right_lines xs ++ on_right k (split_lines rest) ≡ total
    → right_lines xs ≡ total
right_finished k xs rest total h inv =
    sym (ap (λ r. right_lines xs ++ on_right k r) (split_empty rest h)
    ∙ ap (λ r. right_lines xs ++ r) (on_right-nil k) ∙ append-nil (right_lines xs))
    ∙ inv

-- ---- lines of both sides

pub context_pushed : (xs : List DiffLine) (x : DiffLine) (k : DiffLineType) → x.line_type ≡ k
    → k ≡ Context → AreContext xs → AreContext (xs ++ x ∷ [])
context_pushed xs x k e f all =
    list_all-append is_context xs (x ∷ [])
    ∙ and_from (list_all is_context xs) (list_all is_context (x ∷ [])) all
    (and_from (is_context x) true (ap is_context_type (e ∙ f)) refl)

pub match_at : (hunks : List DiffHunk) (i : ℕ) (h : DiffHunk) → i < length hunks
    → h ≡ get_or hunks i h → AllMatch hunks → h.kind ≡ Matching
match_at hunks i h lt e all = ap (λ (g : DiffHunk). g.kind) e ∙ all i h lt

pub equal_sides : (left right : List ℕ) → left ≡ right → AreEqual (left ∷ right ∷ [])
equal_sides left right e zero lt = refl
equal_sides left right e (suc zero) lt = sym e
equal_sides left right e (suc (suc i)) lt = absurd (omega arith)

pub ruleset script_steps = (left_pushed, right_pushed, left_finished, right_finished, context_pushed, typed_pushed, typed_finished)
