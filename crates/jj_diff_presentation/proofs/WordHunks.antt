-- Lines of one side as a byte string, and hunks with marked words.
use Rattle.std.proofs.Common.{◌≡◌, ℕ, ◌+◌, ◌<◌, ◌≤◌, List, [], ◌∷◌, ◌++◌, length, take, drop, get_or, refl, sym, ap, ◌∙◌, subst, append_assoc, append-nil}
use Rattle.std.specs.Prelude.{All}
use Rattle.std.specs.List.{concat, AllZip}
use Rattle.std.proofs.lemmas.List.{at_drop_more, drop_all, take_more, take_all}
use Rattle.std.proofs.lemmas.List.Folds.{concat-append}
use Rattle.jj_diff_presentation.specs.Scripts.{on_left, on_right, left_lines, right_lines}
use Rattle.jj_diff_presentation.specs.Words.{AreWordsOf, IsWordDiff, IsWordHunk}
use Rattle.jj_diff_presentation.specs.declared.unified.script.DiffLine.{DiffLine}
use Rattle.jj_diff_presentation.specs.declared.unified.script.DiffLineType.{DiffLineType}
use Rattle.jj_diff_presentation.specs.declared.unified.script.DiffLineType.TheVariants.{Context, Removed, Added}
use Rattle.jj_diff_presentation.specs.declared.unified.hunks.UnifiedDiffHunk.{UnifiedDiffHunk}

-- one more line, of which the side has `part`
next : (f : List DiffLine → List (List ℕ)) (own : DiffLine → List (List ℕ))
    → ((l : DiffLine) (ls : List DiffLine) → f (l ∷ ls) ≡ own l ++ f ls)
    → (lines : List DiffLine) (i : ℕ) (x : DiffLine) (before part after total : List ℕ)
    → i < length lines → x ≡ get_or lines i x → concat (own x) ≡ part → after ≡ before ++ part
    → before ++ concat (f (drop i lines)) ≡ total → after ++ concat (f (drop (i + 1) lines)) ≡ total
next f own cons lines i x before part after total lt e has pushed inv =
    let rest : List ℕ = concat (f (drop (i + 1) lines)) in
    ap (λ t. t ++ rest) (pushed ∙ ap (λ p. before ++ p) (sym has))
    ∙ append_assoc before (concat (own x)) rest
    ∙ ap (λ t. before ++ t)
    (sym (at_drop_more (λ ls. concat (f ls)) lines i x lt
    ∙ ap concat (cons (get_or lines i x) (drop (i + 1) lines))
    ∙ concat-append (own (get_or lines i x)) (f (drop (i + 1) lines))
    ∙ ap (λ (y : DiffLine). concat (own y) ++ rest) (sym e)))
    ∙ inv

pub left_context : (lines : List DiffLine) (i : ℕ) (x : DiffLine) (before after total : List ℕ)
    → i < length lines → x ≡ get_or lines i x → x.line_type ≡ Context
    → after ≡ before ++ x.content.now → before ++ concat (left_lines (drop i lines)) ≡ total
    → after ++ concat (left_lines (drop (i + 1) lines)) ≡ total
left_context lines i x before after total lt e k pushed inv =
    next left_lines (λ l. on_left l.line_type (l.content.now ∷ [])) (λ l ls. refl) lines i x before
    x.content.now after total lt e
    (ap (λ t. concat (on_left t (x.content.now ∷ []))) k ∙ append-nil x.content.now) pushed inv

pub left_removed : (lines : List DiffLine) (i : ℕ) (x : DiffLine) (before after total : List ℕ)
    → i < length lines → x ≡ get_or lines i x → x.line_type ≡ Removed
    → after ≡ before ++ x.content.now → before ++ concat (left_lines (drop i lines)) ≡ total
    → after ++ concat (left_lines (drop (i + 1) lines)) ≡ total
left_removed lines i x before after total lt e k pushed inv =
    next left_lines (λ l. on_left l.line_type (l.content.now ∷ [])) (λ l ls. refl) lines i x before
    x.content.now after total lt e
    (ap (λ t. concat (on_left t (x.content.now ∷ []))) k ∙ append-nil x.content.now) pushed inv

pub left_added : (lines : List DiffLine) (i : ℕ) (x : DiffLine) (before total : List ℕ)
    → i < length lines → x ≡ get_or lines i x → x.line_type ≡ Added
    → before ++ concat (left_lines (drop i lines)) ≡ total
    → before ++ concat (left_lines (drop (i + 1) lines)) ≡ total
left_added lines i x before total lt e k inv =
    next left_lines (λ l. on_left l.line_type (l.content.now ∷ [])) (λ l ls. refl) lines i x before
    [] before total lt e (ap (λ t. concat (on_left t (x.content.now ∷ []))) k)
    (sym (append-nil before)) inv

pub right_context : (lines : List DiffLine) (i : ℕ) (x : DiffLine) (before after total : List ℕ)
    → i < length lines → x ≡ get_or lines i x → x.line_type ≡ Context
    → after ≡ before ++ x.content.now → before ++ concat (right_lines (drop i lines)) ≡ total
    → after ++ concat (right_lines (drop (i + 1) lines)) ≡ total
right_context lines i x before after total lt e k pushed inv =
    next right_lines (λ l. on_right l.line_type (l.content.now ∷ [])) (λ l ls. refl) lines i x before
    x.content.now after total lt e
    (ap (λ t. concat (on_right t (x.content.now ∷ []))) k ∙ append-nil x.content.now) pushed inv

pub right_removed : (lines : List DiffLine) (i : ℕ) (x : DiffLine) (before total : List ℕ)
    → i < length lines → x ≡ get_or lines i x → x.line_type ≡ Removed
    → before ++ concat (right_lines (drop i lines)) ≡ total
    → before ++ concat (right_lines (drop (i + 1) lines)) ≡ total
right_removed lines i x before total lt e k inv =
    next right_lines (λ l. on_right l.line_type (l.content.now ∷ [])) (λ l ls. refl) lines i x before
    [] before total lt e (ap (λ t. concat (on_right t (x.content.now ∷ []))) k)
    (sym (append-nil before)) inv

pub right_added : (lines : List DiffLine) (i : ℕ) (x : DiffLine) (before after total : List ℕ)
    → i < length lines → x ≡ get_or lines i x → x.line_type ≡ Added
    → after ≡ before ++ x.content.now → before ++ concat (right_lines (drop i lines)) ≡ total
    → after ++ concat (right_lines (drop (i + 1) lines)) ≡ total
right_added lines i x before after total lt e k pushed inv =
    next right_lines (λ l. on_right l.line_type (l.content.now ∷ [])) (λ l ls. refl) lines i x before
    x.content.now after total lt e
    (ap (λ t. concat (on_right t (x.content.now ∷ []))) k ∙ append-nil x.content.now) pushed inv

pub left_end : (lines : List DiffLine) (i : ℕ) (text total : List ℕ) → length lines ≤ i
    → text ++ concat (left_lines (drop i lines)) ≡ total → text ≡ total
left_end lines i text total le inv =
    sym (ap (λ ls. text ++ concat (left_lines ls)) (drop_all i lines le) ∙ append-nil text) ∙ inv

pub right_end : (lines : List DiffLine) (i : ℕ) (text total : List ℕ) → length lines ≤ i
    → text ++ concat (right_lines (drop i lines)) ≡ total → text ≡ total
right_end lines i text total le inv =
    sym (ap (λ ls. text ++ concat (right_lines ls)) (drop_all i lines le) ∙ append-nil text) ∙ inv

pub ruleset side_steps = (left_context, left_removed, left_added, right_context, right_removed, right_added, left_end, right_end)

-- ---- hunks

zip-push : {X Y : Type 0} (R : X → Y → Type 0) (xs : List X) (ys : List Y) (x : X) (y : Y)
    → AllZip R xs ys → R x y → AllZip R (xs ++ x ∷ []) (ys ++ y ∷ [])
zip-push R [] [] x y all here = (here, tt)
zip-push R [] (v ∷ ys) x y all here = absurd all
zip-push R (u ∷ xs) [] x y all here = absurd all
zip-push R (u ∷ xs) (v ∷ ys) x y all here = (all.0, zip-push R xs ys x y all.1 here)

pub diff_none : (hunks : List UnifiedDiffHunk) (text : List ℕ) → text ≡ []
    → IsWordDiff (take 0 hunks) text
diff_none hunks text e = record { parts = []; each = tt; bytes = e }

pub diff_next : (hunks : List UnifiedDiffHunk) (i : ℕ) (h : UnifiedDiffHunk)
    (before part after : List ℕ) → i < length hunks → h ≡ get_or hunks i h
    → IsWordDiff (take i hunks) before → IsWordHunk h part → after ≡ before ++ part
    → IsWordDiff (take (i + 1) hunks) after
diff_next hunks i h before part after lt e inv here pushed = record {
  parts = inv.parts ++ part ∷ [];
  each = subst (λ hs. AllZip IsWordHunk hs (inv.parts ++ part ∷ []))
      (sym (take_more hunks i h lt ∙ ap (λ g. take i hunks ++ g ∷ []) (sym e)))
      (zip-push IsWordHunk (take i hunks) inv.parts h part inv.each here);
  bytes = pushed ∙ ap (λ b. b ++ part) inv.bytes
      ∙ ap (λ p. concat inv.parts ++ p) (sym (append-nil part))
      ∙ sym (concat-append inv.parts (part ∷ []));
}

pub diff_end : (hunks : List UnifiedDiffHunk) (i : ℕ) (text : List ℕ) → length hunks ≤ i
    → IsWordDiff (take i hunks) text → IsWordDiff hunks text
diff_end hunks i text le inv = subst (λ hs. IsWordDiff hs text) (take_all i hunks le) inv

pub ruleset hunk_steps = (append_assoc)

pub ruleset text_steps = (diff_none, diff_next, diff_end)

none : (parts : List (List ℕ)) → AllZip IsWordHunk [] parts → parts ≡ []
none [] all = refl
none (p ∷ ps) all = absurd all

pub no_words : (text : List ℕ) → IsWordDiff [] text → text ≡ []
no_words text d = d.bytes ∙ ap concat (none d.parts d.each)
