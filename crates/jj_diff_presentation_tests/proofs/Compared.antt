-- Lines of a comparison that both versions start with, and words of tokens that differ.
use Rattle.std.proofs.Common.{◌≡◌, ◌⊎◌, ℕ, zero, suc, ◌+◌, ◌-◌, ◌<◌, ◌≤◌, Bool, true, false, List, [], ◌∷◌, ◌++◌, length, map, take, drop, get_or, refl, sym, ap, ◌∙◌, subst, arith, lit<, inl, inr, All, length-append, length-take-le, take-append-drop, take_all, get_or-take, ◌||◌, ◌==◌, eqb-true}
use Rattle.std.specs.List.{AllZip}
use Rattle.std.proofs.lemmas.Bool.{cases_lt}
use Rattle.std.proofs.lemmas.List.{take-append-le}
use Rattle.jj_diff.specs.declared.diff.hunks.DiffHunk.{DiffHunk}
use Rattle.jj_diff.specs.declared.diff.hunks.DiffHunkKind.{DiffHunkKind}
use Rattle.jj_diff.specs.declared.diff.hunks.DiffHunkKind.TheVariants.{Matching, Different}
use Rattle.jj_diff.specs.Inputs.{side}
use Rattle.jj_diff.specs.Tokens.{is_line_end, is_word_end}
use Rattle.jj_diff.specs.Ends.{IsCommonStart}
use Rattle.jj_diff.specs.Hunks.{row_of, kind_len, matched_start, AreTrimmed, IsHunk, HasTrimmedEnds}
use Rattle.jj_diff_presentation.specs.Lines.{split_lines, is_terminated}
use Rattle.jj_diff_presentation.specs.Scripts.{AreComparedLines, lines_of_kind, lines_of_type, script_of, typed_lines}
use Rattle.jj_diff_presentation.specs.Words.{AreComparedWords, IsTokenOf}
use Rattle.jj_diff_presentation.specs.declared.unified.script.DiffLine.{DiffLine}
use Rattle.jj_diff_presentation.specs.declared.unified.script.DiffLineType.{DiffLineType}
use Rattle.jj_diff_presentation.specs.declared.unified.script.DiffLineType.TheVariants.{Context}
use Rattle.jj_diff_presentation.specs.declared.unified.words.DiffToken.{DiffToken}
use Rattle.jj_diff_presentation.specs.declared.unified.words.DiffTokenType.TheVariants.{Matching as MatchingToken, Different as DifferentToken}
use Rattle.jj_diff_presentation.proofs.LineLaws.{split-append, terminated_at_end, terminated_empty}
use Rattle.jj_diff_presentation_tests.specs.Compared.{StartsInContext, HasPartsApart}

abbrev Script : Type 0
Script = List (DiffLineType × List ℕ)

-- the script starts with these lines, as context
abbrev Starts : List ℕ → Script → Type 0
Starts text script =
    take (length (split_lines text)) script ≡ lines_of_type Context (split_lines text)

take_typed : (ls : List (List ℕ)) (rest : Script)
    → take (length ls) (lines_of_type Context ls ++ rest) ≡ lines_of_type Context ls
take_typed [] rest = refl
take_typed (l ∷ ls) rest = ap (λ s. (Context, l) ∷ s) (take_typed ls rest)

take_typed_more : (ls ms : List (List ℕ)) (rest : Script)
    → take (length ls) (lines_of_type Context (ls ++ ms) ++ rest) ≡ lines_of_type Context ls
take_typed_more [] ms rest = refl
take_typed_more (l ∷ ls) ms rest = ap (λ s. (Context, l) ∷ s) (take_typed_more ls ms rest)

starts_with_none : (left : List ℕ) (n : ℕ) (script : Script) → n ≡ 0 → Starts (take n left) script
starts_with_none left n script e = subst (λ m. Starts (take m left) script) (sym e) refl

or_cases : (a b : Bool) → (a || b) ≡ true → (a ≡ true) ⊎ (b ≡ true)
or_cases true b e = inl refl
or_cases false b e = inr e

-- A hunk that matches after whole lines of its part: `text` is the part.
module _ (left text others : List ℕ) (n : ℕ) (rest : Script) (whole : left ≡ text ++ others)
    (le : n ≤ length text) where
  part : take n left ≡ take n text
  part = ap (take n) whole ∙ take-append-le n text others le

  joined : take n text ++ drop n text ≡ text
  joined = take-append-drop n text

  all_of : n ≡ length text → Starts (take n left) (lines_of_type Context (split_lines text) ++ rest)
  all_of e =
      let same : take n left ≡ text = part ∙ take_all n text (omega arith) in
      subst (λ xs. Starts xs (lines_of_type Context (split_lines text) ++ rest)) (sym same)
      (take_typed (split_lines text) rest)

  some_of : is_terminated (take n left) ≡ true
      → Starts (take n left) (lines_of_type Context (split_lines text) ++ rest)
  some_of t =
      let ends : is_terminated (take n text) ≡ true = ap is_terminated (sym part) ∙ t in
      let lines : split_lines text ≡ split_lines (take n text) ++ split_lines (drop n text) =
      ap split_lines (sym joined) ∙ split-append (take n text) (drop n text) ends in
      subst (λ xs. Starts xs (lines_of_type Context (split_lines text) ++ rest)) (sym part)
      (subst (λ ls. take (length (split_lines (take n text))) (lines_of_type Context ls ++ rest)
      ≡ lines_of_type Context (split_lines (take n text))) (sym lines)
      (take_typed_more (split_lines (take n text)) (split_lines (drop n text)) rest))

terminated_at : (left : List ℕ) (n : ℕ) → 0 < n → n ≤ length left
    → (get_or left (n - 1) 0 == 10) ≡ true → is_terminated (take n left) ≡ true
terminated_at left n some le last =
    let len : length (take n left) ≡ n = length-take-le n left le in
    terminated_at_end (take n left) (omega (arith, len))
    ∙ ap (λ k. get_or (take n left) (k - 1) 0 == 10) len
    ∙ ap (λ b. b == 10) (get_or-take n left (n - 1) 0 (omega arith))
    ∙ last

-- the script of a hunk of this kind and others
abbrev StartsBy : List ℕ → List ℕ → ℕ → DiffHunkKind → List (List ℕ) → Script → Type 0
StartsBy left text n kind right rest = n ≤ kind_len kind (length text)
    → Starts (take n left) (lines_of_kind kind (split_lines text) right ++ rest)

first_hunk : (left text others : List ℕ) (n : ℕ) (kind : DiffHunkKind) (right : List (List ℕ))
    (rest : Script) → left ≡ text ++ others → n ≤ length left
    → (n ≡ 0) ⊎ (is_line_end left n ≡ true) → StartsBy left text n kind right rest
first_hunk left text others n Different right rest whole within cut =
    λ le. starts_with_none left n (lines_of_kind Different (split_lines text) right ++ rest) (omega arith)
first_hunk left text others n Matching right rest whole within cut = λ le. elim (cases_lt 0 n) [
  | inr none ↦ starts_with_none left n (lines_of_kind Matching (split_lines text) right ++ rest)
      (omega arith)
  | inl some ↦ elim cut [
    | inl none ↦ starts_with_none left n (lines_of_kind Matching (split_lines text) right ++ rest)
        none
    | inr end ↦ elim (or_cases (get_or left (n - 1) 0 == 10) (n == length left) end) [
      | inl last ↦ some_of left text others n rest whole le (terminated_at left n some within last)
      | inr all ↦
          let e : n ≡ length left = eqb-true n (length left) all in
          all_of left text others n rest whole le
          (omega (arith, e, ap length whole, length-append text others))
    ]
  ]
]

starts_of : (left : List ℕ) (n : ℕ) (hunks : List DiffHunk) → side 0 (map row_of hunks) ≡ left
    → n ≤ length left → (n ≡ 0) ⊎ (is_line_end left n ≡ true) → n ≤ matched_start hunks
    → Starts (take n left) (script_of hunks)
starts_of left n [] e within cut le = starts_with_none left n [] (omega arith)
starts_of left n (h ∷ hs) e within cut le =
    first_hunk left (get_or (row_of h) 0 []) (side 0 (map row_of hs)) n h.kind
    (split_lines (get_or (row_of h) 1 [])) (script_of hs) (sym e) within cut le

pub starts_in_context : (left right : List ℕ) (lines : List DiffLine) → AreComparedLines left right lines
    → (n : ℕ) → IsCommonStart is_line_end (left ∷ right ∷ []) n
    → StartsInContext (split_lines (take n left)) lines
starts_in_context left right lines c n common =
    subst (Starts (take n left)) (sym c.script)
    (starts_of left n c.hunks (c.diff.sides 0 (lit< tt)) (common.within 0 (lit< tt))
    (common.cuts 0 (lit< tt)) (c.ends.start n common))

pub ruleset line_steps = (starts_in_context)

-- ---- words

row_of_two : (row : List (List ℕ)) (l r : List ℕ) → length row ≡ 2 → l ≡ get_or row 0 [] → r ≡ get_or row 1 []
    → row ≡ l ∷ r ∷ []
row_of_two [] l r e f g = absurd (omega arith)
row_of_two (x ∷ []) l r e f g = absurd (omega arith)
row_of_two (x ∷ y ∷ []) l r e f g = ap (λ a. a ∷ y ∷ []) (sym f) ∙ ap (λ b. l ∷ b ∷ []) (sym g)
row_of_two (x ∷ y ∷ z ∷ zs) l r e f g = absurd (omega arith)

differs : MatchingToken ≡ DifferentToken → ⊥
differs e = cc

kind_of : (h : DiffHunk) (t : DiffToken) → IsTokenOf h t → t.token_type ≡ DifferentToken
    → (k : DiffHunkKind) → h.kind ≡ k → h.kind ≡ Different
kind_of h t is e Matching m = absurd (differs (sym (is.matching m) ∙ e))
kind_of h t is e Different d = d

apart_here : (h : DiffHunk) (t : DiffToken) → IsHunk 2 h → (h.kind ≡ Different → HasTrimmedEnds is_word_end (row_of h))
    → IsTokenOf h t → HasPartsApart t
apart_here h t hunk trimmed is = λ e.
    subst (HasTrimmedEnds is_word_end)
    (row_of_two (row_of h) t.left.now t.right.now hunk.len is.left is.right)
    (trimmed (kind_of h t is e h.kind refl))

apart_each : (hs : List DiffHunk) (ts : List DiffToken) → All (IsHunk 2) hs
    → All (λ h. h.kind ≡ Different → HasTrimmedEnds is_word_end (row_of h)) hs
    → AllZip IsTokenOf hs ts → All HasPartsApart ts
apart_each [] [] hunks trimmed z = λ k d lt. absurd (omega arith)
apart_each [] (t ∷ ts) hunks trimmed z = absurd z
apart_each (h ∷ hs) [] hunks trimmed z = absurd z
apart_each (h ∷ hs) (t ∷ ts) hunks trimmed z =
    λ k d lt. elim k as (λ k. k < length (t ∷ ts) → HasPartsApart (get_or (t ∷ ts) k d)) [
      | zero ↦ λ lt. apart_here h t (hunks 0 h (omega arith)) (trimmed 0 h (omega arith)) z.0
      | suc k ↦ λ lt. apart_each hs ts (λ j c l. hunks (suc j) c (omega (arith, l)))
          (λ j c l. trimmed (suc j) c (omega (arith, l))) z.1 k d (omega arith)
    ] lt

trimmed_ends : (hunks : List DiffHunk) → AreTrimmed is_word_end hunks
    → All (λ h. h.kind ≡ Different → HasTrimmedEnds is_word_end (row_of h)) hunks
trimmed_ends hunks trimmed k d lt = λ e. record {
  start = (trimmed k d lt e).start;
  end = (trimmed k d lt e).end;
}

pub parts_apart : (left right : List ℕ) (tokens : List DiffToken) → AreComparedWords left right tokens
    → All HasPartsApart tokens
parts_apart left right tokens c =
    apart_each c.hunks tokens c.diff.hunks (trimmed_ends c.hunks c.trimmed) c.each

pub ruleset word_steps = (parts_apart)
