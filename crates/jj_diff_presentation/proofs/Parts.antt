-- The lines of the parts of hunks are the lines of the inputs.
use Rattle.std.proofs.Common.{◌≡◌, ℕ, suc, ◌+◌, ◌-◌, ◌<◌, ◌≤◌, ◌⊎◌, Bool, true, false, ◌||◌, ◌==◌, List, [], ◌∷◌, ◌++◌, length, map, take, drop, get_or, refl, sym, ap, ◌∙◌, subst, inl, inr, append_assoc, append-nil, length-append, arith}
use Rattle.std.proofs.lemmas.Bool.{eqb-true}
use Rattle.std.proofs.lemmas.List.{at_drop_more, drop_all, get_or_append_left}
use Rattle.jj_diff.specs.Tokens.{is_line_end, IsCut}
use Rattle.jj_diff.specs.Inputs.{side}
use Rattle.jj_diff.specs.Hunks.{row_of, IsDiff}
use Rattle.jj_diff.specs.declared.diff.hunks.DiffHunk.{DiffHunk}
use Rattle.jj_diff_presentation.specs.Lines.{split_lines}
use Rattle.jj_diff_presentation.specs.Scripts.{lines_of_kind, lines_of_parts, script_of}
use Rattle.jj_diff_presentation.specs.declared.unified.script.DiffLineType.{DiffLineType}
use Rattle.jj_diff_presentation.proofs.Scripts.{match_at}
use Rattle.jj_diff_presentation.proofs.LineLaws.{split-append, terminated_at_end, split_empty}

pub part_pushed : (i : ℕ) (hunks : List DiffHunk) (k : ℕ) (h : DiffHunk) (before after : List (List ℕ))
    (total : List (List ℕ)) → k < length hunks → h ≡ get_or hunks k h
    → after ≡ before ++ split_lines (get_or (row_of h) i [])
    → before ++ lines_of_parts i (drop k hunks) ≡ total
    → after ++ lines_of_parts i (drop (k + 1) hunks) ≡ total
part_pushed i hunks k h before after total lt e pushed inv =
    let step : lines_of_parts i (drop k hunks)
    ≡ split_lines (get_or (row_of h) i []) ++ lines_of_parts i (drop (k + 1) hunks)
    = at_drop_more (lines_of_parts i) hunks k h lt
    ∙ ap (λ g. split_lines (get_or (row_of g) i []) ++ lines_of_parts i (drop (k + 1) hunks)) (sym e)
    in
    ap (λ r. r ++ lines_of_parts i (drop (k + 1) hunks)) pushed
    ∙ append_assoc before (split_lines (get_or (row_of h) i []))
    (lines_of_parts i (drop (k + 1) hunks))
    ∙ ap (λ r. before ++ r) (sym step)
    ∙ inv

abbrev lines_of_hunk : DiffHunk → List (DiffLineType × List ℕ)
lines_of_hunk h = lines_of_kind h.kind (split_lines (get_or (row_of h) 0 [])) (split_lines (get_or (row_of h) 1 []))

pub script_pushed : (hunks : List DiffHunk) (k : ℕ) (h : DiffHunk) (before after total : List (DiffLineType × List ℕ))
    → k < length hunks → h ≡ get_or hunks k h
    → after ≡ before ++ lines_of_kind h.kind (split_lines (get_or (row_of h) 0 [])) (split_lines (get_or (row_of h) 1 []))
    → before ++ script_of (drop k hunks) ≡ total → after ++ script_of (drop (k + 1) hunks) ≡ total
script_pushed hunks k h before after total lt e pushed inv =
    let step : script_of (drop k hunks) ≡ lines_of_hunk h ++ script_of (drop (k + 1) hunks)
    = at_drop_more script_of hunks k h lt
    ∙ ap (λ g. lines_of_hunk g ++ script_of (drop (k + 1) hunks)) (sym e) in
    ap (λ r. r ++ script_of (drop (k + 1) hunks)) pushed
    ∙ append_assoc before (lines_of_hunk h) (script_of (drop (k + 1) hunks))
    ∙ ap (λ r. before ++ r) (sym step)
    ∙ inv

pub script_finished : (hunks : List DiffHunk) (k : ℕ) (lines total : List (DiffLineType × List ℕ))
    → length hunks ≤ k → lines ++ script_of (drop k hunks) ≡ total → lines ≡ total
script_finished hunks k lines total le inv =
    sym (ap (λ hs. lines ++ script_of hs) (drop_all k hunks le) ∙ append-nil lines) ∙ inv

pub parts_finished : (i : ℕ) (hunks : List DiffHunk) (k : ℕ) (lines total : List (List ℕ))
    → length hunks ≤ k → lines ++ lines_of_parts i (drop k hunks) ≡ total → lines ≡ total
parts_finished i hunks k lines total le inv =
    sym (ap (λ hs. lines ++ lines_of_parts i hs) (drop_all k hunks le) ∙ append-nil lines) ∙ inv

pub ruleset part_steps = (part_pushed, parts_finished, script_pushed, script_finished, match_at)

last_of : (x y : List ℕ) → 0 < length x → get_or (x ++ y) (length x - 1) 0 ≡ get_or x (length x - 1) 0
last_of x y h = get_or_append_left x y 0 (length x - 1) (omega arith)

or_cases : (a b : Bool) → (a || b) ≡ true → (a ≡ true) ⊎ (b ≡ true)
or_cases true b e = inl refl
or_cases false b e = inr e

empty : (x : List ℕ) → length x ≡ 0 → x ≡ []
empty [] h = refl
empty (b ∷ x) h = absurd (omega arith)

-- a cut of the whole is between lines
cut_split : (whole x y rest : List ℕ) → whole ≡ x ++ (y ++ rest) → IsCut is_line_end whole (length x)
    → split_lines (x ++ y) ≡ split_lines x ++ split_lines y
cut_split whole [] y rest e cut = refl
cut_split whole (b ∷ x) y rest e cut =
    elim cut [
      | inl none ↦ absurd (omega (arith, none))
      | inr last ↦
          elim (or_cases (get_or whole (length (b ∷ x) - 1) 0 == 10)
          (length (b ∷ x) == length whole) last) [
            | inl newline ↦
                let at : get_or (b ∷ x) (length (b ∷ x) - 1) 0 ≡ 10
                = sym (ap (λ w. get_or w (length (b ∷ x) - 1) 0) e
                ∙ last_of (b ∷ x) (y ++ rest) (omega arith))
                ∙ eqb-true (get_or whole (length (b ∷ x) - 1) 0) 10 newline in
                split-append (b ∷ x) y
                (terminated_at_end (b ∷ x) (omega arith)
                ∙ ap (λ c. c == 10) at)
            | inr end ↦
                let len : length (b ∷ x) ≡ length whole
                = eqb-true (length (b ∷ x)) (length whole) end in
                let none : length y ≡ 0
                = omega (
                  arith,
                  ap length e,
                  length-append (b ∷ x) (y ++ rest),
                  length-append y rest,
                  len,
                ) in
                ap (λ z. split_lines ((b ∷ x) ++ z)) (empty y none)
                ∙ ap split_lines (append-nil (b ∷ x))
                ∙ sym (append-nil (split_lines (b ∷ x)))
                ∙ ap (λ ls. split_lines (b ∷ x) ++ ls) (sym (split_empty y none))
          ]
    ]

parts_split : (i : ℕ) (whole x : List ℕ) (hs : List DiffHunk)
    → whole ≡ x ++ side i (map row_of hs)
    → ((k : ℕ) → k ≤ length hs
    → IsCut is_line_end whole (length x + length (side i (map row_of (take k hs)))))
    → split_lines x ++ lines_of_parts i hs ≡ split_lines whole
parts_split i whole x [] e cuts =
    append-nil (split_lines x) ∙ ap split_lines (sym (append-nil x) ∙ sym e)
parts_split i whole x (h ∷ hs) e cuts =
    let y : List ℕ = get_or (row_of h) i [] in
    let here : IsCut is_line_end whole (length x)
    = subst (IsCut is_line_end whole) (omega arith) (cuts 0 (omega arith)) in
    let rest : List ℕ = side i (map row_of hs) in
    sym (append_assoc (split_lines x) (split_lines y) (lines_of_parts i hs))
    ∙ ap (λ ls. ls ++ lines_of_parts i hs) (sym (cut_split whole x y rest e here))
    ∙ parts_split i whole (x ++ y) hs (e ∙ sym (append_assoc x y rest))
    (λ k le. subst (IsCut is_line_end whole)
    (omega (arith, length-append x y, length-append y (side i (map row_of (take k hs)))))
    (cuts (suc k) (omega (arith, le))))

pub diff_parts : (inputs : List (List ℕ)) (hs : List DiffHunk) (i : ℕ) → i < length inputs
    → IsDiff is_line_end inputs hs → lines_of_parts i hs ≡ split_lines (get_or inputs i [])
diff_parts inputs hs i lt diff =
    parts_split i (get_or inputs i []) [] hs (sym (diff.sides i lt))
    (λ k le. subst (IsCut is_line_end (get_or inputs i [])) (omega arith) (diff.cuts k i le lt))
