-- Steps of the loops that render a conflict in the diff style.
use Rattle.std.proofs.Common.{◌≡◌, ℕ, zero, suc, ◌+◌, ◌<◌, ◌≤◌, true, false, ◌&&◌, List, [], ◌∷◌, ◌++◌, length, get_or, map, drop, codes, refl, sym, ap, ◌∙◌, subst, arith, append_assoc, append-nil, Vec, Global, Bor, All}
use Rattle.std.specs.List.{concat}
use Rattle.std.proofs.lemmas.List.{at_drop_more, at_drop_all, length-map}
use Rattle.jj_diff.specs.Tokens.{is_line_end, TokenEnds}
use Rattle.jj_diff.specs.declared.diff.hunks.DiffHunk.{DiffHunk}
use Rattle.jj_diff.specs.declared.diff.hunks.DiffHunkKind.{DiffHunkKind}
use Rattle.jj_diff.specs.declared.diff.hunks.DiffHunkKind.TheVariants.{Matching, Different}
use Rattle.jj_diff.specs.Inputs.{bytes_of}
use Rattle.jj_diff.specs.Hunks.{row_of, IsDiff, MatchesEnds}
use Rattle.jj_conflicts.specs.Contents.{merge_contents}
use Rattle.jj_conflicts.specs.Lines.{split_lines, is_terminated}
use Rattle.jj_conflicts.specs.Markers.{marker_line}
use Rattle.jj_conflicts.specs.Rendering.{label_at, section, conflict_label, snapshot_text, prefixed, compared_text, diff_text, diff_label, IsDiffSection, AreSections, all_terminated, IsDiffText, IsConflictText}
use Rattle.jj_conflicts.specs.declared.conflicts.ConflictMarkerStyle.TheVariants.{Diff}
use Rattle.jj_conflicts.proofs.LineLaws.{split_empty}

abbrev pub Text : Type 0
Text = Bor (List ℕ)

get_or-bytes : (row : List Text) (x : Text) (i : ℕ) → i < length row → x ≡ get_or row i x
    → x.now ≡ get_or (bytes_of row) i []
get_or-bytes [] x i lt e = absurd (omega arith)
get_or-bytes (y ∷ row) x zero lt e = ap (λ (r : Text). r.now) e
get_or-bytes (y ∷ row) x (suc i) lt e = get_or-bytes row x i (omega arith) e

-- ---- lines with a character before each

pub prefixed_step : (byte : ℕ) (before rest line after : List ℕ)
    → split_lines rest ≡ line ∷ split_lines after
    → ((before ++ byte ∷ []) ++ line) ++ prefixed byte after ≡ before ++ prefixed byte rest
prefixed_step byte before rest line after h =
    append_assoc (before ++ byte ∷ []) line (prefixed byte after)
    ∙ append_assoc before (byte ∷ []) (line ++ prefixed byte after)
    ∙ ap (λ x. before ++ x) (sym (ap (λ ls. concat (map (λ l. byte ∷ l) ls)) h))

pub prefixed_end : (byte : ℕ) (before rest : List ℕ) → length rest ≡ 0
    → before ++ prefixed byte rest ≡ before
prefixed_end byte before rest h =
    ap (λ ls. before ++ concat (map (λ l. byte ∷ l) ls)) (split_empty rest h) ∙ append-nil before

pub compared_matching : (kind : DiffHunkKind) (row : List Text) (x : Text) (before : List ℕ)
    → kind ≡ Matching → length row ≡ 2 → x ≡ get_or row 0 x
    → before ++ prefixed 32 x.now ≡ before ++ compared_text kind (bytes_of row)
compared_matching kind row x before k h e =
    ap (λ t. before ++ prefixed 32 t) (get_or-bytes row x 0 (omega arith) e)
    ∙ sym (ap (λ z. before ++ compared_text z (bytes_of row)) k)

pub compared_different : (kind : DiffHunkKind) (row : List Text) (x y : Text) (before : List ℕ)
    → kind ≡ Different → length row ≡ 2 → x ≡ get_or row 0 x → y ≡ get_or row 1 y
    → (before ++ prefixed 45 x.now) ++ prefixed 43 y.now
    ≡ before ++ compared_text kind (bytes_of row)
compared_different kind row x y before k h e f =
    append_assoc before (prefixed 45 x.now) (prefixed 43 y.now)
    ∙ ap (λ t. before ++ (prefixed 45 t ++ prefixed 43 y.now)) (get_or-bytes row x 0 (omega arith) e)
    ∙ ap (λ t. before ++ (prefixed 45 (get_or (bytes_of row) 0 []) ++ prefixed 43 t)) (get_or-bytes row y 1 (omega arith) f)
    ∙ sym (ap (λ z. before ++ compared_text z (bytes_of row)) k)

pub hunk_step : (hs : List DiffHunk) (i : ℕ) (h : DiffHunk) (before : List ℕ) → i < length hs
    → h ≡ get_or hs i h
    → (before ++ compared_text h.kind (row_of h)) ++ diff_text (drop (i + 1) hs)
    ≡ before ++ diff_text (drop i hs)
hunk_step hs i h before lt e =
    append_assoc before (compared_text h.kind (row_of h)) (diff_text (drop (i + 1) hs))
    ∙ ap (λ x. before ++ x) (sym (at_drop_more diff_text hs i h lt
    ∙ ap (λ x. diff_text (x ∷ drop (i + 1) hs)) (sym e)))

pub hunk_end : (hs : List DiffHunk) (i : ℕ) (before : List ℕ) → length hs ≤ i
    → before ++ diff_text (drop i hs) ≡ before
hunk_end hs i before le =
    ap (λ x. before ++ x) (at_drop_all diff_text hs i le) ∙ append-nil before

-- ---- one section

pub label_without_base : (base side : List ℕ) → length base ≡ 0 → [] ≡ diff_label base side
label_without_base [] side h = refl
label_without_base (b ∷ base) side h = absurd (omega arith)

pub label_without_side : (base side : List ℕ) → length side ≡ 0 → [] ≡ diff_label base side
label_without_side [] [] h = refl
label_without_side (b ∷ base) [] h = refl
label_without_side base (c ∷ side) h = absurd (omega arith)

pub label_shown : (base side : List ℕ) → (length base ≡ 0 → ⊥) → (length side ≡ 0 → ⊥)
    → codes "from " ++ base ++ codes " to " ++ side ≡ diff_label base side
label_shown [] side h k = absurd (h refl)
label_shown (b ∷ base) [] h k = absurd (k refl)
label_shown (b ∷ base) (c ∷ side) h k = refl

-- a comparison of two inputs has rows of two parts
pub two_parts : (is_end : TokenEnds) (a b : List ℕ) (hs : List DiffHunk)
    → IsDiff is_end (a ∷ b ∷ []) hs → All (λ h. length h.contents.items ≡ 2) hs
two_parts is_end a b hs diff k d lt =
    sym (length-map (get_or hs k d).contents.items (λ r. r.now)) ∙ (diff.hunks k d lt).len

pub section_made : (n : ℕ) (label base side text : List ℕ) (hs : List DiffHunk)
    → IsDiff is_line_end (base ∷ side ∷ []) hs → MatchesEnds is_line_end (base ∷ side ∷ []) hs
    → text ≡ marker_line 37 n label false ++ diff_text hs
    → IsDiffSection n label base side text
section_made n label base side text hs diff ends e =
    record { hunks = hs; diff = diff; ends = ends; text_is = e }

-- ---- all sections

sections_more : (n : ℕ) (labels : List (List ℕ)) (i : ℕ) (rest : List (Vec ℕ Global))
    (base side : Vec ℕ Global) (first tail : List ℕ) → 3 ≤ length rest
    → base ≡ get_or rest 1 base → side ≡ get_or rest 0 side
    → IsDiffSection n (diff_label (label_at labels (i + 1)) (label_at labels i)) base.items side.items first
    → AreSections n labels (i + 2) (merge_contents (drop 2 rest)) tail
    → AreSections n labels i (merge_contents rest) (first ++ tail)
sections_more n labels i [] base side first tail h e f s t = absurd (omega arith)
sections_more n labels i (x ∷ []) base side first tail h e f s t = absurd (omega arith)
sections_more n labels i (x ∷ y ∷ rest) base side first tail h e f s t = (
  first,
  (
    tail,
    (
      subst (λ (v : Vec ℕ Global). IsDiffSection n (diff_label (label_at labels (i + 1)) (label_at labels i)) v.items x.items first) e
          (subst (λ (v : Vec ℕ Global). IsDiffSection n (diff_label (label_at labels (i + 1)) (label_at labels i)) base.items v.items first) f s),
      t,
      refl,
    ),
  ),
)

-- followed by the sections of the rest, the bytes so far are the sections of all terms
abbrev pub Continues : ℕ → List (List ℕ) → List (Vec ℕ Global) → List ℕ → ℕ → List (Vec ℕ Global)
    → Type 0
Continues n labels terms text i rest = (tail : List ℕ)
    → AreSections n labels i (merge_contents rest) tail
    → AreSections n labels 0 (merge_contents terms) (text ++ tail)

pub continues_more : (n : ℕ) (labels : List (List ℕ)) (terms : List (Vec ℕ Global)) (text : List ℕ)
    (i : ℕ) (rest : List (Vec ℕ Global)) (base side : Vec ℕ Global) (first : List ℕ)
    → Continues n labels terms text i rest → 3 ≤ length rest
    → base ≡ get_or rest 1 base → side ≡ get_or rest 0 side
    → IsDiffSection n (diff_label (label_at labels (i + 1)) (label_at labels i)) base.items side.items first
    → Continues n labels terms (text ++ first) (i + 2) (drop 2 rest)
continues_more n labels terms text i rest base side first before h e f s = λ tail t.
    subst (AreSections n labels 0 (merge_contents terms)) (sym (append_assoc text first tail))
    (before (first ++ tail) (sections_more n labels i rest base side first tail h e f s t))

pub continues_end : (n : ℕ) (labels : List (List ℕ)) (terms : List (Vec ℕ Global)) (text : List ℕ)
    (i : ℕ) (rest : List (Vec ℕ Global)) (side : Vec ℕ Global)
    → Continues n labels terms text i rest → length rest ≡ 1 → side ≡ get_or rest 0 side
    → AreSections n labels 0 (merge_contents terms) (text ++ section n 43 (label_at labels i) side.items)
continues_end n labels terms text i [] side before h e = absurd (omega arith)
continues_end n labels terms text i (x ∷ []) side before h e =
    before (section n 43 (label_at labels i) side.items)
    (ap (λ (v : Vec ℕ Global). section n 43 (label_at labels i) v.items) e)
continues_end n labels terms text i (x ∷ y ∷ rest) side before h e = absurd (omega arith)

-- ---- terms that end in LF

pub terminated_step : (terms : List (Vec ℕ Global)) (i : ℕ) (t : Vec ℕ Global) → i < length terms
    → t ≡ get_or terms i t → is_terminated t.items ≡ true
    → all_terminated (merge_contents (drop (i + 1) terms)) ≡ all_terminated (merge_contents (drop i terms))
terminated_step terms i t lt e h =
    sym (at_drop_more (λ x. all_terminated (merge_contents x)) terms i t lt
    ∙ ap (λ x. all_terminated (merge_contents (x ∷ drop (i + 1) terms))) (sym e)
    ∙ ap (λ b. b && all_terminated (merge_contents (drop (i + 1) terms))) h)

pub unterminated_step : (terms : List (Vec ℕ Global)) (i : ℕ) (t : Vec ℕ Global) → i < length terms
    → t ≡ get_or terms i t → is_terminated t.items ≡ false
    → all_terminated (merge_contents (drop i terms)) ≡ false
unterminated_step terms i t lt e h =
    at_drop_more (λ x. all_terminated (merge_contents x)) terms i t lt
    ∙ ap (λ x. all_terminated (merge_contents (x ∷ drop (i + 1) terms))) (sym e)
    ∙ ap (λ b. b && all_terminated (merge_contents (drop (i + 1) terms))) h

pub terminated_end : (terms : List (Vec ℕ Global)) (i : ℕ) → length terms ≤ i
    → all_terminated (merge_contents (drop i terms)) ≡ true
terminated_end terms i le = at_drop_all (λ x. all_terminated (merge_contents x)) terms i le

-- ---- a conflict

pub conflict_snapshot : (n : ℕ) (labels : List (List ℕ)) (number count : ℕ) (terms : List (List ℕ))
    (text : List ℕ) → all_terminated terms ≡ false → text ≡ snapshot_text n labels number count terms
    → IsConflictText Diff n labels number count terms text
conflict_snapshot n labels number count terms text h e =
    subst (λ b. IsDiffText b n labels number count terms text) (sym h) e

pub conflict_sections : (n : ℕ) (labels : List (List ℕ)) (number count : ℕ) (terms : List (List ℕ))
    (text body : List ℕ) → all_terminated terms ≡ true → AreSections n labels 0 terms body
    → text ≡ marker_line 60 n (conflict_label number count) false ++ body
    ++ marker_line 62 n (conflict_label number count ++ codes " ends") false
    → IsConflictText Diff n labels number count terms text
conflict_sections n labels number count terms text body h s e =
    subst (λ b. IsDiffText b n labels number count terms text) (sym h) (body, (s, e))

pub ruleset prefixed_steps = (prefixed_step, prefixed_end)

pub ruleset compared_steps = (compared_matching, compared_different)

pub ruleset hunk_steps = (hunk_step, hunk_end)

pub ruleset label_steps = (label_without_base, label_without_side, label_shown)

pub ruleset section_steps = (two_parts, section_made)

pub ruleset sections_steps = (continues_more, continues_end)

pub ruleset terminated_steps = (terminated_step, unterminated_step, terminated_end)

pub ruleset conflict_steps = (conflict_snapshot, conflict_sections)
