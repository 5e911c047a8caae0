-- The sections of a conflict in the diff style, as the parser reads them.
use Rattle.std.proofs.Common.{◌≡◌, ℕ, zero, suc, ◌+◌, ◌-◌, ◌*◌, ◌/◌, ◌%◌, ◌<◌, ◌≤◌, Bool, true, false, cond, not, ◌&&◌, ◌||◌, ◌==◌, nat_lt, List, [], ◌∷◌, ◌++◌, length, map, take, drop, fold, get_or, Some, None, refl, sym, ap, ◌∙◌, subst, inl, inr, ◌⊎◌, arith, eq-eqb, ne_eqb, eqb-true, ltb-true, append-nil, append_assoc, length-append, All}
use Rattle.std.proofs.lemmas.Bool.{and_parts, and_from, eqb-false}
use Rattle.std.proofs.lemmas.List.Sums.{fold-append}
use Rattle.std.proofs.lemmas.List.Folds.{list_all-append}
use Rattle.std.proofs.lemmas.List.Elements.{All-head, All-tail}
use Rattle.std.specs.List.{list_all, concat, AllByRecursion}
use Rattle.jj_diff.specs.declared.diff.hunks.DiffHunk.{DiffHunk}
use Rattle.jj_diff.specs.declared.diff.hunks.DiffHunkKind.{DiffHunkKind}
use Rattle.jj_diff.specs.declared.diff.hunks.DiffHunkKind.TheVariants.{Matching, Different}
use Rattle.jj_diff.specs.Inputs.{side}
use Rattle.jj_diff.specs.Tokens.{is_line_end, IsCut}
use Rattle.jj_diff.specs.Hunks.{row_of, IsHunk, IsDiff}
use Rattle.jj_conflicts.specs.Lines.{split_lines, is_terminated, terminated}
use Rattle.jj_conflicts.specs.Markers.{run_length, marker_of, marker_line}
use Rattle.jj_conflicts.specs.Rendering.{label_at, section, prefixed, compared_text, diff_text, diff_label, IsDiffSection, AreSections}
use Rattle.jj_conflicts.specs.Parsing.{Sections, is_odd, done_terms, is_section_byte, with_section, with_diff_line, with_section_line, no_sections, has_terms, sections_outcome, section_lines, finished_terms, with_lines, first_term, first_some, terms_after}
use Rattle.jj_conflicts.specs.Conditions.{IsUnmarked, IsUnmarkedTerm}
use Rattle.jj_conflicts.proofs.Booleans.{cond_true, cond_false}
use Rattle.jj_conflicts.proofs.LineLaws.{split-append, concat-split, terminated-append, terminated_at_end}
use Rattle.jj_conflicts.proofs.MarkerLaws.{IsMarkerByte, marker_of-marker, marker_of-other, is_terminated-marker, has_note-marker}
use Rattle.jj_conflicts.proofs.TermLaws.{split-block, term_of-section}
use Rattle.jj_conflicts.proofs.SectionLines.{split-prefixed, is_terminated-prefixed, comparing, AreShort, both_lines, base_lines, side_lines, are_inside, inside-prefixed}

-- ---- the parts of a hunk

-- both parts end in LF and have no markers, and are equal if the hunk matches
pub record IsReadable (n : ℕ) (hunk : DiffHunk) : Type 0 where
  pub base_ended : is_terminated (get_or (row_of hunk) 0 []) ≡ true
  pub side_ended : is_terminated (get_or (row_of hunk) 1 []) ≡ true
  pub base_short : IsUnmarked (n - 1) (get_or (row_of hunk) 0 [])
  pub side_short : IsUnmarked (n - 1) (get_or (row_of hunk) 1 [])
  pub equal : hunk.kind ≡ Matching → get_or (row_of hunk) 1 [] ≡ get_or (row_of hunk) 0 []

different : (a b : ℕ) → (a == b) ≡ false → a ≡ b → ⊥
different a b h = eqb-false a b h

abbrev IsNoNewline : ℕ → Type 0
IsNoNewline c = c ≡ 10 → ⊥

space-no-newline : IsNoNewline 32
space-no-newline = different 32 10 refl

minus-no-newline : IsNoNewline 45
minus-no-newline = different 45 10 refl

plus-no-newline : IsNoNewline 43
plus-no-newline = different 43 10 refl

ended-compared : (kind : DiffHunkKind) (row : List (List ℕ)) → is_terminated (get_or row 0 []) ≡ true
    → is_terminated (get_or row 1 []) ≡ true → is_terminated (compared_text kind row) ≡ true
ended-compared Matching row h k = is_terminated-prefixed 32 (get_or row 0 []) space-no-newline h
ended-compared Different row h k =
    terminated-append (prefixed 45 (get_or row 0 [])) (prefixed 43 (get_or row 1 []))
    (is_terminated-prefixed 45 (get_or row 0 []) minus-no-newline h)
    (is_terminated-prefixed 43 (get_or row 1 []) plus-no-newline k)

compared_read : (n : ℕ) (terms : List (List ℕ)) (base side' : List ℕ) (kind : DiffHunkKind)
    (row : List (List ℕ)) → is_terminated (get_or row 0 []) ≡ true
    → is_terminated (get_or row 1 []) ≡ true → AreShort n (split_lines (get_or row 0 []))
    → AreShort n (split_lines (get_or row 1 []))
    → (kind ≡ Matching → get_or row 1 [] ≡ get_or row 0 [])
    → fold (with_section_line n) (comparing terms base side') (split_lines (compared_text kind row))
    ≡ comparing terms (base ++ get_or row 0 []) (side' ++ get_or row 1 [])
compared_read n terms base side' Matching row h k s t equal =
    let p : List ℕ = get_or row 0 [] in
    ap (fold (with_section_line n) (comparing terms base side')) (split-prefixed 32 p space-no-newline h)
    ∙ both_lines n terms base side' (split_lines p) s
    ∙ ap (λ x. comparing terms (base ++ x) (side' ++ x)) (concat-split p)
    ∙ ap (λ x. comparing terms (base ++ p) (side' ++ x)) (sym (equal refl))
compared_read n terms base side' Different row h k s t equal =
    let p : List ℕ = get_or row 0 [] in
    let q : List ℕ = get_or row 1 [] in
    let f : Sections → List ℕ → Sections = with_section_line n in
    ap (fold f (comparing terms base side')) (split-append (prefixed 45 p) (prefixed 43 q)
    (is_terminated-prefixed 45 p minus-no-newline h)
    ∙ ap (λ ls. ls ++ split_lines (prefixed 43 q)) (split-prefixed 45 p minus-no-newline h)
    ∙ ap (λ ls. map (λ l. 45 ∷ l) (split_lines p) ++ ls) (split-prefixed 43 q plus-no-newline k))
    ∙ fold-append f (comparing terms base side') (map (λ l. 45 ∷ l) (split_lines p)) (map (λ l. 43 ∷ l) (split_lines q))
    ∙ ap (λ u. fold f u (map (λ l. 43 ∷ l) (split_lines q)))
    (base_lines n terms base side' (split_lines p) s ∙ ap (λ x. comparing terms (base ++ x) side') (concat-split p))
    ∙ side_lines n terms (base ++ p) side' (split_lines q) t
    ∙ ap (λ x. comparing terms (base ++ p) (side' ++ x)) (concat-split q)

inside-append : (n : ℕ) (xs ys : List (List ℕ)) → are_inside n xs ≡ true → are_inside n ys ≡ true
    → are_inside n (xs ++ ys) ≡ true
inside-append n xs ys h k =
    list_all-append (λ line. not (marker_of n line == 60) && not (marker_of n line == 62)) xs ys
    ∙ and_from (are_inside n xs) (are_inside n ys) h k

compared_inside : (n : ℕ) (kind : DiffHunkKind) (row : List (List ℕ))
    → is_terminated (get_or row 0 []) ≡ true
    → is_terminated (get_or row 1 []) ≡ true → AreShort n (split_lines (get_or row 0 []))
    → AreShort n (split_lines (get_or row 1 []))
    → are_inside n (split_lines (compared_text kind row)) ≡ true
compared_inside n Matching row h k s t = inside-prefixed n 32 (get_or row 0 []) space-no-newline h s
compared_inside n Different row h k s t =
    let p : List ℕ = get_or row 0 [] in
    let q : List ℕ = get_or row 1 [] in
    ap (are_inside n) (split-append (prefixed 45 p) (prefixed 43 q)
    (is_terminated-prefixed 45 p minus-no-newline h))
    ∙ inside-append n (split_lines (prefixed 45 p)) (split_lines (prefixed 43 q))
    (inside-prefixed n 45 p minus-no-newline h s) (inside-prefixed n 43 q plus-no-newline k t)

ended-hunks : (n : ℕ) (hs : List DiffHunk) → AllByRecursion (IsReadable n) hs
    → is_terminated (diff_text hs) ≡ true
ended-hunks n [] ok = refl
ended-hunks n (h ∷ hs) ok =
    terminated-append (compared_text h.kind (row_of h)) (diff_text hs)
    (ended-compared h.kind (row_of h) ok.0.base_ended ok.0.side_ended) (ended-hunks n hs ok.1)

hunks_inside : (n : ℕ) (hs : List DiffHunk) → AllByRecursion (IsReadable n) hs
    → are_inside n (split_lines (diff_text hs)) ≡ true
hunks_inside n [] ok = refl
hunks_inside n (h ∷ hs) ok =
    ap (are_inside n) (split-append (compared_text h.kind (row_of h)) (diff_text hs)
    (ended-compared h.kind (row_of h) ok.0.base_ended ok.0.side_ended))
    ∙ inside-append n (split_lines (compared_text h.kind (row_of h))) (split_lines (diff_text hs))
    (compared_inside n h.kind (row_of h) ok.0.base_ended ok.0.side_ended ok.0.base_short ok.0.side_short)
    (hunks_inside n hs ok.1)

hunks_read : (n : ℕ) (terms : List (List ℕ)) (base side' : List ℕ) (hs : List DiffHunk)
    → AllByRecursion (IsReadable n) hs
    → fold (with_section_line n) (comparing terms base side') (split_lines (diff_text hs))
    ≡ comparing terms (base ++ side 0 (map row_of hs)) (side' ++ side 1 (map row_of hs))
hunks_read n terms base side' [] ok =
    sym (ap (λ x. comparing terms x (side' ++ [])) (append-nil base) ∙ ap (comparing terms base) (append-nil side'))
hunks_read n terms base side' (h ∷ hs) ok =
    let f : Sections → List ℕ → Sections = with_section_line n in
    let p : List ℕ = get_or (row_of h) 0 [] in
    let q : List ℕ = get_or (row_of h) 1 [] in
    let first : List ℕ = compared_text h.kind (row_of h) in
    ap (fold f (comparing terms base side')) (split-append first (diff_text hs)
    (ended-compared h.kind (row_of h) ok.0.base_ended ok.0.side_ended))
    ∙ fold-append f (comparing terms base side') (split_lines first) (split_lines (diff_text hs))
    ∙ ap (λ u. fold f u (split_lines (diff_text hs)))
    (compared_read n terms base side' h.kind (row_of h) ok.0.base_ended ok.0.side_ended ok.0.base_short ok.0.side_short ok.0.equal)
    ∙ hunks_read n terms (base ++ p) (side' ++ q) hs ok.1
    ∙ ap (λ x. comparing terms x ((side' ++ q) ++ side 1 (map row_of hs))) (append_assoc base p (side 0 (map row_of hs)))
    ∙ ap (comparing terms (base ++ (p ++ side 0 (map row_of hs)))) (append_assoc side' q (side 1 (map row_of hs)))

-- ---- hunks of inputs that end in LF

terminated-tail : (x y : List ℕ) → is_terminated (x ++ y) ≡ true → is_terminated y ≡ true
terminated-tail [] y h = h
terminated-tail (b ∷ []) [] h = refl
terminated-tail (b ∷ []) (c ∷ y) h = h
terminated-tail (b ∷ c ∷ x) y h = terminated-tail (c ∷ x) y h

last-of : (xs ys : List ℕ) → 0 < length xs → get_or (xs ++ ys) (length xs - 1) 0 ≡ get_or xs (length xs - 1) 0
last-of [] ys h = absurd (omega arith)
last-of (x ∷ []) ys h = refl
last-of (x ∷ y ∷ xs) ys h =
    let e : length (x ∷ y ∷ xs) - 1 ≡ suc (length (y ∷ xs) - 1) = omega arith in
    ap (λ k. get_or (x ∷ y ∷ (xs ++ ys)) k 0) e ∙ last-of (y ∷ xs) ys (omega arith)
    ∙ sym (ap (λ k. get_or (x ∷ y ∷ xs) k 0) e)

no-more : (xs ys : List ℕ) → length xs ≡ length (xs ++ ys) → ys ≡ []
no-more xs [] h = refl
no-more xs (y ∷ ys) h = absurd (omega (arith, h, length-append xs (y ∷ ys)))

or-cases : (a b : Bool) → (a || b) ≡ true → (a ≡ true) ⊎ (b ≡ true)
or-cases true b h = inl refl
or-cases false b h = inr h

-- the bytes before a cut end in LF
cut-ended : (xs ys : List ℕ) → is_terminated (xs ++ ys) ≡ true → IsCut is_line_end (xs ++ ys) (length xs)
    → is_terminated xs ≡ true
cut-ended [] ys t cut = refl
cut-ended (x ∷ xs) ys t cut = elim cut [
  | inl e ↦ absurd (omega (arith, e))
  | inr e ↦ elim (or-cases (get_or ((x ∷ xs) ++ ys) (length (x ∷ xs) - 1) 0 == 10) (length (x ∷ xs) == length ((x ∷ xs) ++ ys)) e) [
    | inl k ↦ terminated_at_end (x ∷ xs) (omega arith)
        ∙ ap (λ b. b == 10) (sym (last-of (x ∷ xs) ys (omega arith))) ∙ k
    | inr k ↦ subst (λ zs. is_terminated zs ≡ true)
        (ap (λ zs. (x ∷ xs) ++ zs) (no-more (x ∷ xs) ys (eqb-true (length (x ∷ xs)) (length ((x ∷ xs) ++ ys)) k)) ∙ append-nil (x ∷ xs)) t
  ]
]

side-split : (i k : ℕ) (hs : List DiffHunk)
    → side i (map row_of (take k hs)) ++ side i (map row_of (drop k hs)) ≡ side i (map row_of hs)
side-split i zero hs = refl
side-split i (suc k) [] = refl
side-split i (suc k) (h ∷ hs) =
    append_assoc (get_or (row_of h) i []) (side i (map row_of (take k hs))) (side i (map row_of (drop k hs)))
    ∙ ap (λ x. get_or (row_of h) i [] ++ x) (side-split i k hs)

parts-ended : (i : ℕ) (hs : List DiffHunk)
    → ((k : ℕ) → k ≤ length hs → is_terminated (side i (map row_of (take k hs))) ≡ true)
    → AllByRecursion (λ h. is_terminated (get_or (row_of h) i []) ≡ true) hs
parts-ended i [] ended = tt
parts-ended i (h ∷ hs) ended =
    let p : List ℕ = get_or (row_of h) i [] in (
      subst (λ x. is_terminated x ≡ true) (append-nil p) (ended 1 (omega arith)),
      parts-ended i hs (λ k le. terminated-tail p (side i (map row_of (take k hs))) (ended (suc k) (omega arith))),
    )

prefix-ended : (i : ℕ) (input : List ℕ) (hs : List DiffHunk) → side i (map row_of hs) ≡ input
    → is_terminated input ≡ true
    → ((k : ℕ) → k ≤ length hs → IsCut is_line_end input (length (side i (map row_of (take k hs)))))
    → (k : ℕ) → k ≤ length hs → is_terminated (side i (map row_of (take k hs))) ≡ true
prefix-ended i input hs e t cuts k le =
    let xs : List ℕ = side i (map row_of (take k hs)) in
    let ys : List ℕ = side i (map row_of (drop k hs)) in
    let whole : input ≡ xs ++ ys = sym e ∙ sym (side-split i k hs) in
    cut-ended xs ys (subst (λ z. is_terminated z ≡ true) whole t)
    (subst (λ z. IsCut is_line_end z (length xs)) whole (cuts k le))

parts-short : (n i : ℕ) (hs : List DiffHunk)
    → AllByRecursion (λ h. is_terminated (get_or (row_of h) i []) ≡ true) hs
    → AreShort n (split_lines (side i (map row_of hs)))
    → AllByRecursion (λ h. IsUnmarked (n - 1) (get_or (row_of h) i [])) hs
parts-short n i [] ended short = tt
parts-short n i (h ∷ hs) ended short =
    let p : List ℕ = get_or (row_of h) i [] in
    let q : List ℕ = side i (map row_of hs) in
    let both : (AreShort n (split_lines p)) × (AreShort n (split_lines q))
    = and_parts (list_all (λ l. nat_lt (run_length l) (n - 1)) (split_lines p)) (list_all (λ l. nat_lt (run_length l) (n - 1)) (split_lines q))
    (sym (list_all-append (λ l. nat_lt (run_length l) (n - 1)) (split_lines p) (split_lines q))
    ∙ sym (ap (list_all (λ l. nat_lt (run_length l) (n - 1))) (split-append p q ended.0)) ∙ short) in
    (both.0, parts-short n i hs ended.1 both.1)

readable : (n : ℕ) (hs : List DiffHunk) → All (IsHunk 2) hs
    → AllByRecursion (λ h. is_terminated (get_or (row_of h) 0 []) ≡ true) hs
    → AllByRecursion (λ h. is_terminated (get_or (row_of h) 1 []) ≡ true) hs
    → AllByRecursion (λ h. IsUnmarked (n - 1) (get_or (row_of h) 0 [])) hs
    → AllByRecursion (λ h. IsUnmarked (n - 1) (get_or (row_of h) 1 [])) hs
    → AllByRecursion (IsReadable n) hs
readable n [] hunks a b c d = tt
readable n (h ∷ hs) hunks a b c d =
    let hunk : IsHunk 2 h = All-head (IsHunk 2) h hs hunks in (
      record {
        base_ended = a.0;
        side_ended = b.0;
        base_short = c.0;
        side_short = d.0;
        equal = λ e. hunk.equal e 1 (omega (arith, hunk.len));
      },
      readable n hs (All-tail (IsHunk 2) h hs hunks) a.1 b.1 c.1 d.1,
    )

diff-readable : (n : ℕ) (base side' : List ℕ) (hs : List DiffHunk)
    → IsDiff is_line_end (base ∷ side' ∷ []) hs → is_terminated base ≡ true → is_terminated side' ≡ true
    → IsUnmarked (n - 1) base → IsUnmarked (n - 1) side' → AllByRecursion (IsReadable n) hs
diff-readable n base side' hs diff t u s r =
    let zero_lt : 0 < 2 = omega arith in
    let one_lt : 1 < 2 = omega arith in
    let e : side 0 (map row_of hs) ≡ base = diff.sides 0 zero_lt in
    let f : side 1 (map row_of hs) ≡ side' = diff.sides 1 one_lt in
    let a : AllByRecursion (λ h. is_terminated (get_or (row_of h) 0 []) ≡ true) hs
    = parts-ended 0 hs (prefix-ended 0 base hs e t (λ k le. diff.cuts k 0 le zero_lt)) in
    let b : AllByRecursion (λ h. is_terminated (get_or (row_of h) 1 []) ≡ true) hs
    = parts-ended 1 hs (prefix-ended 1 side' hs f u (λ k le. diff.cuts k 1 le one_lt)) in
    readable n hs diff.hunks a b
    (parts-short n 0 hs a (subst (λ x. AreShort n (split_lines x)) (sym e) s))
    (parts-short n 1 hs b (subst (λ x. AreShort n (split_lines x)) (sym f) r))

-- ---- one section

percent : IsMarkerByte 37
percent = record { marker = refl; no_space = refl; no_newline = refl; newline = refl; space = refl }

plus : IsMarkerByte 43
plus = record { marker = refl; no_space = refl; no_newline = refl; newline = refl; space = refl }

-- the terms up to the current section
record Reaches (s : Sections) (terms : List (List ℕ)) : Type 0 where
  pub done : done_terms s ≡ terms
  pub valid : s.valid ≡ true

and-false : (a : Bool) → (a && false) ≡ false
and-false true = refl
and-false false = refl

marker_step : (n : ℕ) (s : Sections) (byte : ℕ) (label : List ℕ) (noted : Bool)
    (terms : List (List ℕ)) → IsMarkerByte byte → 0 < n → is_section_byte byte ≡ true
    → Reaches s terms → is_odd (length terms) ≡ false
    → with_section_line n s (marker_line byte n label noted)
    ≡ record { terms = terms; byte = byte; base = []; side = []; noted = noted; valid = true }
marker_step n s byte label noted terms is h section r even =
    let line : List ℕ = marker_line byte n label noted in
    let m : marker_of n line ≡ byte = marker_of-marker byte n label noted is h in
    let odd : is_odd (length (done_terms s)) ≡ false = ap (λ x. is_odd (length x)) r.done ∙ even in
    let second : not (byte == 43 && is_odd (length (done_terms s))) ≡ true
    = ap (λ x. not (byte == 43 && x)) odd ∙ ap not (and-false (byte == 43)) in
    let made : List (List ℕ) → Bool → Bool → Sections
    = λ ts v w. record { terms = ts; byte = byte; base = []; side = []; noted = v; valid = w } in
    cond_true (is_section_byte (marker_of n line)) (with_section s (marker_of n line) line)
    (cond (s.byte == 43) (record s { side = s.side ++ line }) (with_diff_line s line))
    (ap is_section_byte m ∙ section)
    ∙ ap (λ b. with_section s b line) m
    ∙ ap (λ v. made (done_terms s) v (s.valid && not (byte == 43 && is_odd (length (done_terms s)))))
    (has_note-marker byte n label noted is)
    ∙ ap (made (done_terms s) noted) (and_from s.valid (not (byte == 43 && is_odd (length (done_terms s)))) r.valid second)
    ∙ ap (λ ts. made ts noted true) r.done

diff_terms : (terms : List (List ℕ)) (base side' : List ℕ) → is_odd (length terms) ≡ false
    → Reaches (comparing terms base side') (terms ++ side' ∷ base ∷ [])
diff_terms terms base side' even = record {
  done = ap (λ x. terms ++ x) (cond_false (is_odd (length terms)) (base ∷ side' ∷ []) (side' ∷ base ∷ []) even);
  valid = refl;
}

-- the parser appends the side and the base of a comparison
diff_read : (n : ℕ) (s : Sections) (terms : List (List ℕ)) (label base side' text : List ℕ)
    → 0 < n → Reaches s terms → is_odd (length terms) ≡ false
    → IsDiffSection n label base side' text → is_terminated base ≡ true → is_terminated side' ≡ true
    → IsUnmarked (n - 1) base → IsUnmarked (n - 1) side'
    → Reaches (fold (with_section_line n) s (split_lines text)) (terms ++ side' ∷ base ∷ [])
diff_read n s terms label base side' text h r even d t u b c =
    let f : Sections → List ℕ → Sections = with_section_line n in
    let ok : AllByRecursion (IsReadable n) d.hunks = diff-readable n base side' d.hunks d.diff t u b c in
    let e : fold f s (split_lines text) ≡ comparing terms base side'
    = ap (λ x. fold f s (split_lines x)) d.text_is
    ∙ ap (fold f s) (split-block n 37 label false (diff_text d.hunks) percent)
    ∙ ap (λ v. fold f v (split_lines (diff_text d.hunks))) (marker_step n s 37 label false terms percent h refl r even)
    ∙ hunks_read n terms [] [] d.hunks ok
    ∙ ap (λ x. comparing terms x (side 1 (map row_of d.hunks))) (d.diff.sides 0 (omega arith))
    ∙ ap (comparing terms base) (d.diff.sides 1 (omega arith)) in
    subst (λ v. Reaches v (terms ++ side' ∷ base ∷ [])) (sym e) (diff_terms terms base side' even)

diff_ended : (n : ℕ) (label base side' text : List ℕ) → IsDiffSection n label base side' text
    → is_terminated base ≡ true → is_terminated side' ≡ true
    → IsUnmarked (n - 1) base → IsUnmarked (n - 1) side' → is_terminated text ≡ true
diff_ended n label base side' text d t u b c =
    ap is_terminated d.text_is
    ∙ terminated-append (marker_line 37 n label false) (diff_text d.hunks) (is_terminated-marker 37 n label false)
    (ended-hunks n d.hunks (diff-readable n base side' d.hunks d.diff t u b c))

diff_inside : (n : ℕ) (label base side' text : List ℕ) → 0 < n → IsDiffSection n label base side' text
    → is_terminated base ≡ true → is_terminated side' ≡ true
    → IsUnmarked (n - 1) base → IsUnmarked (n - 1) side' → are_inside n (split_lines text) ≡ true
diff_inside n label base side' text h d t u b c =
    ap (λ x. are_inside n (split_lines x)) d.text_is
    ∙ ap (are_inside n) (split-block n 37 label false (diff_text d.hunks) percent)
    ∙ ap (λ m. (not (m == 60) && not (m == 62)) && are_inside n (split_lines (diff_text d.hunks)))
    (marker_of-marker 37 n label false percent h)
    ∙ hunks_inside n d.hunks (diff-readable n base side' d.hunks d.diff t u b c)

-- ---- the side that is written verbatim

abbrev pub showing : List (List ℕ) → List ℕ → Bool → Sections
showing terms text noted =
    record { terms = terms; byte = 43; base = []; side = text; noted = noted; valid = true }

shown_lines : (n : ℕ) (terms : List (List ℕ)) (text : List ℕ) (noted : Bool) (lines : List (List ℕ))
    → list_all (λ line. nat_lt (run_length line) n) lines ≡ true
    → fold (with_section_line n) (showing terms text noted) lines ≡ showing terms (text ++ concat lines) noted
shown_lines n terms text noted [] h = ap (λ x. showing terms x noted) (sym (append-nil text))
shown_lines n terms text noted (line ∷ lines) h =
    let p : (nat_lt (run_length line) n ≡ true) × (list_all (λ l. nat_lt (run_length l) n) lines ≡ true)
    = and_parts (nat_lt (run_length line) n) (list_all (λ l. nat_lt (run_length l) n) lines) h in
    let s : Sections = showing terms text noted in
    ap (λ v. fold (with_section_line n) v lines)
    (cond_false (is_section_byte (marker_of n line)) (with_section s (marker_of n line) line)
    (showing terms (text ++ line) noted)
    (ap is_section_byte (marker_of-other n line (ltb-true (run_length line) n p.0))))
    ∙ shown_lines n terms (text ++ line) noted lines p.1
    ∙ ap (λ x. showing terms x noted) (append_assoc text line (concat lines))

side_read : (n : ℕ) (s : Sections) (terms : List (List ℕ)) (label text : List ℕ) → 0 < n
    → Reaches s terms → is_odd (length terms) ≡ false → IsUnmarkedTerm n text
    → Reaches (fold (with_section_line n) s (split_lines (section n 43 label text))) (terms ++ text ∷ [])
side_read n s terms label text h r even unmarked =
    let f : Sections → List ℕ → Sections = with_section_line n in
    let noted : Bool = not (is_terminated text) in
    let e : fold f s (split_lines (section n 43 label text)) ≡ showing terms (terminated text) noted
    = ap (fold f s) (split-block n 43 label noted (terminated text) plus)
    ∙ ap (λ v. fold f v (split_lines (terminated text))) (marker_step n s 43 label noted terms plus h refl r even)
    ∙ shown_lines n terms [] noted (split_lines (terminated text)) unmarked
    ∙ ap (λ x. showing terms x noted) (concat-split (terminated text)) in
    subst (λ v. Reaches v (terms ++ text ∷ [])) (sym e) (record {
      done = ap (λ x. terms ++ x ∷ []) (term_of-section text);
      valid = refl;
    })

side_ended : (n : ℕ) (label text : List ℕ) → is_terminated text ≡ true
    → is_terminated (section n 43 label text) ≡ true
side_ended n label text t =
    terminated-append (marker_line 43 n label (not (is_terminated text))) (terminated text)
    (is_terminated-marker 43 n label (not (is_terminated text)))
    (ap is_terminated (cond_true (is_terminated text) text (text ++ 10 ∷ []) t) ∙ t)

inside-text : (n : ℕ) (lines : List (List ℕ))
    → list_all (λ line. nat_lt (run_length line) n) lines ≡ true → are_inside n lines ≡ true
inside-text n [] h = refl
inside-text n (line ∷ lines) h =
    let p : (nat_lt (run_length line) n ≡ true) × (list_all (λ l. nat_lt (run_length l) n) lines ≡ true)
    = and_parts (nat_lt (run_length line) n) (list_all (λ l. nat_lt (run_length l) n) lines) h in
    ap (λ m. (not (m == 60) && not (m == 62)) && are_inside n lines)
    (marker_of-other n line (ltb-true (run_length line) n p.0))
    ∙ inside-text n lines p.1

side_inside : (n : ℕ) (label text : List ℕ) → 0 < n → IsUnmarkedTerm n text
    → are_inside n (split_lines (section n 43 label text)) ≡ true
side_inside n label text h unmarked =
    ap (are_inside n) (split-block n 43 label (not (is_terminated text)) (terminated text) plus)
    ∙ ap (λ m. (not (m == 60) && not (m == 62)) && are_inside n (split_lines (terminated text)))
    (marker_of-marker 43 n label (not (is_terminated text)) plus h)
    ∙ inside-text n (split_lines (terminated text)) unmarked

-- ---- all sections

-- each term ends in LF and has no line that is a marker, also with a character before it
abbrev pub AreReadable : ℕ → List (List ℕ) → Type 0
AreReadable n = AllByRecursion (λ t. (is_terminated t ≡ true) × IsUnmarked (n - 1) t × IsUnmarkedTerm n t)

even-two : (terms : List (List ℕ)) (a b : List ℕ) → is_odd (length terms) ≡ false
    → is_odd (length (terms ++ a ∷ b ∷ [])) ≡ false
even-two terms a b h =
    let odd : length terms % 2 ≡ 1 → ⊥ = eqb-false (length terms % 2) 1 h in
    let size : length (terms ++ a ∷ b ∷ []) ≡ length terms + 2 = length-append terms (a ∷ b ∷ []) in
    ne_eqb (length (terms ++ a ∷ b ∷ []) % 2) 1 (λ e. odd (omega (arith, e, size)))

sections_read : (n : ℕ) (labels : List (List ℕ)) (i : ℕ) (terms done : List (List ℕ)) (text : List ℕ)
    (s : Sections) → 0 < n → AreSections n labels i terms text → AreReadable n terms
    → Reaches s done → is_odd (length done) ≡ false
    → Reaches (fold (with_section_line n) s (split_lines text)) (done ++ terms)
sections_read n labels i [] done text s h a ok r even = absurd a
sections_read n labels i (t ∷ []) done text s h a ok r even =
    subst (λ x. Reaches (fold (with_section_line n) s (split_lines x)) (done ++ t ∷ [])) (sym a)
    (side_read n s done (label_at labels i) t h r even ok.0.2)
sections_read n labels i (t ∷ b ∷ terms) done text s h a ok r even =
    let label : List ℕ = diff_label (label_at labels (i + 1)) (label_at labels i) in
    let f : Sections → List ℕ → Sections = with_section_line n in
    let first : List ℕ = a.0 in
    let rest : List ℕ = a.1.0 in
    let d : IsDiffSection n label b t first = a.1.1.0 in
    let v : Sections = fold f s (split_lines first) in
    let next : Reaches v (done ++ t ∷ b ∷ [])
    = diff_read n s done label b t first h r even d ok.1.0.0 ok.0.0 ok.1.0.1 ok.0.1 in
    let whole : fold f s (split_lines text) ≡ fold f v (split_lines rest)
    = ap (λ x. fold f s (split_lines x)) a.1.1.2
    ∙ ap (fold f s) (split-append first rest (diff_ended n label b t first d ok.1.0.0 ok.0.0 ok.1.0.1 ok.0.1))
    ∙ fold-append f s (split_lines first) (split_lines rest) in
    subst (λ u. Reaches u (done ++ t ∷ b ∷ terms)) (sym whole)
    (subst (Reaches (fold f v (split_lines rest))) (append_assoc done (t ∷ b ∷ []) terms)
    (sections_read n labels (i + 2) terms (done ++ t ∷ b ∷ []) rest v h a.1.1.1 ok.1.1 next (even-two done t b even)))

pub sections_ended : (n : ℕ) (labels : List (List ℕ)) (i : ℕ) (terms : List (List ℕ)) (text : List ℕ)
    → AreSections n labels i terms text → AreReadable n terms → is_terminated text ≡ true
sections_ended n labels i [] text a ok = absurd a
sections_ended n labels i (t ∷ []) text a ok =
    ap is_terminated a ∙ side_ended n (label_at labels i) t ok.0.0
sections_ended n labels i (t ∷ b ∷ terms) text a ok =
    ap is_terminated a.1.1.2
    ∙ terminated-append a.0 a.1.0
    (diff_ended n (diff_label (label_at labels (i + 1)) (label_at labels i)) b t a.0 a.1.1.0 ok.1.0.0 ok.0.0 ok.1.0.1 ok.0.1)
    (sections_ended n labels (i + 2) terms a.1.0 a.1.1.1 ok.1.1)

pub sections_inside : (n : ℕ) (labels : List (List ℕ)) (i : ℕ) (terms : List (List ℕ)) (text : List ℕ)
    → 0 < n → AreSections n labels i terms text → AreReadable n terms
    → are_inside n (split_lines text) ≡ true
sections_inside n labels i [] text h a ok = absurd a
sections_inside n labels i (t ∷ []) text h a ok =
    ap (λ x. are_inside n (split_lines x)) a ∙ side_inside n (label_at labels i) t h ok.0.2
sections_inside n labels i (t ∷ b ∷ terms) text h a ok =
    let label : List ℕ = diff_label (label_at labels (i + 1)) (label_at labels i) in
    ap (λ x. are_inside n (split_lines x)) a.1.1.2
    ∙ ap (are_inside n) (split-append a.0 a.1.0
    (diff_ended n label b t a.0 a.1.1.0 ok.1.0.0 ok.0.0 ok.1.0.1 ok.0.1))
    ∙ inside-append n (split_lines a.0) (split_lines a.1.0)
    (diff_inside n label b t a.0 h a.1.1.0 ok.1.0.0 ok.0.0 ok.1.0.1 ok.0.1)
    (sections_inside n labels (i + 2) terms a.1.0 h a.1.1.1 ok.1.1)

-- the first line starts a comparison
first_line : (n : ℕ) (labels : List (List ℕ)) (i : ℕ) (t b : List ℕ) (terms : List (List ℕ))
    (text : List ℕ) → AreSections n labels i (t ∷ b ∷ terms) text → AreReadable n (t ∷ b ∷ terms)
    → (lines : List (List ℕ)) × (split_lines text
    ≡ marker_line 37 n (diff_label (label_at labels (i + 1)) (label_at labels i)) false ∷ lines)
first_line n labels i t b terms text a ok =
    let label : List ℕ = diff_label (label_at labels (i + 1)) (label_at labels i) in
    let d : IsDiffSection n label b t a.0 = a.1.1.0 in (
      split_lines (diff_text d.hunks) ++ split_lines a.1.0,
      ap split_lines a.1.1.2
          ∙ split-append a.0 a.1.0 (diff_ended n label b t a.0 d ok.1.0.0 ok.0.0 ok.1.0.1 ok.0.1)
          ∙ ap (λ x. split_lines x ++ split_lines a.1.0) d.text_is
          ∙ ap (λ ls. ls ++ split_lines a.1.0) (split-block n 37 label false (diff_text d.hunks) percent),
    )

after-marker : (n sides : ℕ) (start line : List ℕ) (lines all : List (List ℕ)) (end : List ℕ)
    → all ≡ line ∷ lines → marker_of n line ≡ 37
    → terms_after n sides start all end ≡ section_lines n sides all
after-marker n sides start line lines all end e m =
    ap (λ ls. terms_after n sides start ls end) e
    ∙ cond_true (marker_of n line == 37) (section_lines n sides (line ∷ lines))
    (cond (marker_of n line == 43)
    (first_some (finished_terms sides false (with_lines n false (first_term line) lines) end)
    (section_lines n sides (line ∷ lines)))
    (finished_terms sides true (with_lines n true (first_term start) (line ∷ lines)) end))
    (eq-eqb (marker_of n line) 37 m)
    ∙ sym (ap (section_lines n sides) e)

reached_outcome : (sides : ℕ) (s : Sections) (terms : List (List ℕ)) → Reaches s terms
    → has_terms sides (length terms) ≡ true → sections_outcome sides s ≡ Some terms
reached_outcome sides s terms r h =
    cond_true (s.valid && has_terms sides (length (done_terms s))) (Some (done_terms s)) None
    (and_from s.valid (has_terms sides (length (done_terms s))) r.valid
    (ap (λ ts. has_terms sides (length ts)) r.done ∙ h))
    ∙ ap Some r.done

sized : (k sides : ℕ) → k + 1 ≡ 2 * sides → has_terms sides k ≡ true
sized k sides e =
    and_from (is_odd k) (k / 2 + 1 == sides) (eq-eqb (k % 2) 1 (omega (arith, e)))
    (eq-eqb (k / 2 + 1) sides (omega (arith, e)))

-- the lines of a conflict in the diff style
pub sections_parsed : (n sides : ℕ) (labels : List (List ℕ)) (start t b : List ℕ)
    (terms : List (List ℕ)) (text end : List ℕ) → 0 < n → AreSections n labels 0 (t ∷ b ∷ terms) text
    → AreReadable n (t ∷ b ∷ terms) → length (t ∷ b ∷ terms) + 1 ≡ 2 * sides
    → terms_after n sides start (split_lines text) end ≡ Some (t ∷ b ∷ terms)
sections_parsed n sides labels start t b terms text end h a ok size =
    let label : List ℕ = diff_label (label_at labels 1) (label_at labels 0) in
    let found : (lines : List (List ℕ)) × (split_lines text ≡ marker_line 37 n label false ∷ lines)
    = first_line n labels 0 t b terms text a ok in
    let empty : Reaches no_sections [] = record { done = refl; valid = refl } in
    after-marker n sides start (marker_line 37 n label false) found.0 (split_lines text) end found.1
    (marker_of-marker 37 n label false percent h)
    ∙ reached_outcome sides (fold (with_section_line n) no_sections (split_lines text)) (t ∷ b ∷ terms)
    (sections_read n labels 0 (t ∷ b ∷ terms) [] text no_sections h a ok empty refl)
    (sized (length (t ∷ b ∷ terms)) sides size)
