-- The terms of a rendered conflict as the parser reads them.
use Rattle.std.proofs.Common.{◌≡◌, ℕ, ◌+◌, ◌-◌, ◌%◌, ◌<◌, Bool, true, false, cond, not, ◌&&◌, ◌==◌, nat_lt, List, [], ◌∷◌, ◌++◌, length, take, fold, Option, Some, None, refl, sym, ap, ◌∙◌, inl, inr, arith, eq-eqb, ne_eqb, eqb-true, ltb-true, append-nil, append_assoc, length-append, true≢false}
use Rattle.std.proofs.lemmas.Bool.{cases_Bool, and_parts, not-true, eqb-false}
use Rattle.std.proofs.lemmas.List.Sums.{fold-append}
use Rattle.std.proofs.Math.Seq.{take-append_seam}
use Rattle.std.specs.List.{list_all, concat, AllByRecursion}
use Rattle.jj_conflicts.specs.Lines.{split_lines, is_terminated, terminated}
use Rattle.jj_conflicts.specs.Markers.{run_length, marker_of, marker_line, has_note}
use Rattle.jj_conflicts.specs.Rendering.{label_at, term_byte, section, sections}
use Rattle.jj_conflicts.specs.Parsing.{Terms, term_of, separator_byte, is_separator, with_separator, with_line, with_lines, first_term, has_sides, finished_terms, section_lines, first_some, terms_after}
use Rattle.jj_conflicts.specs.Conditions.{IsUnmarked, IsUnmarkedTerm}
use Rattle.jj_conflicts.proofs.Booleans.{cond_true, cond_false}
use Rattle.jj_conflicts.proofs.LineLaws.{split-append, concat-split, terminated-append, is_terminated-terminated}
use Rattle.jj_conflicts.proofs.MarkerLaws.{IsMarkerByte, marker_of-marker, marker_of-other, split-marker, is_terminated-marker, has_note-marker}

abbrev pub terms_at : List (List ℕ) → List ℕ → Bool → Bool → Terms
terms_at finished current noted valid =
    record { finished = finished; current = current; noted = noted; valid = valid }

is_separator-zero : (g : Bool) → is_separator g 0 ≡ false
is_separator-zero true = refl
is_separator-zero false = refl

with_line-text : (n : ℕ) (g : Bool) (s : Terms) (line : List ℕ) → run_length line < n
    → with_line n g s line ≡ record s { current = s.current ++ line }
with_line-text n g s line h =
    cond_false (is_separator g (marker_of n line)) (with_separator g (marker_of n line) s line)
    (record s { current = s.current ++ line })
    (ap (is_separator g) (marker_of-other n line h) ∙ is_separator-zero g)

with_lines-text : (n : ℕ) (g : Bool) (s : Terms) (lines : List (List ℕ))
    → list_all (λ line. nat_lt (run_length line) n) lines ≡ true
    → with_lines n g s lines ≡ record s { current = s.current ++ concat lines }
with_lines-text n g s [] h = ap (λ c. record s { current = c }) (sym (append-nil s.current))
with_lines-text n g s (line ∷ lines) h =
    let p : (nat_lt (run_length line) n ≡ true)
    × (list_all (λ l. nat_lt (run_length l) n) lines ≡ true)
    = and_parts (nat_lt (run_length line) n) (list_all (λ l. nat_lt (run_length l) n) lines) h
    in
    ap (λ u. fold (with_line n g) u lines)
    (with_line-text n g s line (ltb-true (run_length line) n p.0))
    ∙ with_lines-text n g (record s { current = s.current ++ line }) lines p.1
    ∙ ap (λ c. record s { current = c }) (append_assoc s.current line (concat lines))

with_marker : (n : ℕ) (g : Bool) (s : Terms) (byte : ℕ) (label : List ℕ) (noted : Bool)
    → IsMarkerByte byte → 0 < n → is_separator g byte ≡ true
    → (byte == separator_byte g (length s.finished)) ≡ true
    → with_line n g s (marker_line byte n label noted)
    ≡ terms_at (s.finished ++ term_of s.noted s.current ∷ []) [] noted s.valid
with_marker n g s byte label noted is h separates expected =
    let line : List ℕ = marker_line byte n label noted in
    let e : marker_of n line ≡ byte = marker_of-marker byte n label noted is h in
    cond_true (is_separator g (marker_of n line)) (with_separator g (marker_of n line) s line)
    (record s { current = s.current ++ line }) (ap (is_separator g) e ∙ separates)
    ∙ ap (λ b. with_separator g b s line) e
    ∙ cond_true (byte == separator_byte g (length s.finished))
    (terms_at (s.finished ++ term_of s.noted s.current ∷ []) [] (has_note line) s.valid)
    (record s { valid = false }) expected
    ∙ ap (λ v. terms_at (s.finished ++ term_of s.noted s.current ∷ []) [] v s.valid) (has_note-marker byte n label noted is)

pub split-block : (n byte : ℕ) (label : List ℕ) (noted : Bool) (text : List ℕ) → IsMarkerByte byte
    → split_lines (marker_line byte n label noted ++ text)
    ≡ marker_line byte n label noted ∷ split_lines text
split-block n byte label noted text is =
    split-append (marker_line byte n label noted) text (is_terminated-marker byte n label noted)
    ∙ ap (λ ls. ls ++ split_lines text) (split-marker byte n label noted is)

-- a marker line and an unmarked term
pub with_block : (n : ℕ) (g : Bool) (s : Terms) (byte : ℕ) (label : List ℕ) (noted : Bool)
    (text : List ℕ) → IsMarkerByte byte → 0 < n → is_separator g byte ≡ true
    → (byte == separator_byte g (length s.finished)) ≡ true → IsUnmarked n text
    → with_lines n g s (split_lines (marker_line byte n label noted ++ text))
    ≡ terms_at (s.finished ++ term_of s.noted s.current ∷ []) text noted s.valid
with_block n g s byte label noted text is h separates expected unmarked =
    let u : Terms = terms_at (s.finished ++ term_of s.noted s.current ∷ []) [] noted s.valid in
    ap (with_lines n g s) (split-block n byte label noted text is)
    ∙ ap (λ v. with_lines n g v (split_lines text))
    (with_marker n g s byte label noted is h separates expected)
    ∙ with_lines-text n g u (split_lines text) unmarked
    ∙ ap (λ c. record u { current = c }) (concat-split text)

take-front : (t : List ℕ) → take (length (t ++ 10 ∷ []) - 1) (t ++ 10 ∷ []) ≡ t
take-front t =
    let e : length (t ++ 10 ∷ []) - 1 ≡ length t = omega (arith, length-append t (10 ∷ [])) in
    ap (λ k. take k (t ++ 10 ∷ [])) e ∙ take-append_seam t (10 ∷ [])

pub term_of-section : (t : List ℕ) → term_of (not (is_terminated t)) (terminated t) ≡ t
term_of-section t =
    elim (cases_Bool (is_terminated t)) [
      | inl e ↦
          ap (λ v. term_of (not v) (terminated t)) e
          ∙ cond_true (is_terminated t) t (t ++ 10 ∷ []) e
      | inr e ↦
          ap (λ v. term_of (not v) (terminated t)) e
          ∙ ap (λ x. take (length x - 1) x) (cond_false (is_terminated t) t (t ++ 10 ∷ []) e)
          ∙ take-front t
    ]

-- ---- the snapshot style

term_byte-marks : (b : Bool) → IsMarkerByte (cond b 43 45)
term_byte-marks true = record {
  marker = refl;
  no_space = refl;
  no_newline = refl;
  newline = refl;
  space = refl;
}
term_byte-marks false = record {
  marker = refl;
  no_space = refl;
  no_newline = refl;
  newline = refl;
  space = refl;
}

pub is_marker-term_byte : (i : ℕ) → IsMarkerByte (term_byte i)
is_marker-term_byte i = term_byte-marks (i % 2 == 0)

separates-term : (b : Bool) → is_separator false (cond b 43 45) ≡ true
separates-term true = refl
separates-term false = refl

parity : (k : ℕ) → ((k + 1) % 2 == 0) ≡ not (k % 2 == 0)
parity k =
    elim (cases_Bool (k % 2 == 0)) [
      | inl e ↦
          let even : k % 2 ≡ 0 = eqb-true (k % 2) 0 e in
          let odd : (k + 1) % 2 ≡ 1 = omega arith in
          ne_eqb ((k + 1) % 2) 0 (λ z. omega arith) ∙ sym (ap not e)
      | inr e ↦
          let odd : k % 2 ≡ 0 → ⊥ = eqb-false (k % 2) 0 e in
          eq-eqb ((k + 1) % 2) 0 (omega arith) ∙ sym (ap not e)
    ]

alternates : (b : Bool) → (cond (not b) 43 45 == cond b 45 43) ≡ true
alternates true = refl
alternates false = refl

expected-term : (i k : ℕ) → i ≡ k + 1 → (term_byte i == separator_byte false k) ≡ true
expected-term i k e =
    ap (λ j. cond (j % 2 == 0) 43 45 == cond (k % 2 == 0) 45 43) e
    ∙ ap (λ b. cond b 43 45 == cond (k % 2 == 0) 45 43) (parity k) ∙ alternates (k % 2 == 0)

is_terminated-section : (n byte : ℕ) (label t : List ℕ)
    → is_terminated (section n byte label t) ≡ true
is_terminated-section n byte label t =
    terminated-append (marker_line byte n label (not (is_terminated t))) (terminated t)
    (is_terminated-marker byte n label (not (is_terminated t))) (is_terminated-terminated t)

pub sections_parsed : (n sides : ℕ) (labels done : List (List ℕ)) (t : List ℕ)
    (terms : List (List ℕ)) (end : List ℕ) (i : ℕ) → 0 < n → i ≡ length done + 1
    → AllByRecursion (IsUnmarkedTerm n) terms
    → has_sides sides (length done + length terms) ≡ true
    → finished_terms sides false (with_lines n false (terms_at done (terminated t) (not (is_terminated t)) true)
    (split_lines (sections n labels i terms))) end ≡ Some (done ++ t ∷ terms)
sections_parsed n sides labels done t [] end i h e unmarked sided =
    let here : length done ≡ length done + 0 = omega arith in
    cond_true (has_sides sides (length done))
    (Some (done ++ term_of (not (is_terminated t)) (terminated t) ∷ [])) None
    (ap (has_sides sides) here ∙ sided)
    ∙ ap (λ x. Some (done ++ x ∷ [])) (term_of-section t)
sections_parsed n sides labels done t (u ∷ us) end i h e unmarked sided =
    let s : Terms = terms_at done (terminated t) (not (is_terminated t)) true in
    let first : List ℕ = section n (term_byte i) (label_at labels i) u in
    let rest : List ℕ = sections n labels (i + 1) us in
    let front : List (List ℕ) = done ++ t ∷ [] in
    let size : length front ≡ length done + 1 = omega (arith, length-append done (t ∷ [])) in
    let next : i + 1 ≡ length front + 1 = omega (arith, size, e) in
    let count : length front + length us ≡ length done + length (u ∷ us)
    = omega (arith, size) in
    ap (λ ls. finished_terms sides false (with_lines n false s ls) end)
    (split-append first rest (is_terminated-section n (term_byte i) (label_at labels i) u))
    ∙ ap (λ v. finished_terms sides false v end)
    (fold-append (with_line n false) s (split_lines first) (split_lines rest))
    ∙ ap (λ v. finished_terms sides false (with_lines n false v (split_lines rest)) end)
    (with_block n false s (term_byte i) (label_at labels i) (not (is_terminated u)) (terminated u)
    (is_marker-term_byte i) h (separates-term (i % 2 == 0)) (expected-term i (length done) e)
    unmarked.0)
    ∙ ap (λ x. finished_terms sides false (with_lines n false (terms_at (done ++ x ∷ []) (terminated u) (not (is_terminated u)) true)
    (split_lines rest)) end) (term_of-section t)
    ∙ sections_parsed n sides labels front u us end (i + 1) h next unmarked.1
    (ap (has_sides sides) count ∙ sided)
    ∙ ap Some (append_assoc done (t ∷ []) (u ∷ us))

-- the lines of a conflict in the snapshot style
pub snapshot_parsed : (n sides : ℕ) (labels : List (List ℕ)) (start t : List ℕ)
    (terms : List (List ℕ)) (end : List ℕ) → 0 < n → AllByRecursion (IsUnmarkedTerm n) (t ∷ terms)
    → has_sides sides (length terms) ≡ true
    → terms_after n sides start (split_lines (sections n labels 0 (t ∷ terms))) end
    ≡ Some (t ∷ terms)
snapshot_parsed n sides labels start t terms end h unmarked sided =
    let label : List ℕ = label_at labels 0 in
    let noted : Bool = not (is_terminated t) in
    let line : List ℕ = marker_line 43 n label noted in
    let rest : List ℕ = sections n labels 1 terms in
    let is : IsMarkerByte 43 = term_byte-marks true in
    let lines : List (List ℕ) = split_lines (terminated t) ++ split_lines rest in
    let e : marker_of n line ≡ 43 = marker_of-marker 43 n label noted is h in
    let zero_more : length terms ≡ 0 + length terms = omega arith in
    let snapshot : Option (List (List ℕ))
    = finished_terms sides false (with_lines n false (first_term line) lines) end in
    let compared : Option (List (List ℕ)) = section_lines n sides (line ∷ lines) in
    let git : Option (List (List ℕ))
    = finished_terms sides true (with_lines n true (first_term start) (line ∷ lines)) end in
    ap (λ ls. terms_after n sides start ls end)
    (split-append (section n 43 label t) rest (is_terminated-section n 43 label t)
    ∙ ap (λ ls. ls ++ split_lines rest) (split-block n 43 label noted (terminated t) is))
    ∙ cond_false (marker_of n line == 37) compared
    (cond (marker_of n line == 43) (first_some snapshot compared) git) (ap (λ m. m == 37) e)
    ∙ cond_true (marker_of n line == 43) (first_some snapshot compared) git
    (eq-eqb (marker_of n line) 43 e)
    ∙ ap (λ x. first_some x compared) (ap (λ v. finished_terms sides false v end)
    (fold-append (with_line n false) (first_term line) (split_lines (terminated t))
    (split_lines rest))
    ∙ ap (λ v. finished_terms sides false (with_lines n false v (split_lines rest)) end)
    (with_lines-text n false (first_term line) (split_lines (terminated t)) unmarked.0
    ∙ ap (λ c. terms_at [] c (has_note line) true)
    (concat-split (terminated t))
    ∙ ap (λ v. terms_at [] (terminated t) v true)
    (has_note-marker 43 n label noted is))
    ∙ sections_parsed n sides labels [] t terms end 1 h refl unmarked.1
    (sym (ap (has_sides sides) zero_more) ∙ sided))

-- ---- Git's style

-- the first line is no marker of the snapshot style
abbrev pub is_git_style : ℕ → List (List ℕ) → Bool
is_git_style n [] = false
is_git_style n (line ∷ lines) = not (marker_of n line == 37) && not (marker_of n line == 43)

git_style : (n sides : ℕ) (start : List ℕ) (lines : List (List ℕ)) (end : List ℕ)
    → is_git_style n lines ≡ true
    → terms_after n sides start lines end
    ≡ finished_terms sides true (with_lines n true (first_term start) lines) end
git_style n sides start [] end h = absurd (true≢false (sym h))
git_style n sides start (line ∷ lines) end h =
    let snapshot : Option (List (List ℕ))
    = finished_terms sides false (with_lines n false (first_term line) lines) end in
    let compared : Option (List (List ℕ)) = section_lines n sides (line ∷ lines) in
    let git : Option (List (List ℕ))
    = finished_terms sides true (with_lines n true (first_term start) (line ∷ lines)) end in
    let p : (not (marker_of n line == 37) ≡ true) × (not (marker_of n line == 43) ≡ true)
    = and_parts (not (marker_of n line == 37)) (not (marker_of n line == 43)) h in
    cond_false (marker_of n line == 37) compared
    (cond (marker_of n line == 43) (first_some snapshot compared) git)
    (not-true (marker_of n line == 37) p.0)
    ∙ cond_false (marker_of n line == 43) (first_some snapshot compared) git
    (not-true (marker_of n line == 43) p.1)

git_style-text : (n : ℕ) (xs : List (List ℕ)) (line : List ℕ) (ys : List (List ℕ))
    → list_all (λ l. nat_lt (run_length l) n) xs ≡ true → marker_of n line ≡ 124
    → is_git_style n (xs ++ line ∷ ys) ≡ true
git_style-text n [] line ys h e = ap (λ m. not (m == 37) && not (m == 43)) e
git_style-text n (x ∷ xs) line ys h e =
    let p : (nat_lt (run_length x) n ≡ true)
    × (list_all (λ l. nat_lt (run_length l) n) xs ≡ true)
    = and_parts (nat_lt (run_length x) n) (list_all (λ l. nat_lt (run_length l) n) xs) h in
    ap (λ m. not (m == 37) && not (m == 43))
    (marker_of-other n x (ltb-true (run_length x) n p.0))

-- the lines of a conflict in Git's style
pub git_parsed : (n sides : ℕ) (start end label left base right : List ℕ) → 0 < n
    → IsMarkerByte 124 → IsMarkerByte 61
    → has_note start ≡ not (is_terminated left) → has_note end ≡ not (is_terminated right)
    → IsUnmarkedTerm n left → IsUnmarkedTerm n base → IsUnmarkedTerm n right
    → has_sides sides 2 ≡ true
    → terms_after n sides start (split_lines (terminated left ++ (section n 124 label base
    ++ (marker_line 61 n [] false ++ terminated right)))) end
    ≡ Some (left ∷ base ∷ right ∷ [])
git_parsed n sides start end label left base right h bar equals from to unl unb unr sided =
    let f : Terms → List ℕ → Terms = with_line n true in
    let note : Bool = not (is_terminated base) in
    let second : List ℕ = section n 124 label base in
    let third : List ℕ = marker_line 61 n [] false ++ terminated right in
    let a : List (List ℕ) = split_lines (terminated left) in
    let b : List (List ℕ) = split_lines second in
    let c : List (List ℕ) = split_lines third in
    let s1 : Terms = terms_at [] (terminated left) (not (is_terminated left)) true in
    let s2 : Terms = terms_at (left ∷ []) (terminated base) note true in
    let lines : split_lines (terminated left ++ (second ++ third)) ≡ a ++ (b ++ c)
    = split-append (terminated left) (second ++ third) (is_terminated-terminated left)
    ∙ ap (λ ls. a ++ ls) (split-append second third
    (is_terminated-section n 124 label base)) in
    let git : is_git_style n (a ++ (b ++ c)) ≡ true
    = ap (λ ls. is_git_style n (a ++ (ls ++ c)))
    (split-block n 124 label note (terminated base) bar)
    ∙ git_style-text n a (marker_line 124 n label note) (split_lines (terminated base) ++ c)
    unl (marker_of-marker 124 n label note bar h) in
    let one : fold f (first_term start) a ≡ s1
    = with_lines-text n true (first_term start) a unl
    ∙ ap (λ x. terms_at [] x (has_note start) true)
    (concat-split (terminated left))
    ∙ ap (λ v. terms_at [] (terminated left) v true)
    from in
    let two : fold f s1 b ≡ s2
    = with_block n true s1 124 label note (terminated base) bar h refl refl unb
    ∙ ap (λ x. terms_at (x ∷ []) (terminated base) note true) (term_of-section left) in
    let three : fold f s2 c ≡ terms_at (left ∷ base ∷ []) (terminated right) false true
    = with_block n true s2 61 [] false (terminated right) equals h refl refl unr
    ∙ ap (λ x. terms_at (left ∷ x ∷ []) (terminated right) false true) (term_of-section base) in
    ap (λ ls. terms_after n sides start ls end) lines
    ∙ git_style n sides start (a ++ (b ++ c)) end git
    ∙ ap (λ v. finished_terms sides true v end)
    (fold-append f (first_term start) a (b ++ c) ∙ ap (λ u. fold f u (b ++ c)) one
    ∙ fold-append f s1 b c ∙ ap (λ u. fold f u c) two ∙ three)
    ∙ cond_true (has_sides sides 2)
    (Some (left ∷ base ∷ term_of (has_note end) (terminated right) ∷ [])) None sided
    ∙ ap (λ v. Some (left ∷ base ∷ term_of v (terminated right) ∷ [])) to
    ∙ ap (λ x. Some (left ∷ base ∷ x ∷ [])) (term_of-section right)
