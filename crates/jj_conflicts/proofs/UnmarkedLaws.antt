-- No line is a marker if markers are longer than the longest run.
use Rattle.std.proofs.Common.{◌≡◌, ℕ, ◌+◌, ◌-◌, ◌<◌, ◌≤◌, max, Bool, true, false, cond, ◌==◌, nat_lt, List, [], ◌∷◌, ◌++◌, length, fold, refl, sym, ap, ◌∙◌, inl, inr, arith, ne_eqb, lt-ltb, true≢false, le_trans}
use Rattle.std.proofs.lemmas.Bool.{cases_eq, cases_Bool, and_from, and_parts, eqb-false}
use Rattle.std.specs.List.{list_all, prefix_len, AllByRecursion}
use Rattle.jj_conflicts.specs.Lines.{prepended, split_lines, is_terminated}
use Rattle.jj_conflicts.specs.Markers.{is_marker_byte, run_length, longest_run, marker_len_of_terms, chosen_marker_len}
use Rattle.jj_conflicts.specs.Conditions.{IsUnmarked, IsUnmarkedTerm, IsParsable, IsMergeOfLines, run_limit}
use Rattle.jj_conflicts.specs.declared.conflicts.ConflictMarkerStyle.{ConflictMarkerStyle}
use Rattle.jj_conflicts.specs.declared.conflicts.ConflictMarkerStyle.TheVariants.{Diff, Snapshot, Git}
use Rattle.jj_conflicts.proofs.Booleans.{cond_true, cond_false}
use Rattle.jj_conflicts.proofs.LineLaws.{split-newline, split-other, split-nonempty}

-- ---- the longest run

above_start : (a : ℕ) (lines : List (List ℕ))
    → a ≤ fold (λ longest line. max longest (run_length line)) a lines
above_start a [] = omega arith
above_start a (line ∷ lines) =
    let more : max a (run_length line)
    ≤ fold (λ longest l. max longest (run_length l)) (max a (run_length line)) lines
    = above_start (max a (run_length line)) lines in
    omega (arith, more)

runs_below : (a n : ℕ) (lines : List (List ℕ))
    → fold (λ longest line. max longest (run_length line)) a lines < n
    → list_all (λ line. nat_lt (run_length line) n) lines ≡ true
runs_below a n [] h = refl
runs_below a n (line ∷ lines) h =
    let more : max a (run_length line)
    ≤ fold (λ longest l. max longest (run_length l)) (max a (run_length line)) lines
    = above_start (max a (run_length line)) lines in
    and_from (nat_lt (run_length line) n) (list_all (λ l. nat_lt (run_length l) n) lines)
    (lt-ltb (run_length line) n (omega (arith, more, h)))
    (runs_below (max a (run_length line)) n lines h)

-- ---- an LF after the last line

abbrev pub ended : List (List ℕ) → List (List ℕ)
ended [] = []
ended (line ∷ []) = (line ++ 10 ∷ []) ∷ []
ended (line ∷ l ∷ lines) = line ∷ ended (l ∷ lines)

ended-cons : (line : List ℕ) (lines : List (List ℕ)) → 0 < length lines
    → line ∷ ended lines ≡ ended (line ∷ lines)
ended-cons line [] h = absurd (omega arith)
ended-cons line (l ∷ lines) h = refl

prepended-ended : (b : ℕ) (lines : List (List ℕ)) → 0 < length lines
    → prepended b (ended lines) ≡ ended (prepended b lines)
prepended-ended b [] h = absurd (omega arith)
prepended-ended b (line ∷ []) h = refl
prepended-ended b (line ∷ l ∷ lines) h = refl

split-end : (text : List ℕ) → is_terminated text ≡ false
    → split_lines (text ++ 10 ∷ []) ≡ ended (split_lines text)
split-end [] t = absurd (true≢false t)
split-end (b ∷ []) t =
    let n : b ≡ 10 → ⊥ = eqb-false b 10 t in
    split-other b (10 ∷ []) n ∙ sym (ap ended (split-other b [] n))
split-end (b ∷ c ∷ bs) t =
    elim (cases_eq b 10) [
      | inl e ↦ split-newline b (c ∷ (bs ++ 10 ∷ [])) e
          ∙ ap (λ ls. (b ∷ []) ∷ ls) (split-end (c ∷ bs) t)
          ∙ ended-cons (b ∷ []) (split_lines (c ∷ bs)) (split-nonempty c bs)
          ∙ sym (ap ended (split-newline b (c ∷ bs) e))
      | inr n ↦ split-other b (c ∷ (bs ++ 10 ∷ [])) n
          ∙ ap (prepended b) (split-end (c ∷ bs) t)
          ∙ prepended-ended b (split_lines (c ∷ bs)) (split-nonempty c bs)
          ∙ sym (ap ended (split-other b (c ∷ bs) n))
    ]

prefix_len-end : (p : ℕ → Bool) (xs : List ℕ) → p 10 ≡ false
    → prefix_len p (xs ++ 10 ∷ []) ≡ prefix_len p xs
prefix_len-end p [] h = cond_false (p 10) 1 0 h
prefix_len-end p (x ∷ xs) h = ap (λ r. cond (p x) (1 + r) 0) (prefix_len-end p xs h)

run_length-end : (line : List ℕ) → run_length (line ++ 10 ∷ []) ≡ run_length line
run_length-end [] = refl
run_length-end (b ∷ bs) =
    elim (cases_eq b 10) [
      | inl e ↦
          cond_false (is_marker_byte b) (prefix_len (λ c. c == b) (b ∷ (bs ++ 10 ∷ []))) 0
          (ap is_marker_byte e)
          ∙ sym (cond_false (is_marker_byte b) (prefix_len (λ c. c == b) (b ∷ bs)) 0
          (ap is_marker_byte e))
      | inr n ↦
          ap (λ r. cond (is_marker_byte b) r 0)
          (prefix_len-end (λ c. c == b) (b ∷ bs) (ne_eqb 10 b (λ e. n (sym e))))
    ]

runs-ended : (n : ℕ) (lines : List (List ℕ))
    → list_all (λ line. nat_lt (run_length line) n) lines ≡ true
    → list_all (λ line. nat_lt (run_length line) n) (ended lines) ≡ true
runs-ended n [] h = refl
runs-ended n (line ∷ []) h =
    let p : (nat_lt (run_length line) n ≡ true) × (true ≡ true)
    = and_parts (nat_lt (run_length line) n) true h in
    and_from (nat_lt (run_length (line ++ 10 ∷ [])) n) true
    (ap (λ r. nat_lt r n) (run_length-end line) ∙ p.0) refl
runs-ended n (line ∷ l ∷ lines) h =
    let p : (nat_lt (run_length line) n ≡ true)
    × (list_all (λ m. nat_lt (run_length m) n) (l ∷ lines) ≡ true)
    = and_parts (nat_lt (run_length line) n)
    (list_all (λ m. nat_lt (run_length m) n) (l ∷ lines)) h in
    and_from (nat_lt (run_length line) n)
    (list_all (λ m. nat_lt (run_length m) n) (ended (l ∷ lines))) p.0
    (runs-ended n (l ∷ lines) p.1)

pub unmarked : (n : ℕ) (text : List ℕ) → longest_run text < n → IsUnmarked n text
unmarked n text h = runs_below 0 n (split_lines text) h

pub unmarked_term : (n : ℕ) (text : List ℕ) → longest_run text < n → IsUnmarkedTerm n text
unmarked_term n text h =
    elim (cases_Bool (is_terminated text)) [
      | inl e ↦ ap (λ x. list_all (λ line. nat_lt (run_length line) n) (split_lines x))
          (cond_true (is_terminated text) text (text ++ 10 ∷ []) e) ∙ unmarked n text h
      | inr e ↦ ap (λ x. list_all (λ line. nat_lt (run_length line) n) (split_lines x))
          (cond_false (is_terminated text) text (text ++ 10 ∷ []) e)
          ∙ ap (list_all (λ line. nat_lt (run_length line) n)) (split-end text e)
          ∙ runs-ended n (split_lines text) (unmarked n text h)
    ]

-- ---- the chosen length

above_least : (n : ℕ) (terms : List (List ℕ)) → n ≤ marker_len_of_terms n terms
above_least n [] = omega arith
above_least n (t ∷ terms) =
    let more : max n (longest_run t + 2)
    ≤ marker_len_of_terms (max n (longest_run t + 2)) terms
    = above_least (max n (longest_run t + 2)) terms in
    omega (arith, more)

above_all : (n : ℕ) (hunks : List (List (List ℕ))) → n ≤ fold marker_len_of_terms n hunks
above_all n [] = omega arith
above_all n (terms ∷ hunks) =
    let more : marker_len_of_terms n terms
    ≤ fold marker_len_of_terms (marker_len_of_terms n terms) hunks
    = above_all (marker_len_of_terms n terms) hunks in
    omega (arith, more, above_least n terms)

terms_below : (n m : ℕ) (terms : List (List ℕ)) → marker_len_of_terms n terms ≤ m + 1
    → AllByRecursion (λ t. longest_run t < m) terms
terms_below n m [] h = tt
terms_below n m (t ∷ terms) h =
    let more : max n (longest_run t + 2)
    ≤ marker_len_of_terms (max n (longest_run t + 2)) terms
    = above_least (max n (longest_run t + 2)) terms in
    (omega (arith, more, h), terms_below (max n (longest_run t + 2)) m terms h)

unmarked_terms : (m : ℕ) (terms : List (List ℕ)) → AllByRecursion (λ t. longest_run t < m) terms
    → AllByRecursion (IsUnmarkedTerm m) terms
unmarked_terms m [] h = tt
unmarked_terms m (t ∷ terms) h = (unmarked_term m t h.0, unmarked_terms m terms h.1)

parsable_from : (n m sides : ℕ) (hunks : List (List (List ℕ)))
    → fold marker_len_of_terms n hunks ≤ m + 1 → IsMergeOfLines sides hunks
    → IsParsable m sides hunks
parsable_from n m sides [] h ok = tt
parsable_from n m sides ((text ∷ []) ∷ hunks) h ok =
    let k : ℕ = marker_len_of_terms n (text ∷ []) in
    let above : k ≤ fold marker_len_of_terms k hunks = above_all k hunks in
    let whole : fold marker_len_of_terms k hunks ≤ m + 1 = h in
    let below : AllByRecursion (λ t. longest_run t < m) (text ∷ [])
    = terms_below n m (text ∷ []) (le_trans above whole) in
    (unmarked m text below.0, ok.0, parsable_from k m sides hunks h ok.1)
parsable_from n m sides ([] ∷ hunks) h ok = absurd (omega (arith, ok.0))
parsable_from n m sides ((a ∷ b ∷ terms) ∷ hunks) h ok =
    let k : ℕ = marker_len_of_terms n (a ∷ b ∷ terms) in
    let above : k ≤ fold marker_len_of_terms k hunks = above_all k hunks in
    let whole : fold marker_len_of_terms k hunks ≤ m + 1 = h in
    let below : AllByRecursion (λ t. longest_run t < m) (a ∷ b ∷ terms)
    = terms_below n m (a ∷ b ∷ terms) (le_trans above whole) in
    (ok.0, unmarked_terms m (a ∷ b ∷ terms) below, parsable_from k m sides hunks h ok.1)

pub parsable : (style : ConflictMarkerStyle) (sides : ℕ) (hunks : List (List (List ℕ)))
    → IsMergeOfLines sides hunks
    → IsParsable (run_limit style (chosen_marker_len hunks)) sides hunks
parsable Diff sides hunks ok = parsable_from 7 (chosen_marker_len hunks - 1) sides hunks
    (omega (arith, above_all 7 hunks)) ok
parsable Snapshot sides hunks ok =
    parsable_from 7 (chosen_marker_len hunks) sides hunks (omega arith) ok
parsable Git sides hunks ok =
    parsable_from 7 (chosen_marker_len hunks) sides hunks (omega arith) ok

pub chosen_positive : (hunks : List (List (List ℕ))) → 0 < chosen_marker_len hunks
chosen_positive hunks = omega (arith, above_all 7 hunks)
