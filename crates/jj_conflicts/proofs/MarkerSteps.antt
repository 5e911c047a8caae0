-- Tests of a line, as the code makes them.
use Rattle.std.proofs.Common.{◌≡◌, ℕ, zero, suc, ◌<◌, ◌≤◌, true, false, ◌&&◌, ◌==◌, nat_lt, nat_le, List, [], ◌∷◌, length, get_or, drop, refl, ap, ◌∙◌, arith, lt-ltb, le-leb, le-ltb}
use Rattle.std.proofs.lemmas.Bool.{and_from, and_left, and_right}
use Rattle.std.proofs.lemmas.List.{drop_all}
use Rattle.std.specs.List.{prefix_len}
use Rattle.std.specs.Char.{is_ascii_whitespace}
use Rattle.jj_conflicts.specs.Markers.{is_marker_byte, run_length, is_blank_next, first_or_zero, is_marker, marker_of}
use Rattle.jj_conflicts.proofs.Booleans.{cond_true, cond_false}
use Rattle.jj_conflicts.proofs.MarkerLaws.{marker_of-other}

pub run_empty : (line : List ℕ) → length line ≡ 0 → run_length line ≡ 0
run_empty [] h = refl
run_empty (b ∷ bs) h = absurd (omega arith)

pub run_other : (line : List ℕ) → is_marker_byte (get_or line 0 0) ≡ false → run_length line ≡ 0
run_other [] h = refl
run_other (b ∷ bs) h =
    cond_false (is_marker_byte b) (prefix_len (λ c. c == b) (b ∷ bs)) 0 h

pub run_marked : (line : List ℕ) → is_marker_byte (get_or line 0 0) ≡ true
    → run_length line ≡ prefix_len (λ c. c == get_or line 0 0) line
run_marked [] h = refl
run_marked (b ∷ bs) h =
    cond_true (is_marker_byte b) (prefix_len (λ c. c == b) (b ∷ bs)) 0 h

blank_at : (line : List ℕ) (i : ℕ) → i < length line
    → is_blank_next (drop i line) ≡ is_ascii_whitespace (get_or line i 0)
blank_at [] i h = absurd (omega arith)
blank_at (b ∷ bs) zero h = refl
blank_at (b ∷ bs) (suc i) h = blank_at bs i (omega arith)

first_at : (line : List ℕ) → first_or_zero line ≡ get_or line 0 0
first_at [] = refl
first_at (b ∷ bs) = refl

pub marker_none : (n : ℕ) (line : List ℕ) → run_length line ≡ 0 → marker_of n line ≡ 0
marker_none n line h =
    cond_false (is_marker n line) (first_or_zero line) 0
    (and_left (nat_lt 0 (run_length line) && nat_le n (run_length line))
    (is_blank_next (drop (run_length line) line))
    (and_left (nat_lt 0 (run_length line)) (nat_le n (run_length line))
    (le-ltb 0 (run_length line) (omega (arith, h)))))

pub marker_short : (n : ℕ) (line : List ℕ) → run_length line < n → marker_of n line ≡ 0
marker_short n line h = marker_of-other n line h

pub marker_text : (n : ℕ) (line : List ℕ) → run_length line < length line
    → is_ascii_whitespace (get_or line (run_length line) 0) ≡ false → marker_of n line ≡ 0
marker_text n line h w =
    cond_false (is_marker n line) (first_or_zero line) 0
    (and_right (nat_lt 0 (run_length line) && nat_le n (run_length line))
    (is_blank_next (drop (run_length line) line)) (blank_at line (run_length line) h ∙ w))

marked : (n : ℕ) (line : List ℕ) → 0 < run_length line → n ≤ run_length line
    → is_blank_next (drop (run_length line) line) ≡ true → marker_of n line ≡ get_or line 0 0
marked n line p h b =
    cond_true (is_marker n line) (first_or_zero line) 0
    (and_from (nat_lt 0 (run_length line) && nat_le n (run_length line))
    (is_blank_next (drop (run_length line) line))
    (and_from (nat_lt 0 (run_length line)) (nat_le n (run_length line))
    (lt-ltb 0 (run_length line) p) (le-leb n (run_length line) h)) b)
    ∙ first_at line

pub marker_end : (n : ℕ) (line : List ℕ) → 0 < run_length line → n ≤ run_length line
    → length line ≤ run_length line → marker_of n line ≡ get_or line 0 0
marker_end n line p h e =
    marked n line p h (ap is_blank_next (drop_all (run_length line) line e))

pub marker_space : (n : ℕ) (line : List ℕ) → 0 < run_length line → n ≤ run_length line
    → run_length line < length line
    → is_ascii_whitespace (get_or line (run_length line) 0) ≡ true
    → marker_of n line ≡ get_or line 0 0
marker_space n line p h l w = marked n line p h (blank_at line (run_length line) l ∙ w)
