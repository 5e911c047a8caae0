-- Marker lines as the parser reads them.
use Rattle.std.proofs.Common.{◌≡◌, ℕ, zero, suc, ◌+◌, ◌-◌, ◌<◌, Bool, true, false, cond, not, ◌&&◌, ◌||◌, ◌==◌, nat_eq, nat_lt, nat_le, List, [], ◌∷◌, ◌++◌, length, drop, replicate, refl, sym, ap, ◌∙◌, inl, inr, arith, eq-eqb, ne_eqb, lt-ltb, le-leb, append-nil, append_assoc, length-append}
use Rattle.std.proofs.lemmas.Bool.{cases_Bool, and_from, and_parts, and_left, and_right, not-true, lt-leb, eqb-false}
use Rattle.std.proofs.Math.Seq.{drop-append_seam}
use Rattle.std.specs.Cmp.Lexicographic.{pointwise}
use Rattle.std.specs.List.{list_any, list_all, prefix_len, ends_with}
use Rattle.jj_conflicts.specs.Lines.{split_lines, is_terminated}
use Rattle.jj_conflicts.specs.Markers.{is_marker_byte, run_length, is_blank_next, first_or_zero, is_marker, marker_of, note, has_note, is_shown, shown_label, note_if, marker_line}
use Rattle.jj_conflicts.proofs.Booleans.{cond_true, cond_false, or_false}
use Rattle.jj_conflicts.proofs.LineLaws.{split-line, terminated-push}

-- a marker character
pub record IsMarkerByte (byte : ℕ) : Type 0 where
  pub marker : is_marker_byte byte ≡ true
  pub no_space : (32 == byte) ≡ false
  pub no_newline : (10 == byte) ≡ false
  pub newline : (byte == 10) ≡ false
  pub space : (byte == 32) ≡ false

prefix_len-run : (byte n : ℕ) (tail : List ℕ) → prefix_len (λ c. c == byte) tail ≡ 0
    → prefix_len (λ c. c == byte) (replicate n byte ++ tail) ≡ n
prefix_len-run byte zero tail h = h
prefix_len-run byte (suc n) tail h =
    cond_true (byte == byte) (1 + prefix_len (λ c. c == byte) (replicate n byte ++ tail)) 0
    (eq-eqb byte byte refl)
    ∙ ap (λ r. 1 + r) (prefix_len-run byte n tail h) ∙ omega arith

drop-run : (byte n : ℕ) (tail : List ℕ) → drop n (replicate n byte ++ tail) ≡ tail
drop-run byte zero tail = refl
drop-run byte (suc n) tail = drop-run byte n tail

run-length-run : (byte n : ℕ) (tail : List ℕ) → IsMarkerByte byte
    → prefix_len (λ c. c == byte) tail ≡ 0
    → run_length (replicate (suc n) byte ++ tail) ≡ suc n
run-length-run byte n tail is h =
    cond_true (is_marker_byte byte)
    (prefix_len (λ c. c == byte) (replicate (suc n) byte ++ tail)) 0 is.marker
    ∙ prefix_len-run byte (suc n) tail h

marker_of-run : (byte n : ℕ) (tail : List ℕ) → IsMarkerByte byte
    → prefix_len (λ c. c == byte) tail ≡ 0 → is_blank_next tail ≡ true
    → marker_of (suc n) (replicate (suc n) byte ++ tail) ≡ byte
marker_of-run byte n tail is h blank =
    let line : List ℕ = replicate (suc n) byte ++ tail in
    let e : run_length line ≡ suc n = run-length-run byte n tail is h in
    let b : is_blank_next (drop (run_length line) line) ≡ true
    = ap (λ k. is_blank_next (drop k line)) e ∙ ap is_blank_next (drop-run byte (suc n) tail)
    ∙ blank in
    cond_true (is_marker (suc n) line) (first_or_zero line) 0
    (and_from (nat_lt 0 (run_length line) && nat_le (suc n) (run_length line))
    (is_blank_next (drop (run_length line) line))
    (and_from (nat_lt 0 (run_length line)) (nat_le (suc n) (run_length line))
    (lt-ltb 0 (run_length line) (omega (arith, e)))
    (le-leb (suc n) (run_length line) (omega (arith, e)))) b)

head-other : (byte b : ℕ) (x : List ℕ) → (b == byte) ≡ false
    → prefix_len (λ c. c == byte) (b ∷ x) ≡ 0
head-other byte b x h = cond_false (b == byte) (1 + prefix_len (λ c. c == byte) x) 0 h

tail-prefix : (byte : ℕ) (shown noted : Bool) (label : List ℕ) → IsMarkerByte byte
    → prefix_len (λ c. c == byte) (cond shown (32 ∷ label) [] ++ (cond noted note [] ++ 10 ∷ [])) ≡ 0
tail-prefix byte true noted label is =
    head-other byte 32 (label ++ (cond noted note [] ++ 10 ∷ [])) is.no_space
tail-prefix byte false true label is =
    head-other byte 32 (drop 1 note ++ 10 ∷ []) is.no_space
tail-prefix byte false false label is = head-other byte 10 [] is.no_newline

tail-blank : (shown noted : Bool) (label : List ℕ)
    → is_blank_next (cond shown (32 ∷ label) [] ++ (cond noted note [] ++ 10 ∷ [])) ≡ true
tail-blank true noted label = refl
tail-blank false true label = refl
tail-blank false false label = refl

regrouped : (a b c d : List ℕ) → ((a ++ b) ++ c) ++ d ≡ a ++ (b ++ (c ++ d))
regrouped a b c d = append_assoc (a ++ b) c d ∙ append_assoc a b (c ++ d)

pub marker_of-marker : (byte n : ℕ) (label : List ℕ) (noted : Bool) → IsMarkerByte byte → 0 < n
    → marker_of n (marker_line byte n label noted) ≡ byte
marker_of-marker byte zero label noted is h = absurd (omega arith)
marker_of-marker byte (suc n) label noted is h =
    let shown : Bool = is_shown byte (suc n) label in
    ap (marker_of (suc n)) (regrouped (replicate (suc n) byte) (shown_label byte (suc n) label)
    (note_if noted) (10 ∷ []))
    ∙ marker_of-run byte n (shown_label byte (suc n) label ++ (note_if noted ++ 10 ∷ [])) is (tail-prefix byte shown noted label is)
    (tail-blank shown noted label)

-- ---- one line

none-append : (x y : List ℕ) → list_any (λ b. b == 10) x ≡ false
    → list_any (λ b. b == 10) y ≡ false → list_any (λ b. b == 10) (x ++ y) ≡ false
none-append [] y h k = k
none-append (b ∷ x) y h k =
    let p : ((b == 10) ≡ false) × (list_any (λ c. c == 10) x ≡ false)
    = or_false (b == 10) (list_any (λ c. c == 10) x) h in
    ap (λ v. v || list_any (λ c. c == 10) (x ++ y)) p.0 ∙ none-append x y p.1 k

none-run : (byte n : ℕ) → (byte == 10) ≡ false
    → list_any (λ b. b == 10) (replicate n byte) ≡ false
none-run byte zero h = refl
none-run byte (suc n) h =
    ap (λ v. v || list_any (λ c. c == 10) (replicate n byte)) h ∙ none-run byte n h

-- the result of testing a label that is written
shown_parts : (byte n : ℕ) (label : List ℕ) → is_shown byte n label ≡ true
    → (list_any (λ b. b == 10) label ≡ false)
    × (has_note (replicate n byte ++ 32 ∷ [] ++ label ++ 10 ∷ []) ≡ false)
shown_parts byte n label e =
    let nonempty : Bool = nat_lt 0 (length label) in
    let one : Bool = not (list_any (λ b. b == 10) label) in
    let other : Bool = not (has_note (replicate n byte ++ 32 ∷ [] ++ label ++ 10 ∷ [])) in
    let p : ((nonempty && one) ≡ true) × (other ≡ true) = and_parts (nonempty && one) other e in
    let q : (nonempty ≡ true) × (one ≡ true) = and_parts nonempty one p.0 in (
      not-true (list_any (λ b. b == 10) label) q.1,
      not-true (has_note (replicate n byte ++ 32 ∷ [] ++ label ++ 10 ∷ [])) p.1,
    )

none-shown : (byte n : ℕ) (label : List ℕ)
    → list_any (λ b. b == 10) (shown_label byte n label) ≡ false
none-shown byte n label =
    elim (cases_Bool (is_shown byte n label)) [
      | inl e ↦
          ap (list_any (λ b. b == 10)) (cond_true (is_shown byte n label) (32 ∷ label) [] e)
          ∙ (shown_parts byte n label e).0
      | inr e ↦ ap (list_any (λ b. b == 10)) (cond_false (is_shown byte n label) (32 ∷ label) [] e)
    ]

none-note : (noted : Bool) → list_any (λ b. b == 10) (note_if noted) ≡ false
none-note true = refl
none-note false = refl

pub split-marker : (byte n : ℕ) (label : List ℕ) (noted : Bool) → IsMarkerByte byte
    → split_lines (marker_line byte n label noted) ≡ marker_line byte n label noted ∷ []
split-marker byte n label noted is =
    split-line (replicate n byte ++ shown_label byte n label ++ note_if noted)
    (none-append (replicate n byte ++ shown_label byte n label) (note_if noted)
    (none-append (replicate n byte) (shown_label byte n label) (none-run byte n is.newline)
    (none-shown byte n label)) (none-note noted))

pub is_terminated-marker : (byte n : ℕ) (label : List ℕ) (noted : Bool)
    → is_terminated (marker_line byte n label noted) ≡ true
is_terminated-marker byte n label noted =
    terminated-push (replicate n byte ++ shown_label byte n label ++ note_if noted)

-- ---- notes

ends_with-append : (x s : List ℕ) → pointwise nat_eq s s ≡ true
    → ends_with nat_eq (x ++ s) s ≡ true
ends_with-append x s same =
    let e : length (x ++ s) - length s ≡ length x = omega (arith, length-append x s) in
    ap (λ k. pointwise nat_eq s (drop k (x ++ s))) e
    ∙ ap (pointwise nat_eq s) (drop-append_seam x s) ∙ same

-- no byte is a space
no-space-run : (byte n : ℕ) → (byte == 32) ≡ false
    → list_all (λ b. not (b == 32)) (replicate n byte ++ 10 ∷ []) ≡ true
no-space-run byte zero h = refl
no-space-run byte (suc n) h =
    ap (λ v. not v && list_all (λ b. not (b == 32)) (replicate n byte ++ 10 ∷ [])) h
    ∙ no-space-run byte n h

no-space-drop : (k : ℕ) (x : List ℕ) → list_all (λ b. not (b == 32)) x ≡ true
    → list_all (λ b. not (b == 32)) (drop k x) ≡ true
no-space-drop zero x h = h
no-space-drop (suc k) [] h = refl
no-space-drop (suc k) (b ∷ x) h = no-space-drop k x
    (and_parts (not (b == 32)) (list_all (λ c. not (c == 32)) x) h).1

no-space-head : (b : ℕ) (x : List ℕ) → list_all (λ c. not (c == 32)) (b ∷ x) ≡ true
    → (32 == b) ≡ false
no-space-head b x h =
    let p : (not (b == 32) ≡ true) × (list_all (λ c. not (c == 32)) x ≡ true)
    = and_parts (not (b == 32)) (list_all (λ c. not (c == 32)) x) h in
    ne_eqb 32 b (λ e. eqb-false b 32 (not-true (b == 32) p.0) (sym e))

starts-otherwise : (s x : List ℕ) → list_all (λ b. not (b == 32)) x ≡ true
    → pointwise nat_eq (32 ∷ s) x ≡ false
starts-otherwise s [] h = refl
starts-otherwise s (b ∷ x) h =
    and_left (32 == b) (pointwise nat_eq s x) (no-space-head b x h)

has_note-run : (byte n : ℕ) → (byte == 32) ≡ false
    → has_note (replicate n byte ++ 10 ∷ []) ≡ false
has_note-run byte n h =
    starts-otherwise (drop 1 note ++ 10 ∷ []) (drop (length (replicate n byte ++ 10 ∷ []) - 26)
    (replicate n byte ++ 10 ∷ []))
    (no-space-drop (length (replicate n byte ++ 10 ∷ []) - 26) (replicate n byte ++ 10 ∷ [])
    (no-space-run byte n h))

has_note-without : (byte n : ℕ) (label : List ℕ) → IsMarkerByte byte
    → has_note ((replicate n byte ++ shown_label byte n label) ++ 10 ∷ []) ≡ false
has_note-without byte n label is =
    elim (cases_Bool (is_shown byte n label)) [
      | inl e ↦
          ap (λ x. has_note ((replicate n byte ++ x) ++ 10 ∷ []))
          (cond_true (is_shown byte n label) (32 ∷ label) [] e)
          ∙ ap (λ x. has_note (x ++ 10 ∷ []))
          (sym (append_assoc (replicate n byte) (32 ∷ []) label))
          ∙ (shown_parts byte n label e).1
      | inr e ↦
          ap (λ x. has_note ((replicate n byte ++ x) ++ 10 ∷ []))
          (cond_false (is_shown byte n label) (32 ∷ label) [] e)
          ∙ ap (λ x. has_note (x ++ 10 ∷ [])) (append-nil (replicate n byte))
          ∙ has_note-run byte n is.space
    ]

pub has_note-marker : (byte n : ℕ) (label : List ℕ) (noted : Bool) → IsMarkerByte byte
    → has_note (marker_line byte n label noted) ≡ noted
has_note-marker byte n label true is =
    ap has_note (append_assoc (replicate n byte ++ shown_label byte n label) note (10 ∷ []))
    ∙ ends_with-append (replicate n byte ++ shown_label byte n label) (note ++ 10 ∷ []) refl
has_note-marker byte n label false is =
    ap (λ x. has_note (x ++ 10 ∷ [])) (append-nil (replicate n byte ++ shown_label byte n label))
    ∙ has_note-without byte n label is

-- ---- lines that are no markers

pub marker_of-other : (n : ℕ) (line : List ℕ) → run_length line < n → marker_of n line ≡ 0
marker_of-other n line h =
    cond_false (is_marker n line) (first_or_zero line) 0
    (and_left (nat_lt 0 (run_length line) && nat_le n (run_length line))
    (is_blank_next (drop (run_length line) line))
    (and_right (nat_lt 0 (run_length line)) (nat_le n (run_length line))
    (lt-leb n (run_length line) h)))
