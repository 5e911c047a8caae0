-- Steps of the parser of the diff style, as the code makes them.
use Rattle.std.proofs.Common.{◌≡◌, ℕ, ◌%◌, Bool, true, false, cond, not, ◌&&◌, ◌||◌, ◌==◌, List, [], ◌∷◌, ◌++◌, length, drop, get_or, refl, sym, ap, ◌∙◌, arith, eq-eqb, ne_eqb, append-nil, append_assoc, Vec, Global, Some, None}
use Rattle.jj_conflicts.specs.Contents.{merge_contents}
use Rattle.std.proofs.lemmas.Bool.{and_from, and_right}
use Rattle.jj_conflicts.specs.Markers.{marker_of, has_note}
use Rattle.jj_conflicts.specs.Parsing.{Sections, is_odd, section_terms, done_terms, is_section_byte, with_section, with_diff_line, with_section_line, has_terms, sections_outcome}
use Rattle.jj_conflicts.proofs.Booleans.{cond_true, cond_false}
use Rattle.jj_conflicts.proofs.StateLaws.{contents_push, length_contents}

-- ---- a section's terms

pub no_section : (terms : List (List ℕ)) (byte : ℕ) (odd : Bool) (base side : List ℕ) → byte ≡ 0
    → terms ≡ terms ++ section_terms byte odd base side
no_section terms byte odd base side e =
    sym (ap (λ b. terms ++ section_terms b odd base side) e ∙ append-nil terms)

pub shown_side : (terms : List (Vec ℕ Global)) (byte : ℕ) (odd : Bool) (base : List ℕ) (side : Vec ℕ Global)
    → byte ≡ 43 → merge_contents (terms ++ side ∷ []) ≡ merge_contents terms ++ section_terms byte odd base side.items
shown_side terms byte odd base side e =
    contents_push terms side ∙ sym (ap (λ b. merge_contents terms ++ section_terms b odd base side.items) e)

two-pushed : (terms : List (Vec ℕ Global)) (a b : Vec ℕ Global)
    → merge_contents ((terms ++ a ∷ []) ++ b ∷ []) ≡ merge_contents terms ++ a.items ∷ b.items ∷ []
two-pushed terms a b =
    contents_push (terms ++ a ∷ []) b ∙ ap (λ x. x ++ b.items ∷ []) (contents_push terms a)
    ∙ append_assoc (merge_contents terms) (a.items ∷ []) (b.items ∷ [])

compared : (byte : ℕ) (odd : Bool) (base side : List ℕ) → (byte ≡ 0 → ⊥) → (byte ≡ 43 → ⊥)
    → section_terms byte odd base side ≡ cond odd (base ∷ side ∷ []) (side ∷ base ∷ [])
compared byte odd base side h k =
    cond_false (byte == 0) [] (cond (byte == 43) (side ∷ []) (cond odd (base ∷ side ∷ []) (side ∷ base ∷ [])))
    (ne_eqb byte 0 h)
    ∙ cond_false (byte == 43) (side ∷ []) (cond odd (base ∷ side ∷ []) (side ∷ base ∷ [])) (ne_eqb byte 43 k)

pub base_first : (terms : List (Vec ℕ Global)) (byte : ℕ) (base side : Vec ℕ Global)
    → (byte ≡ 0 → ⊥) → (byte ≡ 43 → ⊥) → length terms % 2 ≡ 1
    → merge_contents ((terms ++ base ∷ []) ++ side ∷ [])
    ≡ merge_contents terms ++ section_terms byte (is_odd (length terms)) base.items side.items
base_first terms byte base side h k e =
    two-pushed terms base side
    ∙ sym (ap (λ x. merge_contents terms ++ x) (compared byte (is_odd (length terms)) base.items side.items h k
    ∙ cond_true (is_odd (length terms)) (base.items ∷ side.items ∷ []) (side.items ∷ base.items ∷ []) (eq-eqb (length terms % 2) 1 e)))

pub side_first : (terms : List (Vec ℕ Global)) (byte : ℕ) (base side : Vec ℕ Global)
    → (byte ≡ 0 → ⊥) → (byte ≡ 43 → ⊥) → (length terms % 2 ≡ 1 → ⊥)
    → merge_contents ((terms ++ side ∷ []) ++ base ∷ [])
    ≡ merge_contents terms ++ section_terms byte (is_odd (length terms)) base.items side.items
side_first terms byte base side h k e =
    two-pushed terms side base
    ∙ sym (ap (λ x. merge_contents terms ++ x) (compared byte (is_odd (length terms)) base.items side.items h k
    ∙ cond_false (is_odd (length terms)) (base.items ∷ side.items ∷ []) (side.items ∷ base.items ∷ []) (ne_eqb (length terms % 2) 1 e)))

-- ---- a line of a comparison

pub diff_empty : (s : Sections) (line : List ℕ) → length line ≡ 0 → s ≡ with_diff_line s line
diff_empty s [] h = refl
diff_empty s (b ∷ bs) h = absurd (omega arith)

-- the choice by the first byte
abbrev by_first : Sections → ℕ → List ℕ → Sections
by_first s b bs =
    cond (b == 32) (record s { base = s.base ++ bs; side = s.side ++ bs })
    (cond (b == 45) (record s { base = s.base ++ bs })
    (cond (b == 43) (record s { side = s.side ++ bs })
    (cond (b == 10) (record s { base = s.base ++ b ∷ bs; side = s.side ++ b ∷ bs })
    (record s { valid = false }))))

pub diff_both : (s : Sections) (line : List ℕ) (byte : ℕ) → (length line ≡ 0 → ⊥)
    → byte ≡ get_or line 0 byte → byte ≡ 32
    → record s { base = s.base ++ drop 1 line; side = s.side ++ drop 1 line } ≡ with_diff_line s line
diff_both s [] byte h e k = absurd (h refl)
diff_both s (b ∷ bs) byte h e k = sym (ap (λ x. by_first s x bs) (sym e ∙ k))

pub diff_base : (s : Sections) (line : List ℕ) (byte : ℕ) → (length line ≡ 0 → ⊥)
    → byte ≡ get_or line 0 byte → byte ≡ 45
    → record s { base = s.base ++ drop 1 line } ≡ with_diff_line s line
diff_base s [] byte h e k = absurd (h refl)
diff_base s (b ∷ bs) byte h e k = sym (ap (λ x. by_first s x bs) (sym e ∙ k))

pub diff_side : (s : Sections) (line : List ℕ) (byte : ℕ) → (length line ≡ 0 → ⊥)
    → byte ≡ get_or line 0 byte → byte ≡ 43
    → record s { side = s.side ++ drop 1 line } ≡ with_diff_line s line
diff_side s [] byte h e k = absurd (h refl)
diff_side s (b ∷ bs) byte h e k = sym (ap (λ x. by_first s x bs) (sym e ∙ k))

pub diff_blank : (s : Sections) (line : List ℕ) (byte : ℕ) → (length line ≡ 0 → ⊥)
    → byte ≡ get_or line 0 byte → byte ≡ 10
    → record s { base = s.base ++ line; side = s.side ++ line } ≡ with_diff_line s line
diff_blank s [] byte h e k = absurd (h refl)
diff_blank s (b ∷ bs) byte h e k =
    let f : b ≡ 10 = sym e ∙ k in
    ap (λ x. record s { base = s.base ++ x ∷ bs; side = s.side ++ x ∷ bs }) f
    ∙ sym (ap (λ x. by_first s x bs) f)

pub diff_other : (s : Sections) (line : List ℕ) (byte : ℕ) → (length line ≡ 0 → ⊥)
    → byte ≡ get_or line 0 byte → (byte ≡ 32 → ⊥) → (byte ≡ 45 → ⊥) → (byte ≡ 43 → ⊥)
    → (byte ≡ 10 → ⊥) → record s { valid = false } ≡ with_diff_line s line
diff_other s [] byte h e i j k l = absurd (h refl)
diff_other s (b ∷ bs) byte h e i j k l =
    let both : Sections = record s { base = s.base ++ bs; side = s.side ++ bs } in
    let left : Sections = record s { base = s.base ++ bs } in
    let right : Sections = record s { side = s.side ++ bs } in
    let blank : Sections = record s { base = s.base ++ b ∷ bs; side = s.side ++ b ∷ bs } in
    let bad : Sections = record s { valid = false } in
    sym (cond_false (b == 32) both (cond (b == 45) left (cond (b == 43) right (cond (b == 10) blank bad)))
    (ne_eqb b 32 (λ x. i (e ∙ x)))
    ∙ cond_false (b == 45) left (cond (b == 43) right (cond (b == 10) blank bad)) (ne_eqb b 45 (λ x. j (e ∙ x)))
    ∙ cond_false (b == 43) right (cond (b == 10) blank bad) (ne_eqb b 43 (λ x. k (e ∙ x)))
    ∙ cond_false (b == 10) blank bad (ne_eqb b 10 (λ x. l (e ∙ x))))

-- ---- a line

section_line : (n : ℕ) (s : Sections) (line : List ℕ) (byte : ℕ) → byte ≡ marker_of n line
    → is_section_byte byte ≡ true → with_section_line n s line ≡ with_section s byte line
section_line n s line byte e h =
    cond_true (is_section_byte (marker_of n line)) (with_section s (marker_of n line) line)
    (cond (s.byte == 43) (record s { side = s.side ++ line }) (with_diff_line s line))
    (sym (ap is_section_byte e) ∙ h)
    ∙ sym (ap (λ b. with_section s b line) e)

pub percent_line : (n : ℕ) (s : Sections) (line : List ℕ) (byte : ℕ) → byte ≡ marker_of n line
    → byte ≡ 37 → with_section_line n s line ≡ with_section s byte line
percent_line n s line byte e h = section_line n s line byte e (ap is_section_byte h)

pub plus_line : (n : ℕ) (s : Sections) (line : List ℕ) (byte : ℕ) → byte ≡ marker_of n line
    → byte ≡ 43 → with_section_line n s line ≡ with_section s byte line
plus_line n s line byte e h = section_line n s line byte e (ap is_section_byte h)

other-byte : (byte : ℕ) → (byte ≡ 37 → ⊥) → (byte ≡ 43 → ⊥) → is_section_byte byte ≡ false
other-byte byte h k = ap (λ b. b || byte == 43) (ne_eqb byte 37 h) ∙ ne_eqb byte 43 k

pub shown_line : (n : ℕ) (s : Sections) (line : List ℕ) (byte : ℕ) → byte ≡ marker_of n line
    → (byte ≡ 37 → ⊥) → (byte ≡ 43 → ⊥) → s.byte ≡ 43
    → with_section_line n s line ≡ record s { side = s.side ++ line }
shown_line n s line byte e h k j =
    cond_false (is_section_byte (marker_of n line)) (with_section s (marker_of n line) line)
    (cond (s.byte == 43) (record s { side = s.side ++ line }) (with_diff_line s line))
    (sym (ap is_section_byte e) ∙ other-byte byte h k)
    ∙ cond_true (s.byte == 43) (record s { side = s.side ++ line }) (with_diff_line s line) (eq-eqb s.byte 43 j)

pub compared_line : (n : ℕ) (s : Sections) (line : List ℕ) (byte : ℕ) → byte ≡ marker_of n line
    → (byte ≡ 37 → ⊥) → (byte ≡ 43 → ⊥) → (s.byte ≡ 43 → ⊥)
    → with_section_line n s line ≡ with_diff_line s line
compared_line n s line byte e h k j =
    cond_false (is_section_byte (marker_of n line)) (with_section s (marker_of n line) line)
    (cond (s.byte == 43) (record s { side = s.side ++ line }) (with_diff_line s line))
    (sym (ap is_section_byte e) ∙ other-byte byte h k)
    ∙ cond_false (s.byte == 43) (record s { side = s.side ++ line }) (with_diff_line s line) (ne_eqb s.byte 43 j)

pub ruleset push_steps = (no_section, shown_side, base_first, side_first)

pub ruleset diff_steps = (diff_empty, diff_both, diff_base, diff_side, diff_blank, diff_other)

pub ruleset line_steps = (percent_line, plus_line, shown_line, compared_line)

pub started : (s : Sections) (byte : ℕ) (line : List ℕ) (terms : List (Vec ℕ Global)) (valid : Bool)
    → merge_contents terms ≡ done_terms s
    → valid ≡ (s.valid && not (byte == 43 && is_odd (length terms)))
    → record { terms = merge_contents terms; byte = byte; base = []; side = []; noted = has_note line; valid = valid }
    ≡ with_section s byte line
started s byte line terms valid e v =
    let made : List (List ℕ) → Bool → Sections
    = λ ts w. record { terms = ts; byte = byte; base = []; side = []; noted = has_note line; valid = w } in
    let size : length terms ≡ length (done_terms s) = sym (length_contents terms) ∙ ap length e in
    ap (λ ts. made ts valid) e
    ∙ ap (made (done_terms s)) (v ∙ ap (λ k. s.valid && not (byte == 43 && is_odd k)) size)

pub outcome_some : (sides : ℕ) (s : Sections) (terms : List (Vec ℕ Global))
    → merge_contents terms ≡ done_terms s → s.valid ≡ true → has_terms sides (length terms) ≡ true
    → Some (merge_contents terms) ≡ sections_outcome sides s
outcome_some sides s terms e v h =
    let size : length terms ≡ length (done_terms s) = sym (length_contents terms) ∙ ap length e in
    ap Some e ∙ sym (cond_true (s.valid && has_terms sides (length (done_terms s))) (Some (done_terms s)) None
    (and_from s.valid (has_terms sides (length (done_terms s))) v (sym (ap (has_terms sides) size) ∙ h)))

pub outcome_invalid : (sides : ℕ) (s : Sections) → s.valid ≡ false → None ≡ sections_outcome sides s
outcome_invalid sides s v =
    sym (cond_false (s.valid && has_terms sides (length (done_terms s))) (Some (done_terms s)) None
    (ap (λ b. b && has_terms sides (length (done_terms s))) v))

pub outcome_sides : (sides : ℕ) (s : Sections) (terms : List (Vec ℕ Global))
    → merge_contents terms ≡ done_terms s → has_terms sides (length terms) ≡ false
    → None ≡ sections_outcome sides s
outcome_sides sides s terms e h =
    let size : length terms ≡ length (done_terms s) = sym (length_contents terms) ∙ ap length e in
    sym (cond_false (s.valid && has_terms sides (length (done_terms s))) (Some (done_terms s)) None
    (and_right s.valid (has_terms sides (length (done_terms s))) (sym (ap (has_terms sides) size) ∙ h)))

pub ruleset finish_steps = (outcome_some, outcome_invalid, outcome_sides)

pub ruleset start_steps = (started)
