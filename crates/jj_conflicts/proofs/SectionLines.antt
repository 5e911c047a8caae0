-- Lines with a character before each, as the parser of the diff style reads them.
use Rattle.std.proofs.Common.{◌≡◌, ℕ, ◌+◌, ◌-◌, ◌<◌, ◌≤◌, Bool, true, false, not, ◌&&◌, ◌==◌, nat_lt, List, [], ◌∷◌, ◌++◌, length, map, fold, refl, sym, ap, ◌∙◌, subst, inl, inr, arith, eq-eqb, ne_eqb, eqb-true, ltb-true, append-nil, append_assoc}
use Rattle.std.proofs.lemmas.Bool.{cases_eq, cases_Bool, and_parts}
use Rattle.std.specs.List.{list_all, concat, prefix_len, AllByRecursion}
use Rattle.jj_conflicts.specs.Lines.{split_lines, is_terminated, prepended}
use Rattle.jj_conflicts.specs.Markers.{is_marker_byte, run_length, marker_of}
use Rattle.jj_conflicts.specs.Rendering.{prefixed}
use Rattle.jj_conflicts.specs.Parsing.{Sections, is_section_byte, with_section, with_diff_line, with_section_line}
use Rattle.jj_conflicts.proofs.Booleans.{cond_true, cond_false}
use Rattle.jj_conflicts.proofs.LineLaws.{split-newline, split-other, split-nonempty, split-append, terminated-append}
use Rattle.jj_conflicts.proofs.MarkerLaws.{marker_of-other}

-- ---- complete lines

pub record IsComplete (line : List ℕ) : Type 0 where
  pub one : split_lines line ≡ line ∷ []
  pub ended : is_terminated line ≡ true

complete-newline : (b : ℕ) → b ≡ 10 → IsComplete (b ∷ [])
complete-newline b e = record { one = split-newline b [] e; ended = eq-eqb b 10 e }

complete-cons : (b : ℕ) (line : List ℕ) → (b ≡ 10 → ⊥) → IsComplete line → IsComplete (b ∷ line)
complete-cons b [] n whole =
    let e : 0 ≡ 1 = ap length whole.one in absurd (omega (arith, e))
complete-cons b (c ∷ line) n whole = record {
  one = split-other b (c ∷ line) n ∙ ap (prepended b) whole.one;
  ended = whole.ended;
}

complete-prepended : (b : ℕ) (lines : List (List ℕ)) → (b ≡ 10 → ⊥) → 0 < length lines
    → AllByRecursion IsComplete lines → AllByRecursion IsComplete (prepended b lines)
complete-prepended b [] n some whole = absurd (omega arith)
complete-prepended b (l ∷ lines) n some whole = (complete-cons b l n whole.0, whole.1)

complete-lines : (text : List ℕ) → is_terminated text ≡ true
    → AllByRecursion IsComplete (split_lines text)
complete-lines [] t = tt
complete-lines (b ∷ []) t =
    let e : b ≡ 10 = eqb-true b 10 t in
    subst (AllByRecursion IsComplete) (sym (split-newline b [] e)) (complete-newline b e, tt)
complete-lines (b ∷ c ∷ bs) t =
    elim (cases_eq b 10) [
      | inl e ↦ subst (AllByRecursion IsComplete) (sym (split-newline b (c ∷ bs) e))
          (complete-newline b e, complete-lines (c ∷ bs) t)
      | inr n ↦ subst (AllByRecursion IsComplete) (sym (split-other b (c ∷ bs) n))
          (complete-prepended b (split_lines (c ∷ bs)) n (split-nonempty c bs) (complete-lines (c ∷ bs) t))
    ]

split-complete : (lines : List (List ℕ)) → AllByRecursion IsComplete lines
    → split_lines (concat lines) ≡ lines
split-complete [] whole = refl
split-complete (l ∷ lines) whole =
    split-append l (concat lines) whole.0.ended
    ∙ ap (λ ls. ls ++ split_lines (concat lines)) whole.0.one
    ∙ ap (λ ls. l ∷ ls) (split-complete lines whole.1)

ended-complete : (lines : List (List ℕ)) → AllByRecursion IsComplete lines
    → is_terminated (concat lines) ≡ true
ended-complete [] whole = refl
ended-complete (l ∷ lines) whole =
    terminated-append l (concat lines) whole.0.ended (ended-complete lines whole.1)

complete-map : (c : ℕ) (lines : List (List ℕ)) → (c ≡ 10 → ⊥) → AllByRecursion IsComplete lines
    → AllByRecursion IsComplete (map (λ l. c ∷ l) lines)
complete-map c [] n whole = tt
complete-map c (l ∷ lines) n whole = (complete-cons c l n whole.0, complete-map c lines n whole.1)

pub split-prefixed : (c : ℕ) (text : List ℕ) → (c ≡ 10 → ⊥) → is_terminated text ≡ true
    → split_lines (prefixed c text) ≡ map (λ l. c ∷ l) (split_lines text)
split-prefixed c text n t =
    split-complete (map (λ l. c ∷ l) (split_lines text))
    (complete-map c (split_lines text) n (complete-lines text t))

pub is_terminated-prefixed : (c : ℕ) (text : List ℕ) → (c ≡ 10 → ⊥) → is_terminated text ≡ true
    → is_terminated (prefixed c text) ≡ true
is_terminated-prefixed c text n t =
    ended-complete (map (λ l. c ∷ l) (split_lines text))
    (complete-map c (split_lines text) n (complete-lines text t))

-- ---- lines with a character before them are no markers

prefix-cons : (p : ℕ → Bool) (x : ℕ) (xs : List ℕ) → prefix_len p (x ∷ xs) ≤ prefix_len p xs + 1
prefix-cons p x xs =
    elim (cases_Bool (p x)) [
      | inl e ↦ let k : prefix_len p (x ∷ xs) ≡ 1 + prefix_len p xs = cond_true (p x) (1 + prefix_len p xs) 0 e in omega (arith, k)
      | inr e ↦ let k : prefix_len p (x ∷ xs) ≡ 0 = cond_false (p x) (1 + prefix_len p xs) 0 e in omega (arith, k)
    ]

prefix-run : (c : ℕ) (line : List ℕ) → is_marker_byte c ≡ true
    → prefix_len (λ x. x == c) line ≤ run_length line
prefix-run c [] h = omega arith
prefix-run c (d ∷ ds) h =
    elim (cases_eq d c) [
      | inl e ↦
          let k : run_length (d ∷ ds) ≡ prefix_len (λ x. x == c) (d ∷ ds)
          = cond_true (is_marker_byte d) (prefix_len (λ x. x == d) (d ∷ ds)) 0 (ap is_marker_byte e ∙ h)
          ∙ ap (λ b. prefix_len (λ x. x == b) (d ∷ ds)) e in
          omega (arith, k)
      | inr n ↦
          let k : prefix_len (λ x. x == c) (d ∷ ds) ≡ 0
          = cond_false (d == c) (1 + prefix_len (λ x. x == c) ds) 0 (ne_eqb d c n) in
          omega (arith, k)
    ]

run-cons : (c : ℕ) (line : List ℕ) → run_length (c ∷ line) ≤ run_length line + 1
run-cons c line =
    elim (cases_Bool (is_marker_byte c)) [
      | inl e ↦
          let k : run_length (c ∷ line) ≡ prefix_len (λ x. x == c) (c ∷ line)
          = cond_true (is_marker_byte c) (prefix_len (λ x. x == c) (c ∷ line)) 0 e in
          omega (arith, k, prefix-cons (λ x. x == c) c line, prefix-run c line e)
      | inr e ↦
          let k : run_length (c ∷ line) ≡ 0
          = cond_false (is_marker_byte c) (prefix_len (λ x. x == c) (c ∷ line)) 0 e in
          omega (arith, k)
    ]

pub marker_of-prefixed : (n c : ℕ) (line : List ℕ) → run_length line < n - 1
    → marker_of n (c ∷ line) ≡ 0
marker_of-prefixed n c line h =
    marker_of-other n (c ∷ line) (omega (arith, run-cons c line))

-- ---- lines of a comparison

-- the state within a comparison
abbrev pub comparing : List (List ℕ) → List ℕ → List ℕ → Sections
comparing terms base side =
    record { terms = terms; byte = 37; base = base; side = side; noted = false; valid = true }

compared-line : (n c : ℕ) (terms : List (List ℕ)) (base side line : List ℕ) → run_length line < n - 1
    → with_section_line n (comparing terms base side) (c ∷ line)
    ≡ with_diff_line (comparing terms base side) (c ∷ line)
compared-line n c terms base side line h =
    let s : Sections = comparing terms base side in
    let m : ℕ = marker_of n (c ∷ line) in
    cond_false (is_section_byte m) (with_section s m (c ∷ line))
    (with_diff_line s (c ∷ line))
    (ap is_section_byte (marker_of-prefixed n c line h))

abbrev pub AreShort : ℕ → List (List ℕ) → Type 0
AreShort n lines = list_all (λ line. nat_lt (run_length line) (n - 1)) lines ≡ true

short-parts : (n : ℕ) (line : List ℕ) (lines : List (List ℕ)) → AreShort n (line ∷ lines)
    → (run_length line < n - 1) × AreShort n lines
short-parts n line lines h =
    let p : (nat_lt (run_length line) (n - 1) ≡ true)
    × (list_all (λ l. nat_lt (run_length l) (n - 1)) lines ≡ true)
    = and_parts (nat_lt (run_length line) (n - 1)) (list_all (λ l. nat_lt (run_length l) (n - 1)) lines) h in
    (ltb-true (run_length line) (n - 1) p.0, p.1)

pub both_lines : (n : ℕ) (terms : List (List ℕ)) (base side : List ℕ) (lines : List (List ℕ))
    → AreShort n lines
    → fold (with_section_line n) (comparing terms base side) (map (λ l. 32 ∷ l) lines)
    ≡ comparing terms (base ++ concat lines) (side ++ concat lines)
both_lines n terms base side [] h =
    sym (ap (λ x. comparing terms x (side ++ [])) (append-nil base) ∙ ap (comparing terms base) (append-nil side))
both_lines n terms base side (line ∷ lines) h =
    let p : (run_length line < n - 1) × AreShort n lines = short-parts n line lines h in
    ap (λ s. fold (with_section_line n) s (map (λ l. 32 ∷ l) lines)) (compared-line n 32 terms base side line p.0)
    ∙ both_lines n terms (base ++ line) (side ++ line) lines p.1
    ∙ ap (λ x. comparing terms x ((side ++ line) ++ concat lines)) (append_assoc base line (concat lines))
    ∙ ap (comparing terms (base ++ (line ++ concat lines))) (append_assoc side line (concat lines))

pub base_lines : (n : ℕ) (terms : List (List ℕ)) (base side : List ℕ) (lines : List (List ℕ))
    → AreShort n lines
    → fold (with_section_line n) (comparing terms base side) (map (λ l. 45 ∷ l) lines)
    ≡ comparing terms (base ++ concat lines) side
base_lines n terms base side [] h = sym (ap (λ x. comparing terms x side) (append-nil base))
base_lines n terms base side (line ∷ lines) h =
    let p : (run_length line < n - 1) × AreShort n lines = short-parts n line lines h in
    ap (λ s. fold (with_section_line n) s (map (λ l. 45 ∷ l) lines)) (compared-line n 45 terms base side line p.0)
    ∙ base_lines n terms (base ++ line) side lines p.1
    ∙ ap (λ x. comparing terms x side) (append_assoc base line (concat lines))

pub side_lines : (n : ℕ) (terms : List (List ℕ)) (base side : List ℕ) (lines : List (List ℕ))
    → AreShort n lines
    → fold (with_section_line n) (comparing terms base side) (map (λ l. 43 ∷ l) lines)
    ≡ comparing terms base (side ++ concat lines)
side_lines n terms base side [] h = sym (ap (comparing terms base) (append-nil side))
side_lines n terms base side (line ∷ lines) h =
    let p : (run_length line < n - 1) × AreShort n lines = short-parts n line lines h in
    ap (λ s. fold (with_section_line n) s (map (λ l. 43 ∷ l) lines)) (compared-line n 43 terms base side line p.0)
    ∙ side_lines n terms base (side ++ line) lines p.1
    ∙ ap (comparing terms base) (append_assoc side line (concat lines))

-- ---- lines that neither start nor end a conflict

abbrev pub are_inside : ℕ → List (List ℕ) → Bool
are_inside n lines =
    list_all (λ line. not (marker_of n line == 60) && not (marker_of n line == 62)) lines

inside-map : (n c : ℕ) (lines : List (List ℕ)) → AreShort n lines
    → are_inside n (map (λ l. c ∷ l) lines) ≡ true
inside-map n c [] h = refl
inside-map n c (line ∷ lines) h =
    let p : (run_length line < n - 1) × AreShort n lines = short-parts n line lines h in
    ap (λ m. (not (m == 60) && not (m == 62)) && are_inside n (map (λ l. c ∷ l) lines))
    (marker_of-prefixed n c line p.0)
    ∙ inside-map n c lines p.1

pub inside-prefixed : (n c : ℕ) (text : List ℕ) → (c ≡ 10 → ⊥) → is_terminated text ≡ true
    → AreShort n (split_lines text) → are_inside n (split_lines (prefixed c text)) ≡ true
inside-prefixed n c text ne t h =
    ap (are_inside n) (split-prefixed c text ne t) ∙ inside-map n c (split_lines text) h
