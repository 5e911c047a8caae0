-- The state of the parser and the writer after an item was appended, as the code does it.
use Rattle.std.proofs.Common.{◌≡◌, ℕ, ◌<◌, Bool, true, false, not, ◌&&◌, ◌==◌, nat_lt, List, [], ◌∷◌, ◌++◌, length, refl, sym, ap, ◌∙◌, arith, eq-eqb, ne_eqb, lt-ltb, le-ltb, append-nil, append_assoc, Vec, Global, replicate}
use Rattle.std.proofs.lemmas.Bool.{and_left, and_right}
use Rattle.std.specs.List.{list_any}
use Rattle.jj_conflicts.specs.Lines.{is_terminated, terminated}
use Rattle.jj_conflicts.specs.Markers.{has_note, is_shown, shown_label}
use Rattle.jj_conflicts.specs.Contents.{contents, merge_contents}
use Rattle.jj_conflicts.specs.Parsing.{Terms, term_of, separator_byte, with_separator, resolved_hunk}
use Rattle.jj_conflicts.proofs.Booleans.{cond_true, cond_false}

-- ---- writing

pub terminated_kept : (before term : List ℕ) → is_terminated term ≡ true
    → before ++ term ≡ before ++ terminated term
terminated_kept before term h =
    ap (λ x. before ++ x) (sym (cond_true (is_terminated term) term (term ++ 10 ∷ []) h))

pub terminated_pushed : (before term : List ℕ) → is_terminated term ≡ false
    → before ++ term ++ 10 ∷ [] ≡ before ++ terminated term
terminated_pushed before term h =
    append_assoc before term (10 ∷ [])
    ∙ ap (λ x. before ++ x) (sym (cond_false (is_terminated term) term (term ++ 10 ∷ []) h))

pub shown_pushed : (byte n : ℕ) (label before : List ℕ) → is_shown byte n label ≡ true
    → before ++ 32 ∷ [] ++ label ≡ before ++ shown_label byte n label
shown_pushed byte n label before h =
    append_assoc before (32 ∷ []) label
    ∙ ap (λ x. before ++ x) (sym (cond_true (is_shown byte n label) (32 ∷ label) [] h))

pub shown_left_out : (byte n : ℕ) (label before : List ℕ) → is_shown byte n label ≡ false
    → before ≡ before ++ shown_label byte n label
shown_left_out byte n label before h =
    sym (ap (λ x. before ++ x) (cond_false (is_shown byte n label) (32 ∷ label) [] h)
    ∙ append-nil before)

pub not_shown_empty : (byte n : ℕ) (label : List ℕ) → length label ≡ 0
    → is_shown byte n label ≡ false
not_shown_empty byte n label h =
    and_left (nat_lt 0 (length label) && not (list_any (λ b. b == 10) label))
    (not (has_note (replicate n byte ++ 32 ∷ [] ++ label ++ 10 ∷ [])))
    (and_left (nat_lt 0 (length label)) (not (list_any (λ b. b == 10) label))
    (le-ltb 0 (length label) (omega (arith, h))))

pub not_shown_newline : (byte n : ℕ) (label : List ℕ) → list_any (λ b. b == 10) label ≡ true
    → is_shown byte n label ≡ false
not_shown_newline byte n label h =
    and_left (nat_lt 0 (length label) && not (list_any (λ b. b == 10) label))
    (not (has_note (replicate n byte ++ 32 ∷ [] ++ label ++ 10 ∷ [])))
    (and_right (nat_lt 0 (length label)) (not (list_any (λ b. b == 10) label)) (ap not h))

both : (a b c : Bool) → a ≡ true → b ≡ false → c ≡ (a && not b && c)
both a b c h k = sym (ap (λ v. v && not b && c) h ∙ ap (λ v. not v && c) k)

pub shown_by_note : (byte n : ℕ) (label : List ℕ) → 0 < length label
    → list_any (λ b. b == 10) label ≡ false
    → not (has_note (replicate n byte ++ 32 ∷ [] ++ label ++ 10 ∷ [])) ≡ is_shown byte n label
shown_by_note byte n label h k =
    both (nat_lt 0 (length label)) (list_any (λ b. b == 10) label)
    (not (has_note (replicate n byte ++ 32 ∷ [] ++ label ++ 10 ∷ [])))
    (lt-ltb 0 (length label) h) k

-- ---- parsing

pub length_contents : (terms : List (Vec ℕ Global)) → length (merge_contents terms) ≡ length terms
length_contents [] = refl
length_contents (t ∷ terms) = omega (arith, length_contents terms)

pub contents_push : (terms : List (Vec ℕ Global)) (t : Vec ℕ Global)
    → merge_contents (terms ++ t ∷ []) ≡ merge_contents terms ++ t.items ∷ []
contents_push [] t = refl
contents_push (u ∷ terms) t = ap (λ r. u.items ∷ r) (contents_push terms t)

pub hunks_push : (hunks : List (List (Vec ℕ Global))) (terms : List (Vec ℕ Global))
    → contents (hunks ++ terms ∷ []) ≡ contents hunks ++ merge_contents terms ∷ []
hunks_push [] terms = refl
hunks_push (h ∷ hunks) terms = ap (λ r. merge_contents h ∷ r) (hunks_push hunks terms)

pub resolved_empty : (text : List ℕ) → length text ≡ 0 → resolved_hunk text ≡ []
resolved_empty [] h = refl
resolved_empty (b ∷ bs) h = absurd (omega arith)

pub resolved_nonempty : (text : List ℕ) → (length text ≡ 0 → ⊥)
    → resolved_hunk text ≡ (text ∷ []) ∷ []
resolved_nonempty [] h = absurd (h refl)
resolved_nonempty (b ∷ bs) h = refl

pub resolved_kept : (hunks : List (List (Vec ℕ Global))) (text : List ℕ) → length text ≡ 0
    → contents hunks ≡ contents hunks ++ resolved_hunk text
resolved_kept hunks text h =
    sym (ap (λ r. contents hunks ++ r) (resolved_empty text h) ∙ append-nil (contents hunks))

pub resolved_pushed : (hunks : List (List (Vec ℕ Global))) (text : Vec ℕ Global)
    → (length text.items ≡ 0 → ⊥)
    → contents (hunks ++ (text ∷ []) ∷ []) ≡ contents hunks ++ resolved_hunk text.items
resolved_pushed hunks text h =
    hunks_push hunks (text ∷ [])
    ∙ ap (λ r. contents hunks ++ r) (sym (resolved_nonempty text.items h))

pub separator_pushed : (g : Bool) (byte : ℕ) (done : List (Vec ℕ Global)) (term : Vec ℕ Global)
    (s : Terms) (line : List ℕ) → s.finished ≡ merge_contents done
    → byte ≡ separator_byte g (length done) → term.items ≡ term_of s.noted s.current
    → with_separator g byte s line
    ≡ record {
      finished = merge_contents (done ++ term ∷ []);
      current = [];
      noted = has_note line;
      valid = s.valid;
    }
separator_pushed g byte done term s line f e t =
    let next : List (List ℕ) → Terms = λ r. record {
      finished = r;
      current = [];
      noted = has_note line;
      valid = s.valid;
    } in
    let size : length s.finished ≡ length done = ap length f ∙ length_contents done in
    cond_true (byte == separator_byte g (length s.finished))
    (next (s.finished ++ term_of s.noted s.current ∷ [])) (record s { valid = false })
    (eq-eqb byte (separator_byte g (length s.finished))
    (e ∙ sym (ap (separator_byte g) size)))
    ∙ ap (λ r. next (r ++ term_of s.noted s.current ∷ [])) f
    ∙ ap (λ r. next (merge_contents done ++ r ∷ [])) (sym t)
    ∙ ap next (sym (contents_push done term))

pub separator_refused : (g : Bool) (byte : ℕ) (done : List (Vec ℕ Global))
    (s : Terms) (line : List ℕ) → s.finished ≡ merge_contents done
    → (byte ≡ separator_byte g (length done) → ⊥)
    → with_separator g byte s line ≡ record s { valid = false }
separator_refused g byte done s line f n =
    let size : length s.finished ≡ length done = ap length f ∙ length_contents done in
    cond_false (byte == separator_byte g (length s.finished))
    (record {
      finished = s.finished ++ term_of s.noted s.current ∷ [];
      current = [];
      noted = has_note line;
      valid = s.valid;
    })
    (record s { valid = false })
    (ne_eqb byte (separator_byte g (length s.finished))
    (λ e. n (e ∙ ap (separator_byte g) size)))
