-- Steps of the parser, as the code makes them.
use Rattle.std.proofs.Common.{◌≡◌, ℕ, Bool, true, false, cond, ◌==◌, List, [], ◌∷◌, ◌++◌, length, fold, Option, Some, None, refl, sym, ap, ◌∙◌, arith, eq-eqb, ne_eqb}
use Rattle.jj_conflicts.specs.Lines.{split_lines}
use Rattle.jj_conflicts.specs.Markers.{marker_of}
use Rattle.jj_conflicts.specs.Parsing.{Terms, Hunks, with_separator, with_line, with_lines, is_separator, first_term, finished_terms, section_lines, first_some, terms_after, terms_of, with_conflict, after_start, is_null, with_text_line}
use Rattle.jj_conflicts.proofs.Booleans.{cond_true, cond_false}
use Rattle.jj_conflicts.proofs.LineLaws.{split_empty}

-- a loop over lines, one line on and at the end
pub fold_step : {B : Type 0} (f : B → List ℕ → B) (s t total : B) (rest line after : List ℕ)
    → split_lines rest ≡ line ∷ split_lines after → t ≡ f s line
    → fold f s (split_lines rest) ≡ total → fold f t (split_lines after) ≡ total
fold_step f s t total rest line after e h inv =
    ap (λ u. fold f u (split_lines after)) h ∙ sym (ap (fold f s) e) ∙ inv

pub fold_end : {B : Type 0} (f : B → List ℕ → B) (s total : B) (rest : List ℕ)
    → length rest ≡ 0 → fold f s (split_lines rest) ≡ total → s ≡ total
fold_end f s total rest h inv = sym (ap (fold f s) (split_empty rest h)) ∙ inv

-- ---- terms

pub separator_line : (n : ℕ) (g : Bool) (s : Terms) (line : List ℕ)
    → is_separator g (marker_of n line) ≡ true
    → with_line n g s line ≡ with_separator g (marker_of n line) s line
separator_line n g s line h =
    cond_true (is_separator g (marker_of n line)) (with_separator g (marker_of n line) s line)
    (record s { current = s.current ++ line }) h

pub other_line : (n : ℕ) (g : Bool) (s : Terms) (line : List ℕ)
    → is_separator g (marker_of n line) ≡ false
    → with_line n g s line ≡ record s { current = s.current ++ line }
other_line n g s line h =
    cond_false (is_separator g (marker_of n line)) (with_separator g (marker_of n line) s line)
    (record s { current = s.current ++ line }) h

pub no_lines : (n sides : ℕ) (pending end : List ℕ) → length pending ≡ 0
    → terms_of n sides (split_lines pending) end ≡ terms_of n sides [] end
no_lines n sides pending end h = ap (λ ls. terms_of n sides ls end) (split_empty pending h)

pub one_line_only : (n sides : ℕ) (pending start rest end : List ℕ)
    → split_lines pending ≡ start ∷ split_lines rest → length rest ≡ 0
    → terms_of n sides (split_lines pending) end ≡ terms_after n sides start [] end
one_line_only n sides pending start rest end e h =
    ap (λ ls. terms_of n sides ls end) e
    ∙ ap (λ ls. terms_after n sides start ls end) (split_empty rest h)

whole : (n sides : ℕ) (pending start rest line after end : List ℕ)
    → split_lines pending ≡ start ∷ split_lines rest
    → split_lines rest ≡ line ∷ split_lines after
    → terms_of n sides (split_lines pending) end
    ≡ terms_after n sides start (line ∷ split_lines after) end
whole n sides pending start rest line after end e f =
    ap (λ ls. terms_of n sides ls end) e ∙ ap (λ ls. terms_after n sides start ls end) f

pub diff_lines : (n sides : ℕ) (pending start rest line after end : List ℕ)
    → split_lines pending ≡ start ∷ split_lines rest
    → split_lines rest ≡ line ∷ split_lines after → marker_of n line ≡ 37
    → section_lines n sides (split_lines rest) ≡ terms_of n sides (split_lines pending) end
diff_lines n sides pending start rest line after end e f h =
    ap (section_lines n sides) f
    ∙ sym (whole n sides pending start rest line after end e f
    ∙ cond_true (marker_of n line == 37) (section_lines n sides (line ∷ split_lines after))
    (cond (marker_of n line == 43)
    (first_some (finished_terms sides false (with_lines n false (first_term line) (split_lines after)) end)
    (section_lines n sides (line ∷ split_lines after)))
    (finished_terms sides true (with_lines n true (first_term start) (line ∷ split_lines after)) end))
    (eq-eqb (marker_of n line) 37 h))

pub snapshot_lines : (n sides : ℕ) (pending start rest line after end : List ℕ)
    → split_lines pending ≡ start ∷ split_lines rest
    → split_lines rest ≡ line ∷ split_lines after → marker_of n line ≡ 43
    → first_some (finished_terms sides false (with_lines n false (first_term line) (split_lines after)) end)
    (section_lines n sides (split_lines rest)) ≡ terms_of n sides (split_lines pending) end
snapshot_lines n sides pending start rest line after end e f h =
    let snapshot : Option (List (List ℕ))
    = finished_terms sides false (with_lines n false (first_term line) (split_lines after)) end in
    let sections : Option (List (List ℕ)) = section_lines n sides (line ∷ split_lines after) in
    let git : Option (List (List ℕ))
    = finished_terms sides true (with_lines n true (first_term start) (line ∷ split_lines after)) end in
    ap (λ ls. first_some snapshot (section_lines n sides ls)) f
    ∙ sym (whole n sides pending start rest line after end e f
    ∙ cond_false (marker_of n line == 37) sections
    (cond (marker_of n line == 43) (first_some snapshot sections) git) (ap (λ m. m == 37) h)
    ∙ cond_true (marker_of n line == 43) (first_some snapshot sections) git
    (eq-eqb (marker_of n line) 43 h))

pub git_lines : (n sides : ℕ) (pending start rest line after end : List ℕ)
    → split_lines pending ≡ start ∷ split_lines rest
    → split_lines rest ≡ line ∷ split_lines after → (marker_of n line ≡ 37 → ⊥)
    → (marker_of n line ≡ 43 → ⊥)
    → finished_terms sides true (with_lines n true (first_term start) (split_lines rest)) end
    ≡ terms_of n sides (split_lines pending) end
git_lines n sides pending start rest line after end e f h k =
    let snapshot : Option (List (List ℕ))
    = finished_terms sides false (with_lines n false (first_term line) (split_lines after)) end in
    let sections : Option (List (List ℕ)) = section_lines n sides (line ∷ split_lines after) in
    let git : Option (List (List ℕ))
    = finished_terms sides true (with_lines n true (first_term start) (line ∷ split_lines after)) end in
    ap (λ ls. finished_terms sides true (with_lines n true (first_term start) ls) end) f
    ∙ sym (whole n sides pending start rest line after end e f
    ∙ cond_false (marker_of n line == 37) sections
    (cond (marker_of n line == 43) (first_some snapshot sections) git)
    (ne_eqb (marker_of n line) 37 h)
    ∙ cond_false (marker_of n line == 43) (first_some snapshot sections) git
    (ne_eqb (marker_of n line) 43 k))

-- the result of the snapshot style, or else of the diff style
pub first_taken : (a b x : Option (List (List ℕ))) (terms : List (List ℕ)) → x ≡ a → x ≡ Some terms
    → Some terms ≡ first_some a b
first_taken a b x terms e f = sym (ap (λ y. first_some y b) (sym e ∙ f))

pub second_taken : (a b x : Option (List (List ℕ))) → x ≡ a → x ≡ None → b ≡ first_some a b
second_taken a b x e f = sym (ap (λ y. first_some y b) (sym e ∙ f))

pub ruleset first_steps = (first_taken, second_taken)

-- ---- hunks

null_empty : (x : List ℕ) → length x ≡ 0 → is_null x ≡ true
null_empty [] h = refl
null_empty (b ∷ x) h = absurd (omega arith)

null_nonempty : (x : List ℕ) → (length x ≡ 0 → ⊥) → is_null x ≡ false
null_nonempty [] h = absurd (h refl)
null_nonempty (b ∷ x) h = refl

pub start_line : (n sides : ℕ) (s : Hunks) (line : List ℕ) → marker_of n line ≡ 60
    → with_text_line n sides s line ≡ after_start s line
start_line n sides s line h =
    cond_true (marker_of n line == 60) (after_start s line)
    (cond (is_null s.pending) (record s { resolved = s.resolved ++ line })
    (cond (marker_of n line == 62)
    (with_conflict s line (terms_of n sides (split_lines s.pending) line))
    (record s { pending = s.pending ++ line })))
    (eq-eqb (marker_of n line) 60 h)

after_first_test : (n sides : ℕ) (s : Hunks) (line : List ℕ) → (marker_of n line ≡ 60 → ⊥)
    → with_text_line n sides s line
    ≡ cond (is_null s.pending) (record s { resolved = s.resolved ++ line })
    (cond (marker_of n line == 62)
    (with_conflict s line (terms_of n sides (split_lines s.pending) line))
    (record s { pending = s.pending ++ line }))
after_first_test n sides s line h =
    cond_false (marker_of n line == 60) (after_start s line)
    (cond (is_null s.pending) (record s { resolved = s.resolved ++ line })
    (cond (marker_of n line == 62)
    (with_conflict s line (terms_of n sides (split_lines s.pending) line))
    (record s { pending = s.pending ++ line })))
    (ne_eqb (marker_of n line) 60 h)

pub resolved_line : (n sides : ℕ) (s : Hunks) (line : List ℕ) → (marker_of n line ≡ 60 → ⊥)
    → length s.pending ≡ 0
    → with_text_line n sides s line ≡ record s { resolved = s.resolved ++ line }
resolved_line n sides s line h e =
    after_first_test n sides s line h
    ∙ cond_true (is_null s.pending) (record s { resolved = s.resolved ++ line })
    (cond (marker_of n line == 62)
    (with_conflict s line (terms_of n sides (split_lines s.pending) line))
    (record s { pending = s.pending ++ line }))
    (null_empty s.pending e)

pub end_line : (n sides : ℕ) (s : Hunks) (line : List ℕ) → (length s.pending ≡ 0 → ⊥)
    → marker_of n line ≡ 62
    → with_text_line n sides s line
    ≡ with_conflict s line (terms_of n sides (split_lines s.pending) line)
end_line n sides s line e h =
    after_first_test n sides s line (λ k. absurd (omega (arith, h, k)))
    ∙ cond_false (is_null s.pending) (record s { resolved = s.resolved ++ line })
    (cond (marker_of n line == 62)
    (with_conflict s line (terms_of n sides (split_lines s.pending) line))
    (record s { pending = s.pending ++ line }))
    (null_nonempty s.pending e)
    ∙ cond_true (marker_of n line == 62)
    (with_conflict s line (terms_of n sides (split_lines s.pending) line))
    (record s { pending = s.pending ++ line }) (eq-eqb (marker_of n line) 62 h)

pub inner_line : (n sides : ℕ) (s : Hunks) (line : List ℕ) → (marker_of n line ≡ 60 → ⊥)
    → (length s.pending ≡ 0 → ⊥) → (marker_of n line ≡ 62 → ⊥)
    → with_text_line n sides s line ≡ record s { pending = s.pending ++ line }
inner_line n sides s line h e k =
    after_first_test n sides s line h
    ∙ cond_false (is_null s.pending) (record s { resolved = s.resolved ++ line })
    (cond (marker_of n line == 62)
    (with_conflict s line (terms_of n sides (split_lines s.pending) line))
    (record s { pending = s.pending ++ line }))
    (null_nonempty s.pending e)
    ∙ cond_false (marker_of n line == 62)
    (with_conflict s line (terms_of n sides (split_lines s.pending) line))
    (record s { pending = s.pending ++ line }) (ne_eqb (marker_of n line) 62 k)
