-- Rendered hunks as the parser reads them.
use Rattle.std.proofs.Common.{◌≡◌, ℕ, ◌+◌, ◌-◌, ◌*◌, ◌/◌, ◌%◌, ◌<◌, ◌≤◌, Bool, true, false, cond, not, ◌&&◌, ◌==◌, nat_lt, List, [], ◌∷◌, ◌++◌, length, fold, Some, refl, sym, ap, ◌∙◌, subst, inl, inr, arith, eq-eqb, lt-ltb, ltb-true, append-nil, append_assoc, true≢false, codes}
use Rattle.std.proofs.lemmas.Bool.{and_from, and_parts, not-true}
use Rattle.std.proofs.lemmas.List.Sums.{fold-append}
use Rattle.std.proofs.lemmas.List.Folds.{list_all-append}
use Rattle.std.specs.List.{list_all, concat, AllByRecursion}
use Rattle.jj_conflicts.specs.Lines.{split_lines, is_terminated, terminated}
use Rattle.jj_conflicts.specs.Markers.{run_length, marker_of, marker_line}
use Rattle.jj_conflicts.specs.Rendering.{label_at, term_byte, section, sections, snapshot_text, git_text, conflict_label, conflict_text, conflict_count, rendered_from, rendered, all_terminated, AreSections, IsDiffText, IsConflictText, IsRenderedFrom, IsRendered}
use Rattle.jj_conflicts.specs.Parsing.{Hunks, has_sides, terms_after, terms_of, with_conflict, after_start, is_null, with_text_line, all_hunks, parsed}
use Rattle.jj_conflicts.specs.Parsing.{resolved_hunk}
use Rattle.jj_conflicts.specs.Conditions.{joined_after, joined}
use Rattle.jj_conflicts.specs.Conditions.{IsUnmarked, IsUnmarkedTerm, IsParsable, run_limit}
use Rattle.jj_conflicts.specs.declared.conflicts.ConflictMarkerStyle.{ConflictMarkerStyle}
use Rattle.jj_conflicts.specs.declared.conflicts.ConflictMarkerStyle.TheVariants.{Diff, Snapshot, Git}
use Rattle.jj_conflicts.proofs.Booleans.{cond_true, cond_false}
use Rattle.jj_conflicts.proofs.LineLaws.{split-append, concat-split, terminated-append, is_terminated-terminated}
use Rattle.jj_conflicts.proofs.MarkerLaws.{IsMarkerByte, marker_of-marker, marker_of-other, split-marker, is_terminated-marker, has_note-marker}
use Rattle.jj_conflicts.proofs.TermLaws.{is_marker-term_byte, split-block, snapshot_parsed, git_parsed}
use Rattle.jj_conflicts.proofs.SectionLaws.{AreReadable, sections_ended, sections_inside, sections_parsed}

abbrev pub hunks_at : List (List (List ℕ)) → List ℕ → List ℕ → Hunks
hunks_at hunks resolved pending =
    record { hunks = hunks; resolved = resolved; pending = pending }

-- ---- lines within a conflict

abbrev pub are_inner : ℕ → List (List ℕ) → Bool
are_inner n lines =
    list_all (λ line. not (marker_of n line == 60) && not (marker_of n line == 62)) lines

inner-text : (n : ℕ) (lines : List (List ℕ))
    → list_all (λ line. nat_lt (run_length line) n) lines ≡ true → are_inner n lines ≡ true
inner-text n [] h = refl
inner-text n (line ∷ lines) h =
    let p : (nat_lt (run_length line) n ≡ true)
    × (list_all (λ l. nat_lt (run_length l) n) lines ≡ true)
    = and_parts (nat_lt (run_length line) n) (list_all (λ l. nat_lt (run_length l) n) lines) h
    in
    ap (λ m. (not (m == 60) && not (m == 62)) && are_inner n lines)
    (marker_of-other n line (ltb-true (run_length line) n p.0))
    ∙ inner-text n lines p.1

inner-append : (n : ℕ) (xs ys : List (List ℕ)) → are_inner n xs ≡ true → are_inner n ys ≡ true
    → are_inner n (xs ++ ys) ≡ true
inner-append n xs ys h k =
    list_all-append (λ line. not (marker_of n line == 60) && not (marker_of n line == 62)) xs ys
    ∙ and_from (are_inner n xs) (are_inner n ys) h k

-- a marker line of an inner character, and an unmarked term
inner-block : (n byte : ℕ) (label : List ℕ) (noted : Bool) (text : List ℕ) → IsMarkerByte byte
    → 0 < n → (not (byte == 60) && not (byte == 62)) ≡ true → IsUnmarked n text
    → are_inner n (split_lines (marker_line byte n label noted ++ text)) ≡ true
inner-block n byte label noted text is h inner unmarked =
    ap (are_inner n) (split-block n byte label noted text is)
    ∙ ap (λ m. (not (m == 60) && not (m == 62)) && are_inner n (split_lines text))
    (marker_of-marker byte n label noted is h)
    ∙ and_from (not (byte == 60) && not (byte == 62)) (are_inner n (split_lines text)) inner
    (inner-text n (split_lines text) unmarked)

inner-term_byte : (b : Bool) → (not (cond b 43 45 == 60) && not (cond b 43 45 == 62)) ≡ true
inner-term_byte true = refl
inner-term_byte false = refl

is_terminated-block : (n byte : ℕ) (label : List ℕ) (noted : Bool) (text : List ℕ)
    → is_terminated text ≡ true → is_terminated (marker_line byte n label noted ++ text) ≡ true
is_terminated-block n byte label noted text t =
    terminated-append (marker_line byte n label noted) text
    (is_terminated-marker byte n label noted) t

is_terminated-sections : (n : ℕ) (labels : List (List ℕ)) (i : ℕ) (terms : List (List ℕ))
    → is_terminated (sections n labels i terms) ≡ true
is_terminated-sections n labels i [] = refl
is_terminated-sections n labels i (t ∷ terms) =
    terminated-append (section n (term_byte i) (label_at labels i) t)
    (sections n labels (i + 1) terms)
    (is_terminated-block n (term_byte i) (label_at labels i) (not (is_terminated t)) (terminated t)
    (is_terminated-terminated t))
    (is_terminated-sections n labels (i + 1) terms)

inner-sections : (n : ℕ) (labels : List (List ℕ)) (i : ℕ) (terms : List (List ℕ)) → 0 < n
    → AllByRecursion (IsUnmarkedTerm n) terms
    → are_inner n (split_lines (sections n labels i terms)) ≡ true
inner-sections n labels i [] h unmarked = refl
inner-sections n labels i (t ∷ terms) h unmarked =
    let first : List ℕ = section n (term_byte i) (label_at labels i) t in
    let rest : List ℕ = sections n labels (i + 1) terms in
    ap (are_inner n) (split-append first rest
    (is_terminated-block n (term_byte i) (label_at labels i) (not (is_terminated t)) (terminated t)
    (is_terminated-terminated t)))
    ∙ inner-append n (split_lines first) (split_lines rest)
    (inner-block n (term_byte i) (label_at labels i) (not (is_terminated t)) (terminated t)
    (is_marker-term_byte i) h (inner-term_byte (i % 2 == 0)) unmarked.0)
    (inner-sections n labels (i + 1) terms h unmarked.1)

-- ---- a conflict

-- a line that starts or ends a conflict
record IsLine (n byte : ℕ) (line : List ℕ) : Type 0 where
  pub marker : marker_of n line ≡ byte
  pub one : split_lines line ≡ line ∷ []
  pub complete : is_terminated line ≡ true
  pub nonempty : is_null line ≡ false

nonempty-push : (x : List ℕ) (b : ℕ) → is_null (x ++ b ∷ []) ≡ false
nonempty-push [] b = refl
nonempty-push (c ∷ x) b = refl

nonempty-append : (x y : List ℕ) → is_null x ≡ false → is_null (x ++ y) ≡ false
nonempty-append [] y h = absurd (true≢false h)
nonempty-append (c ∷ x) y h = refl

marker-line : (byte n : ℕ) (label : List ℕ) (noted : Bool) → IsMarkerByte byte → 0 < n
    → IsLine n byte (marker_line byte n label noted)
marker-line byte n label noted is h = record {
  marker = marker_of-marker byte n label noted is h;
  one = split-marker byte n label noted is;
  complete = is_terminated-marker byte n label noted;
  nonempty = nonempty-push _ 10;
}

inner-step : (n sides : ℕ) (hunks : List (List (List ℕ))) (resolved pending line : List ℕ)
    → is_null pending ≡ false
    → (not (marker_of n line == 60) && not (marker_of n line == 62)) ≡ true
    → with_text_line n sides
    (hunks_at hunks resolved pending) line
    ≡ hunks_at hunks resolved (pending ++ line)
inner-step n sides hunks resolved pending line nonempty inner =
    let s : Hunks = hunks_at hunks resolved pending in
    let p : (not (marker_of n line == 60) ≡ true) × (not (marker_of n line == 62) ≡ true)
    = and_parts (not (marker_of n line == 60)) (not (marker_of n line == 62)) inner in
    let ended : Hunks = with_conflict s line (terms_of n sides (split_lines pending) line) in
    let more : Hunks = record s { pending = pending ++ line } in
    let text : Hunks = record s { resolved = resolved ++ line } in
    cond_false (marker_of n line == 60) (after_start s line)
    (cond (is_null pending) text (cond (marker_of n line == 62) ended more))
    (not-true (marker_of n line == 60) p.0)
    ∙ cond_false (is_null pending) text (cond (marker_of n line == 62) ended more) nonempty
    ∙ cond_false (marker_of n line == 62) ended more (not-true (marker_of n line == 62) p.1)

inner-lines : (n sides : ℕ) (hunks : List (List (List ℕ))) (resolved pending : List ℕ)
    (lines : List (List ℕ)) → is_null pending ≡ false → are_inner n lines ≡ true
    → fold (with_text_line n sides)
    (hunks_at hunks resolved pending) lines
    ≡ hunks_at hunks resolved (pending ++ concat lines)
inner-lines n sides hunks resolved pending [] nonempty inner =
    ap (λ p. hunks_at hunks resolved p) (sym (append-nil pending))
inner-lines n sides hunks resolved pending (line ∷ lines) nonempty inner =
    let p : ((not (marker_of n line == 60) && not (marker_of n line == 62)) ≡ true)
    × (are_inner n lines ≡ true)
    = and_parts (not (marker_of n line == 60) && not (marker_of n line == 62))
    (are_inner n lines) inner in
    ap (λ u. fold (with_text_line n sides) u lines)
    (inner-step n sides hunks resolved pending line nonempty p.0)
    ∙ inner-lines n sides hunks resolved (pending ++ line) lines
    (nonempty-append pending line nonempty) p.1
    ∙ ap (λ q. hunks_at hunks resolved q)
    (append_assoc pending line (concat lines))

start-step : (n sides : ℕ) (hunks : List (List (List ℕ))) (resolved line : List ℕ)
    → marker_of n line ≡ 60
    → with_text_line n sides (hunks_at hunks resolved []) line
    ≡ hunks_at hunks resolved line
start-step n sides hunks resolved line e =
    let s : Hunks = hunks_at hunks resolved [] in
    cond_true (marker_of n line == 60) (after_start s line)
    (record s { resolved = resolved ++ line }) (eq-eqb (marker_of n line) 60 e)
    ∙ ap (λ r. hunks_at hunks r line) (append-nil resolved)

end-step : (n sides : ℕ) (hunks : List (List (List ℕ))) (resolved pending line : List ℕ)
    → is_null pending ≡ false → marker_of n line ≡ 62
    → with_text_line n sides
    (hunks_at hunks resolved pending) line
    ≡ with_conflict (hunks_at hunks resolved pending) line
    (terms_of n sides (split_lines pending) line)
end-step n sides hunks resolved pending line nonempty e =
    let s : Hunks = hunks_at hunks resolved pending in
    let ended : Hunks = with_conflict s line (terms_of n sides (split_lines pending) line) in
    let more : Hunks = record s { pending = pending ++ line } in
    let text : Hunks = record s { resolved = resolved ++ line } in
    cond_false (marker_of n line == 60) (after_start s line)
    (cond (is_null pending) text (cond (marker_of n line == 62) ended more))
    (ap (λ m. m == 60) e)
    ∙ cond_false (is_null pending) text (cond (marker_of n line == 62) ended more) nonempty
    ∙ cond_true (marker_of n line == 62) ended more (eq-eqb (marker_of n line) 62 e)

conflict_read : (n sides : ℕ) (hunks : List (List (List ℕ))) (resolved start body end : List ℕ)
    (terms : List (List ℕ)) → IsLine n 60 start → IsLine n 62 end → is_terminated body ≡ true
    → are_inner n (split_lines body) ≡ true
    → terms_after n sides start (split_lines body) end ≡ Some terms
    → fold (with_text_line n sides)
    (hunks_at hunks resolved [])
    (split_lines (start ++ body ++ end))
    ≡ hunks_at (hunks ++ resolved_hunk resolved ++ terms ∷ []) [] []
conflict_read n sides hunks resolved start body end terms first last complete inner found =
    let f : Hunks → List ℕ → Hunks = with_text_line n sides in
    let s : Hunks = hunks_at hunks resolved [] in
    let t : Hunks = hunks_at hunks resolved (start ++ body) in
    let front : split_lines (start ++ body) ≡ start ∷ split_lines body
    = split-append start body first.complete
    ∙ ap (λ ls. ls ++ split_lines body) first.one in
    ap (fold f s) (split-append (start ++ body) end
    (terminated-append start body first.complete complete))
    ∙ fold-append f s (split_lines (start ++ body)) (split_lines end)
    ∙ ap (λ ls. fold f (fold f s ls) (split_lines end)) front
    ∙ ap (λ u. fold f (fold f u (split_lines body)) (split_lines end))
    (start-step n sides hunks resolved start first.marker)
    ∙ ap (λ u. fold f u (split_lines end))
    (inner-lines n sides hunks resolved start (split_lines body) first.nonempty inner
    ∙ ap (λ x. hunks_at hunks resolved (start ++ x))
    (concat-split body))
    ∙ ap (fold f t) last.one
    ∙ end-step n sides hunks resolved (start ++ body) end
    (nonempty-append start body first.nonempty) last.marker
    ∙ ap (λ ls. with_conflict t end (terms_of n sides ls end)) front
    ∙ ap (with_conflict t end) found

-- ---- both styles

starts : IsMarkerByte 60
starts = record { marker = refl; no_space = refl; no_newline = refl; newline = refl; space = refl }

ends : IsMarkerByte 62
ends = record { marker = refl; no_space = refl; no_newline = refl; newline = refl; space = refl }

sided : (k sides : ℕ) → k + 2 ≡ 2 * sides → has_sides sides k ≡ true
sided k sides e =
    and_from (k % 2 == 0) (k / 2 + 1 == sides) (eq-eqb (k % 2) 0 (omega arith))
    (eq-eqb (k / 2 + 1) sides (omega arith))

snapshot_read : (n sides : ℕ) (hunks : List (List (List ℕ))) (resolved : List ℕ)
    (labels : List (List ℕ)) (number count : ℕ) (t : List ℕ) (terms : List (List ℕ)) → 0 < n
    → AllByRecursion (IsUnmarkedTerm n) (t ∷ terms) → length (t ∷ terms) + 1 ≡ 2 * sides
    → fold (with_text_line n sides)
    (hunks_at hunks resolved [])
    (split_lines (snapshot_text n labels number count (t ∷ terms)))
    ≡ hunks_at (hunks ++ resolved_hunk resolved ++ (t ∷ terms) ∷ []) [] []
snapshot_read n sides hunks resolved labels number count t terms h unmarked size =
    let label : List ℕ = conflict_label number count ++ codes " ends" in
    let start : List ℕ = marker_line 60 n (conflict_label number count) false in
    let end : List ℕ = marker_line 62 n label false in
    conflict_read n sides hunks resolved start (sections n labels 0 (t ∷ terms)) end
    (t ∷ terms) (marker-line 60 n (conflict_label number count) false starts h)
    (marker-line 62 n label false ends h) (is_terminated-sections n labels 0 (t ∷ terms))
    (inner-sections n labels 0 (t ∷ terms) h unmarked)
    (snapshot_parsed n sides labels start t terms end h unmarked
    (sided (length terms) sides (omega (arith, size))))

separator : IsMarkerByte 61
separator = record {
  marker = refl;
  no_space = refl;
  no_newline = refl;
  newline = refl;
  space = refl;
}

ancestor : IsMarkerByte 124
ancestor = record {
  marker = refl;
  no_space = refl;
  no_newline = refl;
  newline = refl;
  space = refl;
}

regrouped : (a b c d e f : List ℕ)
    → ((((a ++ b) ++ c) ++ d) ++ e) ++ f ≡ (a ++ (b ++ (c ++ (d ++ e)))) ++ f
regrouped a b c d e f =
    ap (λ x. x ++ f) (append_assoc ((a ++ b) ++ c) d e ∙ append_assoc (a ++ b) c (d ++ e)
    ∙ append_assoc a b (c ++ (d ++ e)))

git_read : (n sides : ℕ) (hunks : List (List (List ℕ))) (resolved : List ℕ)
    (labels : List (List ℕ)) (left base right : List ℕ) → 0 < n
    → IsUnmarkedTerm n left → IsUnmarkedTerm n base → IsUnmarkedTerm n right → 4 ≡ 2 * sides
    → fold (with_text_line n sides)
    (hunks_at hunks resolved [])
    (split_lines (git_text n labels left base right))
    ≡ hunks_at (hunks ++ resolved_hunk resolved ++ (left ∷ base ∷ right ∷ []) ∷ []) [] []
git_read n sides hunks resolved labels left base right h unl unb unr size =
    let start : List ℕ = marker_line 60 n (label_at labels 0) (not (is_terminated left)) in
    let end : List ℕ = marker_line 62 n (label_at labels 2) (not (is_terminated right)) in
    let middle : List ℕ = marker_line 61 n [] false in
    let second : List ℕ = section n 124 (label_at labels 1) base in
    let third : List ℕ = middle ++ terminated right in
    let body : List ℕ = terminated left ++ (second ++ third) in
    let note : Bool = not (is_terminated base) in
    let done2 : is_terminated second ≡ true
    = is_terminated-block n 124 (label_at labels 1) note (terminated base)
    (is_terminated-terminated base) in
    let done3 : is_terminated third ≡ true
    = is_terminated-block n 61 [] false (terminated right) (is_terminated-terminated right) in
    let inner : are_inner n (split_lines body) ≡ true
    = ap (are_inner n) (split-append (terminated left) (second ++ third)
    (is_terminated-terminated left)
    ∙ ap (λ ls. split_lines (terminated left) ++ ls) (split-append second third done2))
    ∙ inner-append n (split_lines (terminated left)) (split_lines second ++ split_lines third)
    (inner-text n (split_lines (terminated left)) unl)
    (inner-append n (split_lines second) (split_lines third)
    (inner-block n 124 (label_at labels 1) note (terminated base) ancestor h refl unb)
    (inner-block n 61 [] false (terminated right) separator h refl unr)) in
    ap (λ x. fold (with_text_line n sides)
    (hunks_at hunks resolved []) (split_lines x))
    (regrouped start (terminated left) second middle (terminated right) end)
    ∙ conflict_read n sides hunks resolved start body end (left ∷ base ∷ right ∷ [])
    (marker-line 60 n (label_at labels 0) (not (is_terminated left)) starts h)
    (marker-line 62 n (label_at labels 2) (not (is_terminated right)) ends h)
    (terminated-append (terminated left) (second ++ third) (is_terminated-terminated left)
    (terminated-append second third done2 done3))
    inner
    (git_parsed n sides start end (label_at labels 1) left base right h ancestor separator
    (has_note-marker 60 n (label_at labels 0) (not (is_terminated left)) starts)
    (has_note-marker 62 n (label_at labels 2) (not (is_terminated right)) ends)
    unl unb unr (sided 2 sides size))

git_text_read : (n sides : ℕ) (hunks : List (List (List ℕ)))
    (resolved : List ℕ) (labels : List (List ℕ)) (number count : ℕ) (a b : List ℕ)
    (terms : List (List ℕ)) → 0 < n → AllByRecursion (IsUnmarkedTerm n) (a ∷ b ∷ terms)
    → length (a ∷ b ∷ terms) + 1 ≡ 2 * sides
    → fold (with_text_line n sides)
    (hunks_at hunks resolved [])
    (split_lines (conflict_text Git n labels number count (a ∷ b ∷ terms)))
    ≡ hunks_at (hunks ++ resolved_hunk resolved ++ (a ∷ b ∷ terms) ∷ []) [] []
git_text_read n sides hunks resolved labels number count a b [] h unmarked size =
    snapshot_read n sides hunks resolved labels number count a (b ∷ []) h unmarked size
git_text_read n sides hunks resolved labels number count a b (c ∷ []) h unmarked size =
    git_read n sides hunks resolved labels a b c h unmarked.0 unmarked.1.0 unmarked.1.1.0 size
git_text_read n sides hunks resolved labels number count a b (c ∷ d ∷ ts) h unmarked size =
    snapshot_read n sides hunks resolved labels number count a (b ∷ c ∷ d ∷ ts) h unmarked size

-- ---- the diff style

weaker-runs : (m n : ℕ) (lines : List (List ℕ)) → m ≤ n
    → list_all (λ line. nat_lt (run_length line) m) lines ≡ true
    → list_all (λ line. nat_lt (run_length line) n) lines ≡ true
weaker-runs m n [] le h = refl
weaker-runs m n (line ∷ lines) le h =
    let p : (nat_lt (run_length line) m ≡ true) × (list_all (λ l. nat_lt (run_length l) m) lines ≡ true)
    = and_parts (nat_lt (run_length line) m) (list_all (λ l. nat_lt (run_length l) m) lines) h in
    let lt : run_length line < m = ltb-true (run_length line) m p.0 in
    and_from (nat_lt (run_length line) n) (list_all (λ l. nat_lt (run_length l) n) lines)
    (lt-ltb (run_length line) n (omega (arith, lt))) (weaker-runs m n lines le p.1)

weaker-terms : (m n : ℕ) (terms : List (List ℕ)) → m ≤ n → AllByRecursion (IsUnmarkedTerm m) terms
    → AllByRecursion (IsUnmarkedTerm n) terms
weaker-terms m n [] le ok = tt
weaker-terms m n (t ∷ terms) le ok =
    (weaker-runs m n (split_lines (terminated t)) le ok.0, weaker-terms m n terms le ok.1)

readable-terms : (n : ℕ) (terms : List (List ℕ)) → all_terminated terms ≡ true
    → AllByRecursion (IsUnmarkedTerm (n - 1)) terms → AreReadable n terms
readable-terms n [] ended ok = tt
readable-terms n (t ∷ terms) ended ok =
    let p : (is_terminated t ≡ true) × (all_terminated terms ≡ true)
    = and_parts (is_terminated t) (all_terminated terms) ended in (
      (
        p.0,
        subst (IsUnmarked (n - 1)) (cond_true (is_terminated t) t (t ++ 10 ∷ []) p.0) ok.0,
        weaker-runs (n - 1) n (split_lines (terminated t)) (omega arith) ok.0,
      ),
      readable-terms n terms p.1 ok.1,
    )

sections_text_read : (n sides : ℕ) (hunks : List (List (List ℕ))) (resolved : List ℕ)
    (labels : List (List ℕ)) (number count : ℕ) (a b : List ℕ) (terms : List (List ℕ)) (body : List ℕ)
    → 0 < n → AreSections n labels 0 (a ∷ b ∷ terms) body → AreReadable n (a ∷ b ∷ terms)
    → length (a ∷ b ∷ terms) + 1 ≡ 2 * sides
    → fold (with_text_line n sides) (hunks_at hunks resolved [])
    (split_lines (marker_line 60 n (conflict_label number count) false ++ body
    ++ marker_line 62 n (conflict_label number count ++ codes " ends") false))
    ≡ hunks_at (hunks ++ resolved_hunk resolved ++ (a ∷ b ∷ terms) ∷ []) [] []
sections_text_read n sides hunks resolved labels number count a b terms body h s ok size =
    let label : List ℕ = conflict_label number count ++ codes " ends" in
    let start : List ℕ = marker_line 60 n (conflict_label number count) false in
    let end : List ℕ = marker_line 62 n label false in
    conflict_read n sides hunks resolved start body end (a ∷ b ∷ terms)
    (marker-line 60 n (conflict_label number count) false starts h) (marker-line 62 n label false ends h)
    (sections_ended n labels 0 (a ∷ b ∷ terms) body s ok)
    (sections_inside n labels 0 (a ∷ b ∷ terms) body h s ok)
    (sections_parsed n sides labels start a b terms body end h s ok size)

is_terminated-snapshot : (n : ℕ) (labels : List (List ℕ)) (number count : ℕ)
    (terms : List (List ℕ)) → is_terminated (snapshot_text n labels number count terms) ≡ true
is_terminated-snapshot n labels number count terms =
    terminated-append
    (marker_line 60 n (conflict_label number count) false ++ sections n labels 0 terms)
    (marker_line 62 n (conflict_label number count ++ codes " ends") false)
    (is_terminated-block n 60 (conflict_label number count) false
    (sections n labels 0 terms) (is_terminated-sections n labels 0 terms))
    (is_terminated-marker 62 n (conflict_label number count ++ codes " ends") false)

is_terminated-git : (n : ℕ) (labels : List (List ℕ))
    (number count : ℕ) (a b : List ℕ) (terms : List (List ℕ))
    → is_terminated (conflict_text Git n labels number count (a ∷ b ∷ terms)) ≡ true
is_terminated-git n labels number count a b [] =
    is_terminated-snapshot n labels number count (a ∷ b ∷ [])
is_terminated-git n labels number count a b (c ∷ []) =
    terminated-append
    (section n 60 (label_at labels 0) a ++ section n 124 (label_at labels 1) b
    ++ marker_line 61 n [] false ++ terminated c) _
    (terminated-append
    (section n 60 (label_at labels 0) a ++ section n 124 (label_at labels 1) b
    ++ marker_line 61 n [] false) (terminated c)
    (terminated-append
    (section n 60 (label_at labels 0) a ++ section n 124 (label_at labels 1) b)
    (marker_line 61 n [] false)
    (terminated-append (section n 60 (label_at labels 0) a)
    (section n 124 (label_at labels 1) b)
    (is_terminated-block n 60 (label_at labels 0) (not (is_terminated a)) (terminated a)
    (is_terminated-terminated a))
    (is_terminated-block n 124 (label_at labels 1) (not (is_terminated b)) (terminated b)
    (is_terminated-terminated b)))
    (is_terminated-marker 61 n [] false))
    (is_terminated-terminated c))
    (is_terminated-marker 62 n (label_at labels 2) (not (is_terminated c)))
is_terminated-git n labels number count a b (c ∷ d ∷ ts) =
    is_terminated-snapshot n labels number count (a ∷ b ∷ c ∷ d ∷ ts)

-- ---- a conflict in any style

-- the parser reads these bytes as this conflict
record IsRead (n sides : ℕ) (terms : List (List ℕ)) (text : List ℕ) : Type 0 where
  pub ended : is_terminated text ≡ true
  pub parsed_as : (hunks : List (List (List ℕ))) (resolved : List ℕ)
      → fold (with_text_line n sides) (hunks_at hunks resolved []) (split_lines text)
      ≡ hunks_at (hunks ++ resolved_hunk resolved ++ terms ∷ []) [] []

snapshot_is_read : (n sides : ℕ) (labels : List (List ℕ)) (number count : ℕ) (a b : List ℕ)
    (terms : List (List ℕ)) → 0 < n → AllByRecursion (IsUnmarkedTerm n) (a ∷ b ∷ terms)
    → length (a ∷ b ∷ terms) + 1 ≡ 2 * sides
    → IsRead n sides (a ∷ b ∷ terms) (snapshot_text n labels number count (a ∷ b ∷ terms))
snapshot_is_read n sides labels number count a b terms h ok size = record {
  ended = is_terminated-snapshot n labels number count (a ∷ b ∷ terms);
  parsed_as = λ hunks resolved. snapshot_read n sides hunks resolved labels number count a (b ∷ terms) h ok size;
}

diff_is_read : (ended : Bool) (n sides : ℕ) (labels : List (List ℕ)) (number count : ℕ) (a b : List ℕ)
    (terms : List (List ℕ)) (text : List ℕ) → all_terminated (a ∷ b ∷ terms) ≡ ended → 0 < n
    → AllByRecursion (IsUnmarkedTerm (n - 1)) (a ∷ b ∷ terms)
    → length (a ∷ b ∷ terms) + 1 ≡ 2 * sides
    → IsDiffText ended n labels number count (a ∷ b ∷ terms) text
    → IsRead n sides (a ∷ b ∷ terms) text
diff_is_read true n sides labels number count a b terms text e h ok size t =
    let readable : AreReadable n (a ∷ b ∷ terms) = readable-terms n (a ∷ b ∷ terms) e ok in
    let start : List ℕ = marker_line 60 n (conflict_label number count) false in
    let end : List ℕ = marker_line 62 n (conflict_label number count ++ codes " ends") false in
    subst (IsRead n sides (a ∷ b ∷ terms)) (sym t.1.1) (record {
      ended = terminated-append (start ++ t.0) end
          (terminated-append start t.0 (is_terminated-marker 60 n (conflict_label number count) false)
          (sections_ended n labels 0 (a ∷ b ∷ terms) t.0 t.1.0 readable))
          (is_terminated-marker 62 n (conflict_label number count ++ codes " ends") false);
      parsed_as = λ hunks resolved.
          sections_text_read n sides hunks resolved labels number count a b terms t.0 h t.1.0 readable size;
    })
diff_is_read false n sides labels number count a b terms text e h ok size t =
    subst (IsRead n sides (a ∷ b ∷ terms)) (sym t)
    (snapshot_is_read n sides labels number count a b terms h (weaker-terms (n - 1) n (a ∷ b ∷ terms) (omega arith) ok) size)

conflict_is_read : (style : ConflictMarkerStyle) (n sides : ℕ) (labels : List (List ℕ))
    (number count : ℕ) (a b : List ℕ) (terms : List (List ℕ)) (text : List ℕ) → 0 < n
    → AllByRecursion (IsUnmarkedTerm (run_limit style n)) (a ∷ b ∷ terms)
    → length (a ∷ b ∷ terms) + 1 ≡ 2 * sides
    → IsConflictText style n labels number count (a ∷ b ∷ terms) text
    → IsRead n sides (a ∷ b ∷ terms) text
conflict_is_read Diff n sides labels number count a b terms text h ok size t =
    diff_is_read (all_terminated (a ∷ b ∷ terms)) n sides labels number count a b terms text refl h ok size t
conflict_is_read Snapshot n sides labels number count a b terms text h ok size t =
    subst (IsRead n sides (a ∷ b ∷ terms)) (sym t)
    (snapshot_is_read n sides labels number count a b terms h ok size)
conflict_is_read Git n sides labels number count a b terms text h ok size t =
    subst (IsRead n sides (a ∷ b ∷ terms)) (sym t) (record {
      ended = is_terminated-git n labels number count a b terms;
      parsed_as = λ hunks resolved. git_text_read n sides hunks resolved labels number count a b terms h ok size;
    })

-- ---- resolved content

text-step : (n sides : ℕ) (hunks : List (List (List ℕ))) (resolved line : List ℕ)
    → run_length line < n
    → with_text_line n sides (hunks_at hunks resolved []) line
    ≡ hunks_at hunks (resolved ++ line) []
text-step n sides hunks resolved line h =
    let s : Hunks = hunks_at hunks resolved [] in
    cond_false (marker_of n line == 60) (after_start s line)
    (record s { resolved = resolved ++ line })
    (ap (λ m. m == 60) (marker_of-other n line h))

text-lines : (n sides : ℕ) (hunks : List (List (List ℕ))) (resolved : List ℕ)
    (lines : List (List ℕ)) → list_all (λ line. nat_lt (run_length line) n) lines ≡ true
    → fold (with_text_line n sides)
    (hunks_at hunks resolved []) lines
    ≡ hunks_at hunks (resolved ++ concat lines) []
text-lines n sides hunks resolved [] h =
    ap (λ r. hunks_at hunks r []) (sym (append-nil resolved))
text-lines n sides hunks resolved (line ∷ lines) h =
    let p : (nat_lt (run_length line) n ≡ true)
    × (list_all (λ l. nat_lt (run_length l) n) lines ≡ true)
    = and_parts (nat_lt (run_length line) n) (list_all (λ l. nat_lt (run_length l) n) lines) h
    in
    ap (λ u. fold (with_text_line n sides) u lines)
    (text-step n sides hunks resolved line (ltb-true (run_length line) n p.0))
    ∙ text-lines n sides hunks (resolved ++ line) lines p.1
    ∙ ap (λ r. hunks_at hunks r [])
    (append_assoc resolved line (concat lines))

text_read : (n sides : ℕ) (hunks : List (List (List ℕ))) (resolved text : List ℕ)
    → IsUnmarked n text
    → fold (with_text_line n sides)
    (hunks_at hunks resolved []) (split_lines text)
    ≡ hunks_at hunks (resolved ++ text) []
text_read n sides hunks resolved text unmarked =
    text-lines n sides hunks resolved (split_lines text) unmarked
    ∙ ap (λ x. hunks_at hunks (resolved ++ x) [])
    (concat-split text)

-- ---- all hunks

-- the hunks read after these
abbrev pub read_after : ℕ → ℕ → List (List (List ℕ)) → List ℕ → List ℕ → List (List (List ℕ))
read_after n sides hunks resolved text =
    all_hunks (fold (with_text_line n sides)
    (hunks_at hunks resolved []) (split_lines text))

last_text : (n sides : ℕ) (hunks : List (List (List ℕ))) (resolved text : List ℕ)
    → IsUnmarked n text
    → read_after n sides hunks resolved text ≡ hunks ++ resolved_hunk (resolved ++ text)
last_text n sides hunks resolved text unmarked =
    ap all_hunks (text_read n sides hunks resolved text unmarked)
    ∙ ap (λ r. hunks ++ resolved_hunk r) (append-nil (resolved ++ text))

limit-within : (style : ConflictMarkerStyle) (n : ℕ) → run_limit style n ≤ n
limit-within Diff n = omega arith
limit-within Snapshot n = omega arith
limit-within Git n = omega arith

pub hunks_read : (style : ConflictMarkerStyle) (n sides : ℕ) (labels : List (List ℕ))
    (number count : ℕ) (before : List (List (List ℕ))) (resolved : List ℕ)
    (hunks : List (List (List ℕ))) (text : List ℕ) → 0 < n → IsParsable (run_limit style n) sides hunks
    → IsRenderedFrom style n labels number count hunks text
    → read_after n sides before resolved text ≡ before ++ joined_after resolved hunks
hunks_read style n sides labels number count before resolved [] text h ok r =
    ap (read_after n sides before resolved) r
    ∙ ap (λ x. before ++ resolved_hunk x) (append-nil resolved)
hunks_read style n sides labels number count before resolved ((term ∷ []) ∷ hunks) text h ok r =
    let rest : List ℕ = r.0 in
    let f : Hunks → List ℕ → Hunks = with_text_line n sides in
    let s : Hunks = hunks_at before resolved [] in
    let unmarked : IsUnmarked n term
    = weaker-runs (run_limit style n) n (split_lines term) (limit-within style n) ok.0 in
    elim ok.1 [
      | inl complete ↦
          ap (read_after n sides before resolved) r.1.1
          ∙ ap (λ ls. all_hunks (fold f s ls)) (split-append term rest complete)
          ∙ ap all_hunks (fold-append f s (split_lines term) (split_lines rest))
          ∙ ap (λ u. all_hunks (fold f u (split_lines rest)))
          (text_read n sides before resolved term unmarked)
          ∙ hunks_read style n sides labels number count before (resolved ++ term) hunks rest h ok.2 r.1.0
      | inr last ↦
          let empty : rest ≡ []
          = subst (λ hs. IsRenderedFrom style n labels number count hs rest) last r.1.0 in
          ap (read_after n sides before resolved) (r.1.1 ∙ ap (λ x. term ++ x) empty ∙ append-nil term)
          ∙ last_text n sides before resolved term unmarked
          ∙ sym (ap (λ x. before ++ joined_after (resolved ++ term) x) last)
    ]
hunks_read style n sides labels number count before resolved ([] ∷ hunks) text h ok r =
    absurd (omega (arith, ok.0))
hunks_read style n sides labels number count before resolved ((a ∷ b ∷ terms) ∷ hunks) text h ok r =
    let first : List ℕ = r.0 in
    let rest : List ℕ = r.1.0 in
    let f : Hunks → List ℕ → Hunks = with_text_line n sides in
    let s : Hunks = hunks_at before resolved [] in
    let front : List (List (List ℕ)) = before ++ resolved_hunk resolved ++ (a ∷ b ∷ terms) ∷ [] in
    let read : IsRead n sides (a ∷ b ∷ terms) first
    = conflict_is_read style n sides labels (number + 1) count a b terms first h ok.1 ok.0 r.1.1.0 in
    ap (read_after n sides before resolved) r.1.1.2
    ∙ ap (λ ls. all_hunks (fold f s ls)) (split-append first rest read.ended)
    ∙ ap all_hunks (fold-append f s (split_lines first) (split_lines rest))
    ∙ ap (λ u. all_hunks (fold f u (split_lines rest))) (read.parsed_as before resolved)
    ∙ hunks_read style n sides labels (number + 1) count front [] hunks rest h ok.2 r.1.1.1
    ∙ append_assoc (before ++ resolved_hunk resolved) ((a ∷ b ∷ terms) ∷ []) (joined_after [] hunks)
    ∙ append_assoc before (resolved_hunk resolved) ((a ∷ b ∷ terms) ∷ joined_after [] hunks)

pub parsed_rendered : (style : ConflictMarkerStyle) (n sides : ℕ) (labels : List (List ℕ))
    (hunks : List (List (List ℕ))) (text : List ℕ) → 0 < n → IsParsable (run_limit style n) sides hunks
    → IsRendered style n labels hunks text → parsed n sides text ≡ joined hunks
parsed_rendered style n sides labels hunks text h ok r =
    hunks_read style n sides labels 0 (conflict_count hunks) [] [] hunks text h ok r

-- ---- a single rendering

exact_conflict : (style : ConflictMarkerStyle) (n : ℕ) (labels : List (List ℕ)) (number count : ℕ)
    (terms : List (List ℕ)) (text : List ℕ) → (style ≡ Diff → ⊥)
    → IsConflictText style n labels number count terms text
    → text ≡ conflict_text style n labels number count terms
exact_conflict Diff n labels number count terms text h t = absurd (h refl)
exact_conflict Snapshot n labels number count terms text h t = t
exact_conflict Git n labels number count terms text h t = t

exact_from : (style : ConflictMarkerStyle) (n : ℕ) (labels : List (List ℕ)) (number count : ℕ)
    (hunks : List (List (List ℕ))) (text : List ℕ) → (style ≡ Diff → ⊥)
    → IsRenderedFrom style n labels number count hunks text
    → text ≡ rendered_from style n labels number count hunks
exact_from style n labels number count [] text h r = r
exact_from style n labels number count ((term ∷ []) ∷ hunks) text h r =
    r.1.1 ∙ ap (λ x. term ++ x) (exact_from style n labels number count hunks r.0 h r.1.0)
exact_from style n labels number count ([] ∷ hunks) text h r =
    r.1.1.2
    ∙ ap (λ x. x ++ r.1.0) (exact_conflict style n labels (number + 1) count [] r.0 h r.1.1.0)
    ∙ ap (λ x. conflict_text style n labels (number + 1) count [] ++ x)
    (exact_from style n labels (number + 1) count hunks r.1.0 h r.1.1.1)
exact_from style n labels number count ((a ∷ b ∷ terms) ∷ hunks) text h r =
    r.1.1.2
    ∙ ap (λ x. x ++ r.1.0) (exact_conflict style n labels (number + 1) count (a ∷ b ∷ terms) r.0 h r.1.1.0)
    ∙ ap (λ x. conflict_text style n labels (number + 1) count (a ∷ b ∷ terms) ++ x)
    (exact_from style n labels (number + 1) count hunks r.1.0 h r.1.1.1)

pub exact_rendering : (style : ConflictMarkerStyle) (n : ℕ) (labels : List (List ℕ))
    (hunks : List (List (List ℕ))) (text : List ℕ) → (style ≡ Diff → ⊥)
    → IsRendered style n labels hunks text → text ≡ rendered style n labels hunks
exact_rendering style n labels hunks text h r =
    exact_from style n labels 0 (conflict_count hunks) hunks text h r
