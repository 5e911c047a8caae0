-- A hunk that matched before a refinement is part of one that matches after it.
use Rattle.std.proofs.Common.{◌≡◌, ℕ, zero, ◌+◌, ◌<◌, ◌≤◌, List, [], ◌∷◌, ◌++◌, length, map, get_or, refl, ap, sym, ◌∙◌, subst, arith, inl, inr, length-append, append_assoc, append-nil, All}
use Rattle.jj_diff.specs.Tokens.{TokenEnds, is_line_end, is_word_end}
use Rattle.jj_diff.specs.declared.diff.hunks.DiffHunk.{DiffHunk}
use Rattle.jj_diff.specs.declared.diff.hunks.DiffHunkKind.{DiffHunkKind}
use Rattle.jj_diff.specs.declared.diff.hunks.DiffHunkKind.TheVariants.{Matching, Different}
use Rattle.jj_diff.specs.Inputs.{side}
use Rattle.jj_diff.specs.Ends.{IsCommonEnd}
use Rattle.jj_diff.specs.Hunks.{row_of, kind_len, matched_start, matched_end, MatchesEnds, IsDiff, AreTrimmed}
use Rattle.jj_diff.specs.Refined.{View, view_of, view_side, append_rows, join_kinds, join_first, joined, AreHunksOf, AreRefinements, IsRefined, IsRefinedLines, StaysMatched, KeepsMatches, KeepsEnds}
use Rattle.jj_diff.proofs.Views.{view_side_of, side-append, get-append_rows}
use Rattle.jj_diff.proofs.Refined.{kind_cases, all_head, all_tail, split_views, kept_first, side_one, hunks_of_diff}

-- A row is within a matching view, after n bytes of side i that views and a start have.
record Within (n : ℕ) (before : ℕ → List ℕ) (row : List (List ℕ)) (vs : List View) : Type 0 where
  earlier : List View
  around : View
  later : List View
  split : vs ≡ earlier ++ around ∷ later
  matching : around.0 ≡ Matching
  start : ℕ → List ℕ
  end : ℕ → List ℕ
  part : (i : ℕ) → i < n → get_or around.1 i [] ≡ start i ++ (get_or row i [] ++ end i)
  place : (i : ℕ) → i < n → view_side i earlier ++ start i ≡ before i

-- one more view before
module _ (n : ℕ) (v : View) (before : ℕ → List ℕ) (row : List (List ℕ)) where
  within_view : (vs : List View) → Within n before row vs
      → Within n (λ i. get_or v.1 i [] ++ before i) row (v ∷ vs)
  within_view vs w = record {
    earlier = v ∷ w.earlier;
    around = w.around;
    later = w.later;
    split = ap (λ us. v ∷ us) w.split;
    matching = w.matching;
    start = w.start;
    end = w.end;
    part = w.part;
    place = λ i lt. append_assoc (get_or v.1 i []) (view_side i w.earlier) (w.start i) ∙ ap (λ xs. get_or v.1 i [] ++ xs) (w.place i lt);
  }

first_of_views : (u v : View) (us vs : List View) → u ∷ us ≡ v ∷ vs → u ≡ v
first_of_views u v us vs e = ap (λ ws. get_or ws zero u) e

abbrev rest_of_views : List View → List View
rest_of_views [] = []
rest_of_views (v ∷ vs) = vs

no_split : (vs : List View) (v : View) (ws : List View) → [] ≡ vs ++ v ∷ ws → ⊥
no_split vs v ws e = omega (arith, ap length e, length-append vs (v ∷ ws))

-- the first view and the one before it are one
module _ (n : ℕ) (v : View) (before : ℕ → List ℕ) (row : List (List ℕ)) (u : View) (vs : List View) where
  joined_at : (earlier : List View) (around : View) (later : List View) (start end : ℕ → List ℕ)
      → u ∷ vs ≡ earlier ++ around ∷ later → around.0 ≡ Matching
      → ((i : ℕ) → i < n → get_or around.1 i [] ≡ start i ++ (get_or row i [] ++ end i))
      → ((i : ℕ) → i < n → view_side i earlier ++ start i ≡ before i)
      → Within n (λ i. get_or v.1 i [] ++ before i) row ((Matching, append_rows v.1 u.1) ∷ vs)
  joined_at [] around later start end split matching part place = record {
    earlier = [];
    around = (Matching, append_rows v.1 u.1);
    later = vs;
    split = refl;
    matching = refl;
    start = λ i. get_or v.1 i [] ++ start i;
    end = end;
    part = λ i lt. get-append_rows v.1 u.1 i
        ∙ ap (λ xs. get_or v.1 i [] ++ xs) (ap (λ x. get_or x.1 i []) (first_of_views u around vs later split) ∙ part i lt)
        ∙ sym (append_assoc (get_or v.1 i []) (start i) (get_or row i [] ++ end i));
    place = λ i lt. ap (λ xs. get_or v.1 i [] ++ xs) (place i lt);
  }
  joined_at (e ∷ es) around later start end split matching part place = record {
    earlier = (Matching, append_rows v.1 u.1) ∷ es;
    around = around;
    later = later;
    split = ap (λ ws. (Matching, append_rows v.1 u.1) ∷ rest_of_views ws) split;
    matching = matching;
    start = start;
    end = end;
    part = part;
    place = λ i lt.
        let one : get_or (append_rows v.1 u.1) i [] ≡ get_or v.1 i [] ++ get_or e.1 i [] =
        get-append_rows v.1 u.1 i ∙ ap (λ x. get_or v.1 i [] ++ get_or x.1 i []) (first_of_views u e vs (es ++ around ∷ later) split) in
        ap (λ xs. (xs ++ view_side i es) ++ start i) one
        ∙ ap (λ xs. xs ++ start i) (append_assoc (get_or v.1 i []) (get_or e.1 i []) (view_side i es))
        ∙ append_assoc (get_or v.1 i []) (get_or e.1 i [] ++ view_side i es) (start i)
        ∙ ap (λ xs. get_or v.1 i [] ++ xs) (place i lt);
  }

  within_kinds : (k l : DiffHunkKind) → Within n before row (u ∷ vs)
      → Within n (λ i. get_or v.1 i [] ++ before i) row (join_kinds k l v u vs)
  within_kinds Matching Matching w = joined_at w.earlier w.around w.later w.start w.end w.split w.matching w.part w.place
  within_kinds Matching Different w = within_view n v before row (u ∷ vs) w
  within_kinds Different Matching w = within_view n v before row (u ∷ vs) w
  within_kinds Different Different w = within_view n v before row (u ∷ vs) w

within_first : (n : ℕ) (v : View) (before : ℕ → List ℕ) (row : List (List ℕ)) (vs : List View) → Within n before row vs
    → Within n (λ i. get_or v.1 i [] ++ before i) row (join_first v vs)
within_first n v before row [] w = absurd (no_split w.earlier w.around w.later w.split)
within_first n v before row (u ∷ vs) w = within_kinds n v before row u vs v.0 u.0 w

-- a view that matches is within the one that it is joined to
within_itself : (n : ℕ) (m : View) (later : List View) → m.0 ≡ Matching → Within n (λ i. []) m.1 (m ∷ later)
within_itself n m later e = record {
  earlier = [];
  around = m;
  later = later;
  split = refl;
  matching = e;
  start = λ i. [];
  end = λ i. [];
  part = λ i lt. sym (append-nil (get_or m.1 i []));
  place = λ i lt. refl;
}

itself_kinds : (n : ℕ) (k l : DiffHunkKind) (m w : View) (vs : List View) → m.0 ≡ Matching
    → Within n (λ i. []) m.1 (join_kinds k l m w vs)
itself_kinds n Matching Matching m w vs e = record {
  earlier = [];
  around = (Matching, append_rows m.1 w.1);
  later = vs;
  split = refl;
  matching = refl;
  start = λ i. [];
  end = λ i. get_or w.1 i [];
  part = λ i lt. get-append_rows m.1 w.1 i;
  place = λ i lt. refl;
}
itself_kinds n Matching Different m w vs e = within_itself n m (w ∷ vs) e
itself_kinds n Different Matching m w vs e = within_itself n m (w ∷ vs) e
itself_kinds n Different Different m w vs e = within_itself n m (w ∷ vs) e

itself_first : (n : ℕ) (m : View) (vs : List View) → m.0 ≡ Matching → Within n (λ i. []) m.1 (join_first m vs)
itself_first n m [] e = within_itself n m [] e
itself_first n m (w ∷ vs) e = itself_kinds n m.0 w.0 m w vs e

within_joined : (n : ℕ) (before : List View) (m : View) (after : List View) → m.0 ≡ Matching
    → Within n (λ i. view_side i before) m.1 (joined (before ++ m ∷ after))
within_joined n [] m after e = itself_first n m (joined after) e
within_joined n (v ∷ before) m after e =
    within_first n v (λ i. view_side i before) m.1 (joined (before ++ m ∷ after)) (within_joined n before m after e)

-- a hunk among the refinements
record Among (n : ℕ) (before : List DiffHunk) (h : DiffHunk) (parts : List DiffHunk) : Type 0 where
  earlier : List View
  later : List View
  split : map view_of parts ≡ earlier ++ view_of h ∷ later
  place : (i : ℕ) → i < n → view_side i earlier ≡ side i (map row_of before)

among : (form : List ℕ → List ℕ) (t : TokenEnds) (n : ℕ) (before : List DiffHunk) (h : DiffHunk) (after parts : List DiffHunk)
    → AreRefinements form t (before ++ h ∷ after) parts → All (λ g. length (row_of g) ≡ n) (before ++ h ∷ after)
    → h.kind ≡ Matching → Among n before h parts
among form t n [] h after parts r all e = record {
  earlier = [];
  later = map view_of r.1;
  split = kept_first form t h after parts r e;
  place = λ i lt. refl;
}
among form t n (g ∷ before) h after parts r all e =
    let more : Among n before h r.1 = among form t n before h after r.1 r.4 (all_tail (λ x. length (row_of x) ≡ n) g (before ++ h ∷ after) all) e in
    record {
      earlier = map view_of r.0 ++ more.earlier;
      later = more.later;
      split = split_views form t g (before ++ h ∷ after) parts r ∙ ap (λ vs. map view_of r.0 ++ vs) more.split
          ∙ sym (append_assoc (map view_of r.0) more.earlier (view_of h ∷ more.later));
      place = λ i lt. side-append i (map view_of r.0) more.earlier
          ∙ ap (λ xs. xs ++ view_side i more.earlier) (side_one form t n i lt g r.0 r.3 (all_head (λ x. length (row_of x) ≡ n) g (before ++ h ∷ after) all))
          ∙ ap (λ xs. get_or (row_of g) i [] ++ xs) (more.place i lt);
    }

-- hunks whose views are split
record SplitHunks (hs : List DiffHunk) (before : List View) (v : View) : Type 0 where
  earlier : List DiffHunk
  hunk : DiffHunk
  later : List DiffHunk
  split : hs ≡ earlier ++ hunk ∷ later
  before_views : map view_of earlier ≡ before
  view : view_of hunk ≡ v

split_hunks : (hs : List DiffHunk) (before : List View) (v : View) (after : List View)
    → map view_of hs ≡ before ++ v ∷ after → SplitHunks hs before v
split_hunks [] before v after e = absurd (no_split before v after e)
split_hunks (h ∷ hs) [] v after e = record {
  earlier = [];
  hunk = h;
  later = hs;
  split = refl;
  before_views = refl;
  view = first_of_views (view_of h) v (map view_of hs) after e;
}
split_hunks (h ∷ hs) (b ∷ before) v after e =
    let more : SplitHunks hs before v = split_hunks hs before v after (ap rest_of_views e) in
    record {
      earlier = h ∷ more.earlier;
      hunk = more.hunk;
      later = more.later;
      split = ap (λ gs. h ∷ gs) more.split;
      before_views = ap (λ x. x ∷ map view_of more.earlier) (first_of_views (view_of h) b (map view_of hs) (before ++ v ∷ after) e)
          ∙ ap (λ xs. b ∷ xs) more.before_views;
      view = more.view;
    }

module _ (form : List ℕ → List ℕ) (t : TokenEnds) (n : ℕ) where
  stays : (before after : List DiffHunk) (h : DiffHunk) (refined : List DiffHunk)
      → IsRefined form t (before ++ h ∷ after) refined → All (λ g. length (row_of g) ≡ n) (before ++ h ∷ after)
      → h.kind ≡ Matching → StaysMatched n before h refined
  stays before after h refined r all e =
      let at : Among n before h r.0 = among form t n before h after r.0 r.1 all e in
      let w : Within n (λ i. view_side i at.earlier) (row_of h) (joined (at.earlier ++ view_of h ∷ at.later)) =
      within_joined n at.earlier (view_of h) at.later e in
      let s : SplitHunks refined w.earlier w.around =
      split_hunks refined w.earlier w.around w.later (r.2 ∙ ap joined at.split ∙ w.split) in
      record {
        earlier = s.earlier;
        around = s.hunk;
        later = s.later;
        split = s.split;
        matching = ap (λ v. v.0) s.view ∙ w.matching;
        start = w.start;
        end = w.end;
        part = λ i lt. ap (λ v. get_or v.1 i []) s.view ∙ w.part i lt;
        place = λ i lt. ap (λ xs. xs ++ w.start i) (view_side_of i s.earlier ∙ ap (view_side i) s.before_views)
            ∙ w.place i lt ∙ at.place i lt;
      }

  pub keeps : (hs refined : List DiffHunk) → IsRefined form t hs refined → All (λ g. length (row_of g) ≡ n) hs
      → KeepsMatches n hs refined
  keeps hs refined r all = λ before after h e m.
      stays before after h refined (subst (λ gs. IsRefined form t gs refined) e r) (subst (All (λ g. length (row_of g) ≡ n)) e all) m

-- how many bytes match at both ends of views
abbrev start_len : List View → ℕ
start_len [] = 0
start_len (v ∷ vs) = kind_len v.0 (length (get_or v.1 0 []))

abbrev end_len : List View → ℕ
end_len [] = 0
end_len (v ∷ []) = kind_len v.0 (length (get_or v.1 0 []))
end_len (v ∷ w ∷ vs) = end_len (w ∷ vs)

start_of : (hs : List DiffHunk) → matched_start hs ≡ start_len (map view_of hs)
start_of [] = refl
start_of (h ∷ hs) = refl

end_of : (hs : List DiffHunk) → matched_end hs ≡ end_len (map view_of hs)
end_of [] = refl
end_of (h ∷ []) = refl
end_of (h ∷ g ∷ hs) = end_of (g ∷ hs)

joined_len : (v w : View) → length (get_or (append_rows v.1 w.1) 0 []) ≡ length (get_or v.1 0 []) + length (get_or w.1 0 [])
joined_len v w = ap length (get-append_rows v.1 w.1 0) ∙ length-append (get_or v.1 0 []) (get_or w.1 0 [])

len_of_kind : (k : DiffHunkKind) (n m : ℕ) → n ≤ m → kind_len k n ≤ m
len_of_kind Matching n m le = le
len_of_kind Different n m le = omega arith

start_kinds : (k l : DiffHunkKind) (v w : View) (vs : List View) → start_len (v ∷ []) ≤ start_len (join_kinds k l v w vs)
start_kinds Matching Matching v w vs = len_of_kind v.0 (length (get_or v.1 0 [])) (length (get_or (append_rows v.1 w.1) 0 [])) (omega (arith, joined_len v w))
start_kinds Matching Different v w vs = omega arith
start_kinds Different Matching v w vs = omega arith
start_kinds Different Different v w vs = omega arith

start_first : (v : View) (vs : List View) → start_len (v ∷ []) ≤ start_len (join_first v vs)
start_first v [] = omega arith
start_first v (w ∷ vs) = start_kinds v.0 w.0 v w vs

start_joined : (vs : List View) → start_len vs ≤ start_len (joined vs)
start_joined [] = omega arith
start_joined (v ∷ vs) = start_first v (joined vs)

end_kinds : (k l : DiffHunkKind) (v w : View) (vs : List View) → end_len (w ∷ vs) ≤ end_len (join_kinds k l v w vs)
end_kinds Matching Matching v w [] = len_of_kind w.0 (length (get_or w.1 0 [])) (length (get_or (append_rows v.1 w.1) 0 [])) (omega (arith, joined_len v w))
end_kinds Matching Matching v w (u ∷ vs) = omega arith
end_kinds Matching Different v w vs = omega arith
end_kinds Different Matching v w vs = omega arith
end_kinds Different Different v w vs = omega arith

end_first : (v : View) (vs : List View) → end_len vs ≤ end_len (join_first v vs)
end_first v [] = omega arith
end_first v (w ∷ vs) = end_kinds v.0 w.0 v w vs

end_joined : (vs : List View) → end_len vs ≤ end_len (joined vs)
end_joined [] = omega arith
end_joined (v ∷ []) = omega arith
end_joined (v ∷ w ∷ vs) = omega (arith, end_joined (w ∷ vs), end_first v (joined (w ∷ vs)))

end_append : (vs ws : List View) → end_len ws ≤ end_len (vs ++ ws)
end_append [] ws = omega arith
end_append (v ∷ []) [] = omega arith
end_append (v ∷ []) (w ∷ ws) = omega arith
end_append (v ∷ u ∷ vs) ws = end_append (u ∷ vs) ws

nothing_matches : (h : DiffHunk) → h.kind ≡ Different → kind_len h.kind (length (get_or (row_of h) 0 [])) ≡ 0
nothing_matches h d = ap (λ k. kind_len k (length (get_or (row_of h) 0 []))) d

module _ (form : List ℕ → List ℕ) (t : TokenEnds) where
  start_refined : (hs parts : List DiffHunk) → AreRefinements form t hs parts → start_len (map view_of hs) ≤ start_len (map view_of parts)
  start_refined [] parts r = omega arith
  start_refined (h ∷ hs) parts r = elim (kind_cases h.kind) [
    | inl m ↦ omega (arith, ap start_len (kept_first form t h hs parts r m))
    | inr d ↦ omega (arith, nothing_matches h d)
  ]

  end_refined : (hs parts : List DiffHunk) → AreRefinements form t hs parts → end_len (map view_of hs) ≤ end_len (map view_of parts)
  end_refined [] parts r = omega arith
  end_refined (h ∷ []) parts r = elim (kind_cases h.kind) [
    | inl m ↦ omega (arith, ap end_len (kept_first form t h [] parts r m ∙ ap (λ ps. view_of h ∷ map view_of ps) r.4))
    | inr d ↦ omega (arith, nothing_matches h d)
  ]
  end_refined (h ∷ g ∷ hs) parts r = omega (
    arith,
    end_refined (g ∷ hs) r.1 r.4,
    end_append (map view_of r.0) (map view_of r.1),
    ap end_len (split_views form t h (g ∷ hs) parts r),
  )

  pub keeps_ends : (hs refined : List DiffHunk) → IsRefined form t hs refined → KeepsEnds hs refined
  keeps_ends hs refined r = (
    omega (arith, start_of hs, start_of refined, ap start_len r.2, start_refined hs r.0 r.1, start_joined (map view_of r.0)),
    omega (arith, end_of hs, end_of refined, ap end_len r.2, end_refined hs r.0 r.1, end_joined (map view_of r.0)),
  )

-- Of hunks of the inputs.
module _ (form : List ℕ → List ℕ) (t : TokenEnds) (inputs : List (List ℕ)) (hs refined : List DiffHunk)
    (r : AreHunksOf inputs hs → IsRefined form t hs refined) where
  pub keeps_of : AreHunksOf inputs hs → KeepsMatches (length inputs) hs refined
  keeps_of of = keeps form t (length inputs) hs refined (r of) of.width

  pub ends_of : AreHunksOf inputs hs → KeepsEnds hs refined
  ends_of of = keeps_ends form t hs refined (r of)

-- Of a comparison by lines.
module _ (inputs : List (List ℕ)) (lines refined : List DiffHunk) (diff : IsDiff is_line_end inputs lines)
    (r : AreHunksOf inputs lines → IsRefined (λ text. text) is_word_end lines refined) where
  pub lines_refined : MatchesEnds is_line_end inputs lines → AreTrimmed is_line_end lines → IsRefinedLines inputs refined
  lines_refined ends trimmed =
      let of : AreHunksOf inputs lines = hunks_of_diff (λ text. text) is_line_end inputs lines diff in
      record {
        lines = lines;
        diff = diff;
        ends = ends;
        trimmed = trimmed;
        words = r of;
        kept = keeps_of (λ text. text) is_word_end inputs lines refined r of;
      }

  pub lines_ends : MatchesEnds is_line_end inputs lines → MatchesEnds is_line_end inputs refined
  lines_ends ends =
      let kept : KeepsEnds lines refined = ends_of (λ text. text) is_word_end inputs lines refined r (hunks_of_diff (λ text. text) is_line_end inputs lines diff) in
      record {
        start = λ n c. omega (arith, ends.start n c, kept.0);
        end = λ n c.
            let earlier : IsCommonEnd is_line_end inputs (matched_start lines) n =
            record { some = c.some; within = λ i lt. omega (arith, c.within i lt, kept.0); equal = c.equal; cuts = c.cuts } in
            omega (arith, ends.end n earlier, kept.1);
      }
