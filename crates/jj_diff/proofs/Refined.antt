-- Laws of refined comparisons: they compare the inputs, and what matched matches.
use Rattle.std.proofs.Common.{◌≡◌, ℕ, suc, zero, ◌+◌, ◌-◌, ◌<◌, ◌≤◌, List, [], ◌∷◌, ◌++◌, length, map, take, drop, get_or, refl, ap, sym, ◌∙◌, subst, arith, inl, inr, ◌⊎◌, length-append, length-drop, append-nil, All}
use Rattle.std.proofs.lemmas.List.{map-append, drop-drop}
use Rattle.std.proofs.Math.Seq.{drop-append_seam, take-append_seam}
use Rattle.std.specs.List.{slice_range}
use Rattle.jj_diff.specs.declared.diff.hunks.DiffHunk.{DiffHunk}
use Rattle.jj_diff.specs.declared.diff.hunks.DiffHunkKind.{DiffHunkKind}
use Rattle.jj_diff.specs.declared.diff.hunks.DiffHunkKind.TheVariants.{Matching, Different}
use Rattle.jj_diff.specs.Inputs.{side, AreEqualBy, IsNonempty}
use Rattle.jj_diff.specs.Tokens.{AreEndsToo, IsCut, IsTokenizer, TokenEnds}
use Rattle.jj_diff.specs.Hunks.{row_of, Alternate, IsHunkBy, IsDiffBy, IsTrimmedBy, AreTrimmedBy, AllMatch}
use Rattle.jj_diff.specs.Refined.{View, view_of, view_side, append_rows, join_kinds, join_first, joined, Each, AreHunksOf, AreRefinements, IsRefinement, IsRowDiff, IsRefined}
use Rattle.jj_diff.proofs.Views.{view_side_of, side-append, side_joined, get-append_rows, joins_width, Joins, each-append, each_joined, each_of_all, all_of_each, StartsWith, starts_joined}
use Rattle.jj_diff.proofs.HunkRanges.{side_len}
use Rattle.jj_diff.proofs.Progress.{Joins as JoinsForm}

pub differs : Different ≡ Matching → ⊥
differs e = cc

pub kind_cases : (k : DiffHunkKind) → (k ≡ Matching) ⊎ (k ≡ Different)
kind_cases Matching = inl refl
kind_cases Different = inr refl

pub all_head : (P : DiffHunk → Type 0) (h : DiffHunk) (hs : List DiffHunk) → All P (h ∷ hs) → P h
all_head P h hs all = all zero h (omega arith)

pub all_tail : (P : DiffHunk → Type 0) (h : DiffHunk) (hs : List DiffHunk) → All P (h ∷ hs) → All P hs
all_tail P h hs all = λ k d lt. all (suc k) d (omega arith)

-- a hunk that differs is followed by one that matches
abbrev pub Separate : List View → Type 0
Separate [] = Unit {0}
Separate (v ∷ vs) = (v.0 ≡ Different → StartsWith Matching vs) × Separate vs

separate_of : (hs : List DiffHunk) → Alternate (map (λ h. h.kind) hs) → Separate (map view_of hs)
separate_of [] a = tt
separate_of (h ∷ []) a = ((λ d. tt), tt)
separate_of (h ∷ g ∷ hs) a =
    ((λ d. elim (kind_cases g.kind) [ inl m ↦ m | inr e ↦ absurd (a.0 (d ∙ sym e)) ]), separate_of (g ∷ hs) a.1)

separate-append : (vs ws : List View) → Separate vs → Separate ws → StartsWith Matching ws → Separate (vs ++ ws)
separate-append [] ws s r m = r
separate-append (v ∷ []) ws s r m = ((λ d. m), r)
separate-append (v ∷ u ∷ vs) ws s r m = (s.0, separate-append (u ∷ vs) ws s.1 r m)

abbrev pub kinds : List View → List DiffHunkKind
kinds = map (λ v. v.0)

pub kinds_of : (hs : List DiffHunk) → map (λ h. h.kind) hs ≡ kinds (map view_of hs)
kinds_of [] = refl
kinds_of (h ∷ hs) = ap (λ ks. h.kind ∷ ks) (kinds_of hs)

alternate_kinds : (k l : DiffHunkKind) (v w : View) (vs : List View) → v.0 ≡ k → w.0 ≡ l
    → Alternate (w.0 ∷ kinds vs) → (v.0 ≡ Different → w.0 ≡ Matching) → Alternate (kinds (join_kinds k l v w vs))
alternate_kinds Matching Matching v w vs e f a s = subst (λ x. Alternate (x ∷ kinds vs)) f a
alternate_kinds Matching Different v w vs e f a s = ((λ c. differs (sym f ∙ sym c ∙ e)), a)
alternate_kinds Different Matching v w vs e f a s = ((λ c. differs (sym e ∙ c ∙ f)), a)
alternate_kinds Different Different v w vs e f a s = absurd (differs (sym f ∙ s e))

alternate_first : (v : View) (vs : List View) → Alternate (kinds vs) → (v.0 ≡ Different → StartsWith Matching vs)
    → Alternate (kinds (join_first v vs))
alternate_first v [] a s = tt
alternate_first v (w ∷ vs) a s = alternate_kinds v.0 w.0 v w vs refl refl a s

alternate_joined : (vs : List View) → Separate vs → Alternate (kinds (joined vs))
alternate_joined [] s = tt
alternate_joined (v ∷ vs) s =
    alternate_first v (joined vs) (alternate_joined vs s.1) (λ d. starts_joined Matching vs (s.0 d))

-- each offset between views is in P
abbrev pub CutsFrom : (ℕ → Type 0) → ℕ → ℕ → List View → Type 0
CutsFrom P i off [] = P off
CutsFrom P i off (v ∷ vs) = P off × CutsFrom P i (off + length (get_or v.1 i [])) vs

cuts_first : (P : ℕ → Type 0) (i off : ℕ) (vs : List View) → CutsFrom P i off vs → P off
cuts_first P i off [] c = c
cuts_first P i off (v ∷ vs) c = c.0

cuts_to_views : (P : ℕ → Type 0) (i off : ℕ) (hs : List DiffHunk)
    → ((k : ℕ) → k ≤ length hs → P (off + side_len i (take k hs))) → CutsFrom P i off (map view_of hs)
cuts_to_views P i off [] all =
    let e : off + side_len i (take zero []) ≡ off = omega arith in
    subst P e (all zero (omega arith))
cuts_to_views P i off (h ∷ hs) all =
    let e : off + side_len i (take zero (h ∷ hs)) ≡ off = omega arith in (
      subst P e (all zero (omega arith)),
      cuts_to_views P i (off + length (get_or (row_of h) i [])) hs (λ k le.
          let f : off + side_len i (take (suc k) (h ∷ hs)) ≡ off + length (get_or (row_of h) i []) + side_len i (take k hs) =
          omega (arith, length-append (get_or (row_of h) i []) (side i (map row_of (take k hs)))) in
          subst P f (all (suc k) (omega arith))),
    )

cuts_of_views : (P : ℕ → Type 0) (i off : ℕ) (hs : List DiffHunk) → CutsFrom P i off (map view_of hs)
    → (k : ℕ) → k ≤ length hs → P (off + side_len i (take k hs))
cuts_of_views P i off [] c zero le = let e : off ≡ off + side_len i (take zero []) = omega arith in subst P e c
cuts_of_views P i off [] c (suc k) le = let e : off ≡ off + side_len i (take (suc k) []) = omega arith in subst P e c
cuts_of_views P i off (h ∷ hs) c zero le = let e : off ≡ off + side_len i (take zero (h ∷ hs)) = omega arith in subst P e c.0
cuts_of_views P i off (h ∷ hs) c (suc k) le =
    let f : off + length (get_or (row_of h) i []) + side_len i (take k hs) ≡ off + side_len i (take (suc k) (h ∷ hs)) =
    omega (arith, length-append (get_or (row_of h) i []) (side i (map row_of (take k hs)))) in
    subst P f (cuts_of_views P i (off + length (get_or (row_of h) i [])) hs c.1 k (omega arith))

cuts_kinds : (P : ℕ → Type 0) (i off : ℕ) (k l : DiffHunkKind) (v w : View) (vs : List View) → P off
    → CutsFrom P i (off + length (get_or v.1 i [])) (w ∷ vs) → CutsFrom P i off (join_kinds k l v w vs)
cuts_kinds P i off Matching Matching v w vs p c =
    let e : off + length (get_or v.1 i []) + length (get_or w.1 i []) ≡ off + length (get_or (append_rows v.1 w.1) i []) =
    omega (arith, ap length (get-append_rows v.1 w.1 i), length-append (get_or v.1 i []) (get_or w.1 i [])) in
    (p, subst (λ o. CutsFrom P i o vs) e c.1)
cuts_kinds P i off Matching Different v w vs p c = (p, c)
cuts_kinds P i off Different Matching v w vs p c = (p, c)
cuts_kinds P i off Different Different v w vs p c = (p, c)

cuts_join : (P : ℕ → Type 0) (i off : ℕ) (v : View) (vs : List View) → P off
    → CutsFrom P i (off + length (get_or v.1 i [])) vs → CutsFrom P i off (join_first v vs)
cuts_join P i off v [] p c = (p, c)
cuts_join P i off v (w ∷ vs) p c = cuts_kinds P i off v.0 w.0 v w vs p c

cuts_joined : (P : ℕ → Type 0) (i off : ℕ) (vs : List View) → CutsFrom P i off vs → CutsFrom P i off (joined vs)
cuts_joined P i off [] c = c
cuts_joined P i off (v ∷ vs) c =
    cuts_join P i off v (joined vs) c.0 (cuts_joined P i (off + length (get_or v.1 i [])) vs c.1)

-- the cuts of a comparison of a part are cuts of the whole input
module _ (t : TokenEnds) (law : IsTokenizer t) (text part : List ℕ) (i off : ℕ) (rest : List View)
    (within : off + length part ≤ length text) (same : slice_range text off (off + length part) ≡ part)
    (first : IsCut t text off) (more : CutsFrom (IsCut t text) i (off + length part) rest) where
  inner_cuts : (ws : List View) (a : ℕ) → a + length (view_side i ws) ≡ length part
      → CutsFrom (IsCut t part) i a ws → CutsFrom (IsCut t text) i (off + a) (ws ++ rest)
  inner_cuts [] a e c =
      let f : off + length part ≡ off + a = omega (arith, e) in
      subst (λ o. CutsFrom (IsCut t text) i o rest) f more
  inner_cuts (w ∷ ws) a e c =
      let len : length (view_side i (w ∷ ws)) ≡ length (get_or w.1 i []) + length (view_side i ws) = length-append (get_or w.1 i []) (view_side i ws) in
      let f : off + (a + length (get_or w.1 i [])) ≡ off + a + length (get_or w.1 i []) = omega arith in (
        law.inner text off (off + length part) a within (omega (arith, e)) first
            (cuts_first (IsCut t text) i (off + length part) rest more) (subst (λ xs. IsCut t xs a) (sym same) c.0),
        subst (λ o. CutsFrom (IsCut t text) i o (ws ++ rest)) f (inner_cuts ws (a + length (get_or w.1 i [])) (omega (arith, e, len)) c.1),
      )

module _ (form : List ℕ → List ℕ) (t : TokenEnds) where
  pub split_views : (h : DiffHunk) (hs parts : List DiffHunk) → (r : AreRefinements form t (h ∷ hs) parts)
      → map view_of parts ≡ map view_of r.0 ++ map view_of r.1
  split_views h hs parts r = ap (map view_of) r.2 ∙ map-append view_of r.0 r.1

  pub kept_first : (h : DiffHunk) (hs parts : List DiffHunk) → (r : AreRefinements form t (h ∷ hs) parts)
      → h.kind ≡ Matching → map view_of parts ≡ view_of h ∷ map view_of r.1
  kept_first h hs parts r e = split_views h hs parts r ∙ ap (λ vs. vs ++ map view_of r.1) (r.3.matching e)

  -- a property of the hunks that match and of each comparison is one of all refinements
  each_refinement : (P : View → Type 0) (Q : DiffHunk → Type 0) → ((h : DiffHunk) → h.kind ≡ Matching → Q h → P (view_of h))
      → ((h : DiffHunk) (ds : List DiffHunk) → h.kind ≡ Different → Q h → IsRowDiff form t (row_of h) ds → Each P (map view_of ds))
      → (hs parts : List DiffHunk) → AreRefinements form t hs parts → All Q hs → Each P (map view_of parts)
  each_refinement P Q keep split [] parts r all = subst (λ ps. Each P (map view_of ps)) (sym r) tt
  each_refinement P Q keep split (h ∷ hs) parts r all =
      let more : Each P (map view_of r.1) = each_refinement P Q keep split hs r.1 r.4 (all_tail Q h hs all) in
      elim (kind_cases h.kind) [
        | inl m ↦ subst (Each P) (sym (kept_first h hs parts r m)) (keep h m (all_head Q h hs all), more)
        | inr d ↦ subst (Each P) (sym (split_views h hs parts r))
            (each-append P (map view_of r.0) (map view_of r.1) (split h r.0 d (all_head Q h hs all) (r.3.different d)) more)
      ]

  starts_refinements : (hs parts : List DiffHunk) → AreRefinements form t hs parts
      → StartsWith Matching (map view_of hs) → StartsWith Matching (map view_of parts)
  starts_refinements [] parts r s = subst (λ ps. StartsWith Matching (map view_of ps)) (sym r) tt
  starts_refinements (h ∷ hs) parts r s = subst (StartsWith Matching) (sym (kept_first h hs parts r s)) s

  separate_refinements : (hs parts : List DiffHunk) → AreRefinements form t hs parts
      → Separate (map view_of hs) → Separate (map view_of parts)
  separate_refinements [] parts r s = subst (λ ps. Separate (map view_of ps)) (sym r) tt
  separate_refinements (h ∷ hs) parts r s =
      let more : Separate (map view_of r.1) = separate_refinements hs r.1 r.4 s.1 in
      elim (kind_cases h.kind) [
        | inl m ↦ subst Separate (sym (kept_first h hs parts r m)) ((λ d. absurd (differs (sym d ∙ m))), more)
        | inr d ↦ subst Separate (sym (split_views h hs parts r))
            (separate-append (map view_of r.0) (map view_of r.1) (separate_of r.0 (r.3.different d).diff.alternate) more (starts_refinements hs r.1 r.4 (s.0 d)))
      ]

  module _ (n i : ℕ) (lt : i < n) where
    pub side_one : (h : DiffHunk) (parts : List DiffHunk) → IsRefinement form t h parts → length (row_of h) ≡ n
        → view_side i (map view_of parts) ≡ get_or (row_of h) i []
    side_one h parts r e = elim (kind_cases h.kind) [
      | inl m ↦ ap (view_side i) (r.matching m) ∙ append-nil (get_or (row_of h) i [])
      | inr d ↦ sym (view_side_of i parts) ∙ (r.different d).diff.sides i (omega (arith, e))
    ]

    pub side_refinements : (hs parts : List DiffHunk) → AreRefinements form t hs parts
        → All (λ h. length (row_of h) ≡ n) hs → view_side i (map view_of parts) ≡ side i (map row_of hs)
    side_refinements [] parts r all = ap (λ ps. view_side i (map view_of ps)) r
    side_refinements (h ∷ hs) parts r all =
        ap (view_side i) (split_views h hs parts r) ∙ side-append i (map view_of r.0) (map view_of r.1)
        ∙ ap (λ xs. xs ++ view_side i (map view_of r.1)) (side_one h r.0 r.3 (all_head (λ g. length (row_of g) ≡ n) h hs all))
        ∙ ap (λ xs. get_or (row_of h) i [] ++ xs) (side_refinements hs r.1 r.4 (all_tail (λ g. length (row_of g) ≡ n) h hs all))

    cuts_refinements : IsTokenizer t → (text : List ℕ) (hs parts : List DiffHunk) (off : ℕ) → AreRefinements form t hs parts
        → All (λ h. length (row_of h) ≡ n) hs → off ≤ length text → drop off text ≡ side i (map row_of hs)
        → CutsFrom (IsCut t text) i off (map view_of hs) → CutsFrom (IsCut t text) i off (map view_of parts)
    cuts_refinements law text [] parts off r all le whole c = subst (λ ps. CutsFrom (IsCut t text) i off (map view_of ps)) (sym r) c
    cuts_refinements law text (h ∷ hs) parts off r all le whole c =
        let part : List ℕ = get_or (row_of h) i [] in
        let later : List ℕ = side i (map row_of hs) in
        let len : length text - off ≡ length part + length later = sym (length-drop off text) ∙ ap length whole ∙ length-append part later in
        let width : length (row_of h) ≡ n = all_head (λ g. length (row_of g) ≡ n) h hs all in
        let dropped : drop (off + length part) text ≡ later =
        sym (drop-drop (length part) off text) ∙ ap (drop (length part)) whole ∙ drop-append_seam part later in
        let more : CutsFrom (IsCut t text) i (off + length part) (map view_of r.1) =
        cuts_refinements law text hs r.1 (off + length part) r.4 (all_tail (λ g. length (row_of g) ≡ n) h hs all) (omega (arith, len)) dropped c.1 in
        elim (kind_cases h.kind) [
          | inl m ↦ subst (CutsFrom (IsCut t text) i off) (sym (kept_first h hs parts r m)) (c.0, more)
          | inr d ↦
              let m : off + length part - off ≡ length part = omega arith in
              let same : slice_range text off (off + length part) ≡ part =
              ap (λ k. take k (drop off text)) m ∙ ap (take (length part)) whole ∙ take-append_seam part later in
              let from : CutsFrom (IsCut t part) i 0 (map view_of r.0) =
              cuts_to_views (IsCut t part) i 0 r.0 (λ k below.
              let z : side_len i (take k r.0) ≡ 0 + side_len i (take k r.0) = omega arith in
              subst (IsCut t part) z ((r.3.different d).diff.cuts k i below (omega (arith, width)))) in
              let o : off + 0 ≡ off = omega arith in
              let s : 0 + length (view_side i (map view_of r.0)) ≡ length part = omega (arith, ap length (side_one h r.0 r.3 width)) in
              subst (CutsFrom (IsCut t text) i off) (sym (split_views h hs parts r))
              (subst (λ x. CutsFrom (IsCut t text) i x (map view_of r.0 ++ map view_of r.1)) o
              (inner_cuts t law text part i off (map view_of r.1) (omega (arith, len)) same c.0 more (map view_of r.0) 0 s from))
        ]

  -- the refinements are hunks of the same inputs
  pub hunks_of_parts : (inputs : List (List ℕ)) (hs parts : List DiffHunk) → AreRefinements form t hs parts → AreHunksOf inputs hs
      → AreHunksOf inputs parts
  hunks_of_parts inputs hs parts r of =
      let P : View → Type 0 = λ v. length v.1 ≡ length inputs in
      record {
        width = all_of_each P parts (each_refinement P (λ h. length (row_of h) ≡ length inputs) (λ h m q. q)
            (λ h ds d q row. each_of_all P ds (λ k x lt. (row.diff.hunks k x lt).len ∙ q)) hs parts r of.width);
        sides = λ i lt. view_side_of i parts ∙ side_refinements (length inputs) i lt hs parts r of.width ∙ of.sides i lt;
      }

  -- a hunk of n parts, not all empty, and of one form if it matches
  abbrev IsViewOfHunk : ℕ → View → Type 0
  IsViewOfHunk n v = (length v.1 ≡ n) × IsNonempty v.1 × (v.0 ≡ Matching → AreEqualBy form v.1)

  joins_hunk : (n : ℕ) → JoinsForm form → Joins (IsViewOfHunk n)
  joins_hunk n join v w e f p q =
      let width : length (append_rows v.1 w.1) ≡ n = joins_width n v w e f p.0 q.0 in
      let at : (i : ℕ) → get_or (append_rows v.1 w.1) i [] ≡ get_or v.1 i [] ++ get_or w.1 i [] = get-append_rows v.1 w.1 in (
        width,
        (p.1.0, omega (arith, p.1.1, p.0, width), omega (arith, p.1.2, ap length (at p.1.0), length-append (get_or v.1 p.1.0 []) (get_or w.1 p.1.0 []))),
        (λ m i lt. ap form (at i)
            ∙ join (get_or v.1 i []) (get_or v.1 0 []) (get_or w.1 i []) (get_or w.1 0 []) (p.2 e i (omega (arith, lt, width, p.0))) (q.2 f i (omega (arith, lt, width, q.0)))
            ∙ sym (ap form (at 0))),
      )

  hunks_refinements : (n : ℕ) (hs parts : List DiffHunk) → AreRefinements form t hs parts → All (IsHunkBy form n) hs
      → Each (IsViewOfHunk n) (map view_of parts)
  hunks_refinements n hs parts r all = each_refinement (IsViewOfHunk n) (IsHunkBy form n)
      (λ h m q. (q.len, q.nonempty, q.equal))
      (λ h ds d q row. each_of_all (IsViewOfHunk n) ds (λ k x lt.
      let hunk : IsHunkBy form (length (row_of h)) (get_or ds k x) = row.diff.hunks k x lt in
      (hunk.len ∙ q.len, hunk.nonempty, hunk.equal)))
      hs parts r all

  -- a property of views that the parts have is one of the refined hunks
  all_refined : (P : View → Type 0) → Joins P → (parts refined : List DiffHunk) → map view_of refined ≡ joined (map view_of parts)
      → Each P (map view_of parts) → All (λ h. P (view_of h)) refined
  all_refined P joins parts refined e each =
      all_of_each P refined (subst (Each P) (sym e) (each_joined P joins (map view_of parts) each))

  pub refined_trimmed : (hs refined : List DiffHunk) → IsRefined form t hs refined → AreTrimmedBy form t refined
  refined_trimmed hs refined r =
      let P : View → Type 0 = λ v. v.0 ≡ Different → IsTrimmedBy form t v.1 in
      all_refined P (λ v w e f p q d. absurd (differs (sym d))) r.0 refined r.2
      (each_refinement P (λ h. Unit {0}) (λ h m q d. absurd (differs (sym d ∙ m)))
      (λ h ds d q row. each_of_all P ds row.trimmed) hs r.0 r.1 (λ k d lt. tt))

  pub refined_matching : (hs refined : List DiffHunk) → IsRefined form t hs refined → AllMatch hs → AllMatch refined
  refined_matching hs refined r all =
      let P : View → Type 0 = λ v. v.0 ≡ Matching in
      all_refined P (λ v w e f p q. refl) r.0 refined r.2
      (each_refinement P (λ h. h.kind ≡ Matching) (λ h m q. q)
      (λ h ds d q row. absurd (differs (sym d ∙ q))) hs r.0 r.1 all)

  module _ (inputs : List (List ℕ)) (hs refined : List DiffHunk) (r : IsRefined form t hs refined) where
    pub refined_side : All (λ h. length (row_of h) ≡ length inputs) hs → (i : ℕ) → i < length inputs
        → side i (map row_of refined) ≡ side i (map row_of hs)
    refined_side all i lt =
        view_side_of i refined ∙ ap (view_side i) r.2 ∙ side_joined i (map view_of r.0)
        ∙ side_refinements (length inputs) i lt hs r.0 r.1 all

    refined_cuts : IsTokenizer t → IsDiffBy form t inputs hs → (k i : ℕ) → k ≤ length refined → i < length inputs
        → IsCut t (get_or inputs i []) (length (side i (map row_of (take k refined))))
    refined_cuts law d k i le lt =
        let text : List ℕ = get_or inputs i [] in
        let z : 0 + side_len i (take k refined) ≡ side_len i (take k refined) = omega arith in
        let old : CutsFrom (IsCut t text) i 0 (map view_of hs) = cuts_to_views (IsCut t text) i 0 hs (λ j below.
        let y : side_len i (take j hs) ≡ 0 + side_len i (take j hs) = omega arith in
        subst (IsCut t text) y (d.cuts j i below lt)) in
        subst (IsCut t text) z (cuts_of_views (IsCut t text) i 0 refined
        (subst (CutsFrom (IsCut t text) i 0) (sym r.2) (cuts_joined (IsCut t text) i 0 (map view_of r.0)
        (cuts_refinements (length inputs) i lt law text hs r.0 0 r.1 (λ j x below. (d.hunks j x below).len) (omega arith) (sym (d.sides i lt)) old))) k le)

    pub refined_diff : IsTokenizer t → JoinsForm form → IsDiffBy form t inputs hs → IsDiffBy form t inputs refined
    refined_diff law join d = record {
      sides = λ i lt. refined_side (λ k x below. (d.hunks k x below).len) i lt ∙ d.sides i lt;
      hunks = λ k x lt.
          let hunk : IsViewOfHunk (length inputs) (view_of (get_or refined k x)) =
          all_refined (IsViewOfHunk (length inputs)) (joins_hunk (length inputs) join) r.0 refined r.2
          (hunks_refinements (length inputs) hs r.0 r.1 d.hunks) k x lt in
          record { len = hunk.0; nonempty = hunk.1; equal = hunk.2 };
      alternate = subst Alternate (sym (kinds_of refined ∙ ap kinds r.2))
          (alternate_joined (map view_of r.0) (separate_refinements hs r.0 r.1 (separate_of hs d.alternate)));
      cuts = refined_cuts law d;
    }

-- a comparison by tokens whose ends are ends of these tokens too
pub diff_of_coarser : (form : List ℕ → List ℕ) (t before : TokenEnds) (inputs : List (List ℕ)) (hs : List DiffHunk)
    → AreEndsToo before t → IsDiffBy form before inputs hs → IsDiffBy form t inputs hs
diff_of_coarser form t before inputs hs too d = record {
  sides = d.sides;
  hunks = d.hunks;
  alternate = d.alternate;
  cuts = λ k i le lt. elim (d.cuts k i le lt) [
    | inl none ↦ inl none
    | inr token ↦ inr (too (get_or inputs i []) (length (side i (map row_of (take k hs)))) token)
  ];
}

pub hunks_of_diff : (form : List ℕ → List ℕ) (t : TokenEnds) (inputs : List (List ℕ)) (hs : List DiffHunk)
    → IsDiffBy form t inputs hs → AreHunksOf inputs hs
hunks_of_diff form t inputs hs d = record { width = λ k x lt. (d.hunks k x lt).len; sides = d.sides }

-- Of hunks of the inputs.
module _ (form : List ℕ → List ℕ) (t : TokenEnds) (inputs : List (List ℕ)) (hs refined : List DiffHunk)
    (r : AreHunksOf inputs hs → IsRefined form t hs refined) where
  pub diff_of : IsTokenizer t → JoinsForm form → (before : TokenEnds) → AreEndsToo before t → IsDiffBy form before inputs hs
      → IsDiffBy form t inputs refined
  diff_of law join before too d =
      let new : IsDiffBy form t inputs hs = diff_of_coarser form t before inputs hs too d in
      refined_diff form t inputs hs refined (r (hunks_of_diff form t inputs hs new)) law join new

  pub trimmed_of : AreHunksOf inputs hs → AreTrimmedBy form t refined
  trimmed_of of = refined_trimmed form t hs refined (r of)

  pub matching_of : AreHunksOf inputs hs → AllMatch hs → AllMatch refined
  matching_of of all = refined_matching form t hs refined (r of) all
