-- Rows and hunks as the loops of a refinement append them.
use Rattle.std.proofs.Common.{◌≡◌, ℕ, suc, zero, ◌+◌, ◌-◌, ◌<◌, ◌≤◌, List, [], ◌∷◌, ◌++◌, length, map, take, drop, get_or, reverse, Bor, refl, ap, sym, ◌∙◌, subst, arith, append_assoc, append-nil, length-append, length-drop, All}
use Rattle.std.proofs.lemmas.List.{ext_get_or, take_more, take_all, drop_more, reverse-append, take-append-drop, get_or-drop, length-take-le}
use Rattle.std.proofs.Math.Seq.{drop-append_seam, take-append_seam}
use Rattle.jj_diff.specs.Tokens.{TokenEnds}
use Rattle.jj_diff.specs.declared.diff.hunks.DiffHunk.{DiffHunk}
use Rattle.jj_diff.specs.declared.diff.hunks.DiffHunkKind.TheVariants.{Matching}
use Rattle.jj_diff.specs.Inputs.{side}
use Rattle.jj_diff.specs.Hunks.{row_of, AreLimits}
use Rattle.jj_diff.specs.Refined.{View, view_of, view_side, append_rows, join_kinds, join_first, joined, Each, AreAdjacent, AreHunksOf, AreRefinements, IsRefinement, StartAt}
use Rattle.jj_diff.proofs.Views.{get-append_rows, length-append_rows, view_side_of, side_joined, each_joined, joins_width, each_of_all}
use Rattle.jj_diff.proofs.HunkRanges.{side_len, len_more}
use Rattle.jj_diff.proofs.Rows.{length-bytes_of}

refinements-push : (form : List ℕ → List ℕ) (t : TokenEnds) (hs : List DiffHunk) (h : DiffHunk) (refined parts : List DiffHunk)
    → AreRefinements form t hs refined → IsRefinement form t h parts
    → AreRefinements form t (hs ++ h ∷ []) (refined ++ parts)
refinements-push form t [] h refined parts none one =
    (parts, [], ap (λ xs. xs ++ parts) none ∙ sym (append-nil parts), one, refl)
refinements-push form t (g ∷ hs) h refined parts before one = (
  before.0,
  before.1 ++ parts,
  ap (λ xs. xs ++ parts) before.2 ∙ append_assoc before.0 before.1 parts,
  before.3,
  refinements-push form t hs h before.1 parts before.4 one,
)

-- one more hunk is refined
pub refinements_more : (form : List ℕ → List ℕ) (t : TokenEnds) (hs : List DiffHunk) (i : ℕ) (h : DiffHunk) (refined parts : List DiffHunk)
    → i < length hs → h ≡ get_or hs i h → AreRefinements form t (take i hs) refined → IsRefinement form t h parts
    → AreRefinements form t (take (i + 1) hs) (refined ++ parts)
refinements_more form t hs i h refined parts lt e before one =
    let taken : take i hs ++ h ∷ [] ≡ take (i + 1) hs = sym (take_more hs i h lt ∙ ap (λ g. take i hs ++ g ∷ []) (sym e)) in
    subst (λ gs. AreRefinements form t gs (refined ++ parts)) taken (refinements-push form t (take i hs) h refined parts before one)

-- a row of joined parts is whole
pub row_joined : (n : ℕ) (first second row : List (List ℕ)) → length row ≡ n → length first ≡ n → length second ≡ n
    → ((i : ℕ) → i < n → get_or row i [] ≡ get_or first i [] ++ get_or second i [])
    → row ≡ append_rows first second
row_joined n first second row e f g parts =
    ext_get_or [] row (append_rows first second) (e ∙ sym (length-append_rows n first second f g))
    (λ i lt. parts i (omega (arith, e)) ∙ sym (get-append_rows first second i))

-- the part of an input that adjacent parts are
pub part_here : (inputs : List (List ℕ)) (starts : List ℕ) (first second : List (List ℕ)) (i : ℕ) → AreAdjacent inputs starts first second
    → i < length inputs → (input part : List ℕ) (start a b : ℕ) → input ≡ get_or inputs i [] → start ≡ get_or starts i 0
    → a ≡ length (get_or first i []) → b ≡ length (get_or second i [])
    → (start + (a + b) ≤ length input → part ≡ take (a + b) (drop start input))
    → part ≡ get_or first i [] ++ get_or second i []
part_here inputs starts first second i adjacent lt input part start a b ei es ea eb taken =
    let le : start + (a + b) ≤ length input = omega (arith, adjacent.within i lt, ap length ei, es, ea, eb) in
    let sum : a + b ≡ length (get_or first i []) + length (get_or second i []) = omega (arith, ea, eb) in
    taken le ∙ ap (λ n. take n (drop start input)) sum
    ∙ ap (λ n. take (length (get_or first i []) + length (get_or second i [])) (drop n input)) es
    ∙ ap (λ xs. take (length (get_or first i []) + length (get_or second i [])) (drop (get_or starts i 0) xs)) ei
    ∙ adjacent.parts i lt

-- one more hunk in reverse order
pub reverse-push : (hs : List DiffHunk) (h : DiffHunk) → map view_of (reverse (hs ++ h ∷ [])) ≡ view_of h ∷ map view_of (reverse hs)
reverse-push hs h = ap (map view_of) (reverse-append hs (h ∷ []))

-- two adjacent hunks are adjacent in the inputs
pub adjacent : (inputs : List (List ℕ)) (starts : List ℕ) (v w : View) (vs : List View)
    → StartAt inputs starts (v ∷ w ∷ vs) → AreAdjacent inputs starts v.1 w.1
adjacent inputs starts v w vs at =
    let whole : (i : ℕ) → i < length inputs → drop (get_or starts i 0) (get_or inputs i []) ≡ (get_or v.1 i [] ++ get_or w.1 i []) ++ view_side i vs =
    λ i lt. at.sides i lt ∙ sym (append_assoc (get_or v.1 i []) (get_or w.1 i []) (view_side i vs)) in
    record {
      first_len = at.width.0;
      second_len = at.width.1.0;
      within = λ i lt. omega (
        arith,
        at.within i lt,
        ap length (take-append-drop (get_or starts i 0) (get_or inputs i [])),
        length-append (take (get_or starts i 0) (get_or inputs i [])) (drop (get_or starts i 0) (get_or inputs i [])),
        ap length (whole i lt),
        length-append (get_or v.1 i [] ++ get_or w.1 i []) (view_side i vs),
        length-append (get_or v.1 i []) (get_or w.1 i []),
        length-take-le (get_or starts i 0) (get_or inputs i []) (at.within i lt),
      );
      parts = λ i lt.
          let len : length (get_or v.1 i []) + length (get_or w.1 i []) ≡ length (get_or v.1 i [] ++ get_or w.1 i []) = sym (length-append (get_or v.1 i []) (get_or w.1 i [])) in
          ap (take (length (get_or v.1 i []) + length (get_or w.1 i []))) (whole i lt)
          ∙ ap (λ n. take n ((get_or v.1 i [] ++ get_or w.1 i []) ++ view_side i vs)) len
          ∙ take-append_seam (get_or v.1 i [] ++ get_or w.1 i []) (view_side i vs);
    }

-- two hunks that are one
pub pushed_joined : (inputs : List (List ℕ)) (starts : List ℕ) (h next : DiffHunk) (old rest new : List DiffHunk) (made : DiffHunk)
    → old ≡ rest ++ next ∷ [] → new ≡ rest ++ made ∷ [] → h.kind ≡ Matching → next.kind ≡ Matching → made.kind ≡ Matching
    → (AreAdjacent inputs starts (row_of h) (row_of next) → row_of made ≡ append_rows (row_of h) (row_of next))
    → StartAt inputs starts (view_of h ∷ map view_of (reverse old))
    → map view_of (reverse new) ≡ join_first (view_of h) (map view_of (reverse old))
pushed_joined inputs starts h next old rest new made eo en kh kn km row at =
    let vs : List View = map view_of (reverse rest) in
    let olds : map view_of (reverse old) ≡ view_of next ∷ vs = ap (λ xs. map view_of (reverse xs)) eo ∙ reverse-push rest next in
    let news : map view_of (reverse new) ≡ view_of made ∷ vs = ap (λ xs. map view_of (reverse xs)) en ∙ reverse-push rest made in
    let here : AreAdjacent inputs starts (row_of h) (row_of next) =
    adjacent inputs starts (view_of h) (view_of next) vs (subst (λ xs. StartAt inputs starts (view_of h ∷ xs)) olds at) in
    news ∙ ap (λ k. (k, row_of made) ∷ vs) km ∙ ap (λ r. (Matching, r) ∷ vs) (row here)
    ∙ sym (ap (join_first (view_of h)) olds
    ∙ ap (λ k. join_kinds k next.kind (view_of h) (view_of next) vs) kh
    ∙ ap (λ k. join_kinds Matching k (view_of h) (view_of next) vs) kn)

rows-append : (i : ℕ) (gs hs : List DiffHunk) → side i (map row_of (gs ++ hs)) ≡ side i (map row_of gs) ++ side i (map row_of hs)
rows-append i [] hs = refl
rows-append i (g ∷ gs) hs =
    ap (λ xs. get_or (row_of g) i [] ++ xs) (rows-append i gs hs)
    ∙ sym (append_assoc (get_or (row_of g) i []) (side i (map row_of gs)) (side i (map row_of hs)))

-- the offsets of the hunks from k on
abbrev pub AreStartsAt : List (List ℕ) → List DiffHunk → ℕ → List ℕ → Type 0
AreStartsAt inputs hs k starts = (length starts ≡ length inputs)
    × ((i : ℕ) → i < length inputs → get_or starts i 0 ≡ side_len i (take k hs))

module _ (inputs : List (List ℕ)) (hs : List DiffHunk) (of : AreHunksOf inputs hs) where
  pub starts_end : (starts : List ℕ) → AreLimits inputs 0 starts → AreStartsAt inputs hs (length hs) starts
  starts_end starts limits = (
    limits.len,
    λ i lt.
        let whole : side_len i (take (length hs) hs) ≡ length (get_or inputs i []) = ap (side_len i) (take_all (length hs) hs (omega arith)) ∙ ap length (of.sides i lt) in
        omega (arith, limits.limits i lt, whole),
  )

  pub starts_less : (k : ℕ) (h : DiffHunk) (ends starts : List ℕ) → k < length hs → h ≡ get_or hs k h
      → AreStartsAt inputs hs (k + 1) ends → length starts ≡ length ends
      → ((i : ℕ) → i < length ends → get_or starts i 0 ≡ get_or ends i 0 - length (get_or (row_of h) i []))
      → AreStartsAt inputs hs k starts
  starts_less k h ends starts lt e at len less = (
    len ∙ at.0,
    λ i below.
        omega (arith, at.1 i below, at.0, less i (omega (arith, at.0)), len_more i k hs h lt e),
  )

  widths_from : (k : ℕ) → Each (λ v. length v.1 ≡ length inputs) (map view_of (drop k hs))
  widths_from k = each_of_all (λ v. length v.1 ≡ length inputs) (drop k hs) (λ j d lt.
      subst (λ g. length (row_of g) ≡ length inputs) (sym (get_or-drop k hs j d)) (of.width (k + j) d (omega (arith, lt, length-drop k hs))))

  widths : (k : ℕ) (h : DiffHunk) → k < length hs → h ≡ get_or hs k h
      → Each (λ v. length v.1 ≡ length inputs) (view_of h ∷ joined (map view_of (drop (k + 1) hs)))
  widths k h lt e = (
    subst (λ g. length (row_of g) ≡ length inputs) (sym e) (of.width k h lt),
    each_joined (λ v. length v.1 ≡ length inputs) (joins_width (length inputs)) (map view_of (drop (k + 1) hs)) (widths_from (k + 1)),
  )

  pub start_at : (k : ℕ) (h : DiffHunk) (starts : List ℕ) (vs : List View) → k < length hs → h ≡ get_or hs k h
      → AreStartsAt inputs hs k starts → vs ≡ joined (map view_of (drop (k + 1) hs))
      → StartAt inputs starts (view_of h ∷ vs)
  start_at k h starts vs lt e at same =
      let dropped : drop k hs ≡ h ∷ drop (k + 1) hs = drop_more hs k h lt ∙ ap (λ g. g ∷ drop (k + 1) hs) (sym e) in
      let side_vs : (i : ℕ) → view_side i (view_of h ∷ vs) ≡ side i (map row_of (drop k hs)) =
      λ i. ap (λ ws. get_or (row_of h) i [] ++ view_side i ws) same
      ∙ ap (λ xs. get_or (row_of h) i [] ++ xs) (side_joined i (map view_of (drop (k + 1) hs)) ∙ sym (view_side_of i (drop (k + 1) hs)))
      ∙ sym (ap (λ gs. side i (map row_of gs)) dropped) in
      let split : (i : ℕ) → i < length inputs → get_or inputs i [] ≡ side i (map row_of (take k hs)) ++ side i (map row_of (drop k hs)) =
      λ i below. sym (of.sides i below) ∙ ap (λ gs. side i (map row_of gs)) (sym (take-append-drop k hs))
      ∙ rows-append i (take k hs) (drop k hs) in
      record {
        width = subst (λ ws. Each (λ v. length v.1 ≡ length inputs) ws) (ap (λ ws. view_of h ∷ ws) (sym same))
            (widths k h lt e);
        within = λ i below. omega (arith, at.1 i below, ap length (split i below), length-append (side i (map row_of (take k hs))) (side i (map row_of (drop k hs))));
        sides = λ i below.
            ap (λ n. drop n (get_or inputs i [])) (at.1 i below)
            ∙ ap (drop (side_len i (take k hs))) (split i below)
            ∙ drop-append_seam (side i (map row_of (take k hs))) (side i (map row_of (drop k hs)))
            ∙ sym (side_vs i);
      }

  pub joined_more : (k : ℕ) (h : DiffHunk) (vs ws : List View) → k < length hs → h ≡ get_or hs k h
      → vs ≡ joined (map view_of (drop (k + 1) hs)) → ws ≡ join_first (view_of h) vs
      → ws ≡ joined (map view_of (drop k hs))
  joined_more k h vs ws lt e same next =
      next ∙ ap (join_first (view_of h)) same
      ∙ sym (ap (λ gs. joined (map view_of gs)) (drop_more hs k h lt ∙ ap (λ g. g ∷ drop (k + 1) hs) (sym e)))

pub ruleset part_steps = (refinements_more, take_all)

pub ruleset row_steps = (row_joined, length-bytes_of)

pub ruleset push_steps = (reverse-push, adjacent)

pub ruleset loop_steps = (starts_end, starts_less, start_at, joined_more)
