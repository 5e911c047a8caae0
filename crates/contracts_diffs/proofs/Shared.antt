-- A line that both of two versions have once matches, or crosses a hunk that matches.
use Rattle.std.proofs.Common.{◌≡◌, ◌≢◌, ◌⊎◌, ℕ, suc, zero, ◌+◌, ◌-◌, ◌<◌, ◌≤◌, List, [], ◌∷◌, ◌++◌, length, map, take, get_or, refl, ap, sym, ◌∙◌, subst, arith, lit<, inl, inr, All, Any}
use Rattle.std.proofs.lemmas.Bool.{cases_lt}
use Rattle.std.proofs.lemmas.List.{get_or_append_left, get_or-append-add, get_or-append_right, length-append}
use Rattle.std.proofs.lemmas.List.Elements.{All-head, All-tail}
use Rattle.std.specs.List.{flat_map}
use Rattle.jj_diff.specs.declared.diff.hunks.DiffHunk.{DiffHunk}
use Rattle.jj_diff.specs.declared.diff.hunks.DiffHunkKind.{DiffHunkKind}
use Rattle.jj_diff.specs.declared.diff.hunks.DiffHunkKind.TheVariants.{Matching, Different}
use Rattle.jj_diff.specs.Inputs.{side}
use Rattle.jj_diff.specs.Tokens.{is_line_end, IsCut}
use Rattle.jj_diff.specs.Hunks.{row_of, Alternate, AreTrimmed, IsDiff}
use Rattle.jj_diff.specs.Anchors.{StandsOnce, token_offsets}
use Rattle.contracts_diffs.specs.Lines.{HasLine, HasSmallChanges, KeepsLines, LineCrosses, LineMatches, PartsHave, part_of}
use Rattle.contracts_diffs.proofs.Ends.{both}
use Rattle.contracts_diffs.proofs.Tokens.{length-pieces, piece_at, lines_of, part_lines, lines_of_hunks}

-- ---- a line among lines

module _ (line : List ℕ) where
  abbrev IsAt : List (List ℕ) → ℕ → Type 0
  IsAt ls k = (k < length ls) × (get_or ls k [] ≡ line)

  abbrev Has : List (List ℕ) → Type 0
  Has ls = (k : ℕ) × IsAt ls k

  abbrev Once : List (List ℕ) → Type 0
  Once ls = (k : ℕ) × IsAt ls k × ((j : ℕ) → IsAt ls j → j ≡ k)

  once_of_text : (text : List ℕ) → StandsOnce is_line_end text line → Once (lines_of text)
  once_of_text text once =
      let n : length (lines_of text) ≡ length (token_offsets is_line_end text) - 1 = length-pieces text (token_offsets is_line_end text) in (
        once.0,
        (omega (arith, n, once.1.0), piece_at text (token_offsets is_line_end text) once.0 once.1.0 ∙ once.1.1),
        λ j at.
            let lt : j + 1 < length (token_offsets is_line_end text) = omega (arith, n, at.0) in
            once.2 j (lt, sym (piece_at text (token_offsets is_line_end text) j lt) ∙ at.1),
      )

  has_of_lines : (text : List ℕ) → Has (lines_of text) → HasLine line text
  has_of_lines text has =
      let lt : has.0 + 1 < length (token_offsets is_line_end text) = omega (arith, length-pieces text (token_offsets is_line_end text), has.1.0) in
      (has.0, (lt, sym (piece_at text (token_offsets is_line_end text) has.0 lt) ∙ has.1.1))

  once_of_lines : (text : List ℕ) → Once (lines_of text) → StandsOnce is_line_end text line
  once_of_lines text once =
      let n : length (lines_of text) ≡ length (token_offsets is_line_end text) - 1 = length-pieces text (token_offsets is_line_end text) in
      let lt : once.0 + 1 < length (token_offsets is_line_end text) = omega (arith, n, once.1.0) in (
        once.0,
        (lt, sym (piece_at text (token_offsets is_line_end text) once.0 lt) ∙ once.1.1),
        λ j at. once.2 j (omega (arith, n, at.0), piece_at text (token_offsets is_line_end text) j at.0 ∙ at.1),
      )

  has_first : (xs ys : List (List ℕ)) → Has xs → Has (xs ++ ys)
  has_first xs ys has = (has.0, (omega (arith, has.1.0, length-append xs ys), get_or_append_left xs ys [] has.0 has.1.0 ∙ has.1.1))

  -- a line that is once in two lists of lines is once in one of them, and not in the other
  once_cases : (xs ys : List (List ℕ)) → Once (xs ++ ys) → (Once xs × ¬ (Has ys)) ⊎ ((¬ (Has xs)) × Once ys)
  once_cases xs ys once =
      let k : ℕ = once.0 in
      let n : length (xs ++ ys) ≡ length xs + length ys = length-append xs ys in
      let left : (j : ℕ) → IsAt xs j → j ≡ k =
      λ j at. once.2 j (omega (arith, n, at.0), get_or_append_left xs ys [] j at.0 ∙ at.1) in
      let right : (j : ℕ) → IsAt ys j → length xs + j ≡ k =
      λ j at. once.2 (length xs + j) (omega (arith, n, at.0), get_or-append-add xs ys j [] ∙ at.1) in
      elim (cases_lt k (length xs)) [
        | inl lt ↦ inl (
          (k, (lt, sym (get_or_append_left xs ys [] k lt) ∙ once.1.1), left),
          λ has. omega (arith, right has.0 has.1),
        )
        | inr le ↦ inr (
          λ has. omega (arith, left has.0 has.1, has.1.0),
          (
            k - length xs,
            (omega (arith, n, once.1.0), sym (get_or-append_right xs ys (length xs) k [] refl le) ∙ once.1.1),
            λ j at. omega (arith, right j at),
          ),
        )
      ]

  has_cases : (xs ys : List (List ℕ)) → Has (xs ++ ys) → Has xs ⊎ Has ys
  has_cases xs ys has = elim (cases_lt has.0 (length xs)) [
    | inl lt ↦ inl (has.0, (lt, sym (get_or_append_left xs ys [] has.0 lt) ∙ has.1.1))
    | inr le ↦ inr (
      has.0 - length xs,
      (
        omega (arith, length-append xs ys, has.1.0),
        sym (get_or-append_right xs ys (length xs) has.0 [] refl le) ∙ has.1.1,
      ),
    )
  ]

  -- ---- a line among hunks

  any_later : (P : DiffHunk → Type 0) (h : DiffHunk) (hs : List DiffHunk) → Any P hs → Any P (h ∷ hs)
  any_later P h hs any = (suc any.0, any.1, omega (arith, any.2), any.3, any.4)

  any_first : (P : DiffHunk → Type 0) (h : DiffHunk) (hs : List DiffHunk) → P h → Any P (h ∷ hs)
  any_first P h hs p = (zero, h, omega arith, refl, p)

  has_of_hunks : (i : ℕ) (hs : List DiffHunk) → Has (flat_map (part_lines i) hs) → PartsHave i line hs
  has_of_hunks i [] has = absurd (omega (arith, has.1.0))
  has_of_hunks i (h ∷ hs) has = elim (has_cases (part_lines i h) (flat_map (part_lines i) hs) has) [
    | inl here ↦ any_first (λ g. HasLine line (part_of i g)) h hs (has_of_lines (part_of i h) here)
    | inr rest ↦ any_later (λ g. HasLine line (part_of i g)) h hs (has_of_hunks i hs rest)
  ]

  abbrev Found : List DiffHunk → Type 0
  Found hs = LineMatches line hs ⊎ LineCrosses line hs

  found_later : (h : DiffHunk) (hs : List DiffHunk) → Found hs → Found (h ∷ hs)
  found_later h hs found = elim found [
    | inl m ↦ inl (any_later (λ g. (g.kind ≡ Matching) × HasLine line (part_of 0 g) × HasLine line (part_of 1 g)) h hs m)
    | inr c ↦ inr (record {
      earlier = h ∷ c.earlier;
      between = c.between;
      later = c.later;
      split = ap (λ gs. h ∷ gs) c.split;
      matching = c.matching;
      crossed = elim c.crossed [
        | inl x ↦ inl (any_later (λ g. HasLine line (part_of 0 g)) h c.earlier x.0, x.1)
        | inr x ↦ inr (any_later (λ g. HasLine line (part_of 1 g)) h c.earlier x.0, x.1)
      ];
    })
  ]

  -- a hunk that matches has equal parts, and one that differs does not have the line once in each
  abbrev Fits : DiffHunk → Type 0
  Fits h = (h.kind ≡ Matching → part_of 0 h ≡ part_of 1 h)
      × (h.kind ≡ Different → Once (part_lines 0 h) → Once (part_lines 1 h) → ⊥)

  kind_cases : (k : DiffHunkKind) → (k ≡ Matching) ⊎ (k ≡ Different)
  kind_cases Matching = inl refl
  kind_cases Different = inr refl

  other_kind : (k l : DiffHunkKind) → k ≡ Different → k ≢ l → l ≡ Matching
  other_kind k Matching e n = refl
  other_kind k Different e n = absurd (n e)

  abbrev Kinds : List DiffHunk → Type 0
  Kinds hs = Alternate (map (λ h. h.kind) hs)

  kinds_tail : (h : DiffHunk) (hs : List DiffHunk) → Kinds (h ∷ hs) → Kinds hs
  kinds_tail h [] kinds = tt
  kinds_tail h (g ∷ gs) kinds = kinds.1

  -- The line is in part i of a hunk that differs, and in part j of the later ones.
  module _ (i j : ℕ) where
    crosses : (h : DiffHunk) (hs : List DiffHunk) → ((g : DiffHunk) → g.kind ≡ Matching → Fits g → part_of j g ≡ part_of i g)
        → h.kind ≡ Different → Kinds (h ∷ hs) → All Fits hs → Has (part_lines i h) → ¬ (Has (flat_map (part_lines i) hs))
        → Has (flat_map (part_lines j) hs) → (c : LineCrosses line (h ∷ hs) → Found (h ∷ hs))
        → ((earlier later : List DiffHunk) → PartsHave i line earlier → PartsHave j line later
        → (PartsHave 0 line earlier × PartsHave 1 line later) ⊎ (PartsHave 1 line earlier × PartsHave 0 line later))
        → Found (h ∷ hs)
    crosses h [] equal differs kinds fits here none later c pair = absurd (omega (arith, later.1.0))
    crosses h (g ∷ gs) equal differs kinds fits here none later c pair =
        let matching : g.kind ≡ Matching = other_kind h.kind g.kind differs kinds.0 in
        let same : part_of j g ≡ part_of i g = equal g matching (All-head Fits g gs fits) in
        elim (has_cases (part_lines j g) (flat_map (part_lines j) gs) later) [
          | inl has ↦ absurd (none (has_first (part_lines i g) (flat_map (part_lines i) gs) (subst (λ text. Has (lines_of text)) same has)))
          | inr has ↦ c (record {
            earlier = h ∷ [];
            between = g;
            later = gs;
            split = refl;
            matching = matching;
            crossed = pair (h ∷ []) gs
                (any_first (λ f. HasLine line (part_of i f)) h [] (has_of_lines (part_of i h) here))
                (has_of_hunks j gs has);
          })
        ]

  has_once : (ls : List (List ℕ)) → Once ls → Has ls
  has_once ls once = (once.0, once.1)

  found_here : (h : DiffHunk) (hs : List DiffHunk) → Fits h → Once (part_lines 0 h) → Once (part_lines 1 h) → Found (h ∷ hs)
  found_here h hs fits left right = elim (kind_cases h.kind) [
    | inl m ↦ inl (any_first (λ g. (g.kind ≡ Matching) × HasLine line (part_of 0 g) × HasLine line (part_of 1 g)) h hs
        (m, has_of_lines (part_of 0 h) (has_once (part_lines 0 h) left), has_of_lines (part_of 1 h) (has_once (part_lines 1 h) right)))
    | inr d ↦ absurd (fits.1 d left right)
  ]

  found : (hs : List DiffHunk) → All Fits hs → Kinds hs → Once (flat_map (part_lines 0) hs) → Once (flat_map (part_lines 1) hs) → Found hs
  found [] fits kinds left right = absurd (omega (arith, left.1.0))
  found (h ∷ hs) fits kinds left right =
      let first : Fits h = All-head Fits h hs fits in
      let rest : All Fits hs = All-tail Fits h hs fits in
      elim (once_cases (part_lines 0 h) (flat_map (part_lines 0) hs) left) [
        | inl l ↦ elim (once_cases (part_lines 1 h) (flat_map (part_lines 1) hs) right) [
          | inl r ↦ found_here h hs first l.0 r.0
          | inr r ↦ elim (kind_cases h.kind) [
            | inl m ↦ absurd (r.0 (subst (λ text. Has (lines_of text)) (first.0 m) (has_once (part_lines 0 h) l.0)))
            | inr d ↦ crosses 0 1 h hs (λ g m f. sym (f.0 m)) d kinds rest (has_once (part_lines 0 h) l.0) l.1
                (has_once (flat_map (part_lines 1) hs) r.1) inr (λ earlier later a b. inl (a, b))
          ]
        ]
        | inr l ↦ elim (once_cases (part_lines 1 h) (flat_map (part_lines 1) hs) right) [
          | inl r ↦ elim (kind_cases h.kind) [
            | inl m ↦ absurd (l.0 (subst (λ text. Has (lines_of text)) (sym (first.0 m)) (has_once (part_lines 1 h) r.0)))
            | inr d ↦ crosses 1 0 h hs (λ g m f. f.0 m) d kinds rest (has_once (part_lines 1 h) r.0) r.1
                (has_once (flat_map (part_lines 0) hs) l.1) inr (λ earlier later a b. inr (a, b))
          ]
          | inr r ↦ found_later h hs (found hs rest (kinds_tail h hs kinds) l.1 r.1)
        ]
      ]

-- ---- a comparison of two versions

module _ (l r : List ℕ) (hs : List DiffHunk) (diff : IsDiff is_line_end (l ∷ r ∷ []) hs) (trimmed : AreTrimmed is_line_end hs) where
  lines_of_side : (i : ℕ) (text : List ℕ) → i < 2 → get_or (l ∷ r ∷ []) i [] ≡ text → lines_of text ≡ flat_map (part_lines i) hs
  lines_of_side i text lt e =
      let side_is : side i (map row_of hs) ≡ text = diff.sides i lt ∙ e in
      ap lines_of (sym side_is)
      ∙ lines_of_hunks i hs (λ k le. subst (λ xs. IsCut is_line_end xs (length (side i (map row_of (take k hs))))) (e ∙ sym side_is) (diff.cuts k i le lt))

  fits : HasSmallChanges hs → (line : List ℕ) → All (Fits line) hs
  fits small line k d lt =
      let h : DiffHunk = get_or hs k d in
      let n : length (row_of h) ≡ 2 = (diff.hunks k d lt).len in (
        λ m. sym ((diff.hunks k d lt).equal m 1 (omega (arith, n))),
        λ e left right. (trimmed k d lt e).once
            (λ i il. both (λ j. length (token_offsets is_line_end (part_of j h)) ≤ 65)
            (omega (arith, (small k d lt e).0)) (omega (arith, (small k d lt e).1)) i (omega (arith, n, il)))
            line
            (record {
              some = omega (arith, n);
              once = λ i il. both (λ j. StandsOnce is_line_end (part_of j h) line)
                  (once_of_lines line (part_of 0 h) left) (once_of_lines line (part_of 1 h) right) i (omega (arith, n, il));
            }),
      )

  pub keeps_lines : KeepsLines l r hs
  keeps_lines = record {
    each = λ small line left right. found line hs (fits small line) diff.alternate
        (subst (Once line) (lines_of_side 0 l (lit< tt) refl) (once_of_text line l left))
        (subst (Once line) (lines_of_side 1 r (lit< tt) refl) (once_of_text line r right));
  }

pub ruleset shared_steps = (keeps_lines)
