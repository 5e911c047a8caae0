-- The lines of adjacent byte strings are those of the one, and then those of the other.
use Rattle.std.proofs.Common.{◌≡◌, ℕ, suc, zero, ◌+◌, ◌-◌, ◌<◌, ◌≤◌, Bool, true, false, cond, ◌==◌, ◌||◌, List, [], ◌∷◌, ◌++◌, length, map, filter, take, drop, get_or, refl, ap, sym, ◌∙◌, subst, arith, inl, inr, length-append, append_assoc, append-nil, eq-eqb, ne_eqb}
use Rattle.std.proofs.lemmas.Bool.{cases_lt, cases_eq, or_right}
use Rattle.std.proofs.lemmas.List.{get_or_append_left, get_or-append-add, drop-drop, drop_at, drop-append-le, take-append-le, length-drop}
use Rattle.std.proofs.lemmas.List.Elements.{filter-append}
use Rattle.std.specs.List.{range_with_len, slice_range, flat_map}
use Rattle.jj_diff.specs.declared.diff.hunks.DiffHunk.{DiffHunk}
use Rattle.jj_diff.specs.Inputs.{side}
use Rattle.jj_diff.specs.Tokens.{is_line_end, IsCut}
use Rattle.jj_diff.specs.Anchors.{token_offsets, token_at}
use Rattle.jj_diff.specs.Hunks.{row_of}
use Rattle.jj_diff.proofs.TokenEnds.{ends_more}
use Rattle.contracts_diffs.specs.Lines.{part_of}

-- ---- numbers of a range that pass a test

range-append : (a m n : ℕ) → range_with_len a (m + n) ≡ range_with_len a m ++ range_with_len (a + m) n
range-append a zero n =
    let e : 0 + n ≡ n = omega arith in
    let f : a ≡ a + 0 = omega arith in
    ap (range_with_len a) e ∙ ap (λ b. range_with_len b n) f
range-append a (suc m) n =
    let e : suc m + n ≡ suc (m + n) = omega arith in
    let f : a + 1 + m ≡ a + suc m = omega arith in
    ap (range_with_len a) e ∙ ap (λ xs. a ∷ xs) (range-append (a + 1) m n)
    ∙ ap (λ b. a ∷ (range_with_len (a + 1) m ++ range_with_len b n)) f

filter_same : (p q : ℕ → Bool) (a n : ℕ) → ((k : ℕ) → a ≤ k → k < a + n → p k ≡ q k)
    → filter p (range_with_len a n) ≡ filter q (range_with_len a n)
filter_same p q a zero same = refl
filter_same p q a (suc n) same =
    ap (λ b. cond b (a ∷ filter p (range_with_len (a + 1) n)) (filter p (range_with_len (a + 1) n))) (same a (omega arith) (omega arith))
    ∙ ap (λ xs. cond (q a) (a ∷ xs) xs) (filter_same p q (a + 1) n (λ k le lt. same k (omega arith) (omega arith)))

map_cond : (f : ℕ → ℕ) (a : ℕ) (xs : List ℕ) (b : Bool) → cond b (f a ∷ map f xs) (map f xs) ≡ map f (cond b (a ∷ xs) xs)
map_cond f a xs true = refl
map_cond f a xs false = refl

filter_moved : (p q : ℕ → Bool) (m a n : ℕ) → ((k : ℕ) → a ≤ k → k < a + n → p (m + k) ≡ q k)
    → filter p (range_with_len (m + a) n) ≡ map (λ k. m + k) (filter q (range_with_len a n))
filter_moved p q m a zero same = refl
filter_moved p q m a (suc n) same =
    let e : m + a + 1 ≡ m + (a + 1) = omega arith in
    ap (λ b. cond b ((m + a) ∷ filter p (range_with_len (m + a + 1) n)) (filter p (range_with_len (m + a + 1) n))) (same a (omega arith) (omega arith))
    ∙ ap (λ xs. cond (q a) ((m + a) ∷ xs) xs) (
    ap (λ b. filter p (range_with_len b n)) e
    ∙ filter_moved p q m (a + 1) n (λ k le lt. same k (omega arith) (omega arith)))
    ∙ map_cond (λ k. m + k) a (filter q (range_with_len (a + 1) n)) (q a)

below_first : (a m : ℕ) (xs : List ℕ) → a < m → ((k : ℕ) → k < length xs → get_or xs k 0 < m)
    → (k : ℕ) → k < length (a ∷ xs) → get_or (a ∷ xs) k 0 < m
below_first a m xs here rest zero lt = here
below_first a m xs here rest (suc k) lt = rest k (omega arith)

filter_below : (p : ℕ → Bool) (a n : ℕ) (k : ℕ) → k < length (filter p (range_with_len a n)) → get_or (filter p (range_with_len a n)) k 0 < a + n
filter_below p a zero = λ k lt. absurd (omega arith)
filter_below p a (suc n) =
    let xs : List ℕ = filter p (range_with_len (a + 1) n) in
    let rest : (k : ℕ) → k < length xs → get_or xs k 0 < a + suc n = λ k lt. omega (arith, filter_below p (a + 1) n k lt) in
    elim (p a) as (λ b. (k : ℕ) → k < length (cond b (a ∷ xs) xs) → get_or (cond b (a ∷ xs) xs) k 0 < a + suc n) [
      | true ↦ below_first a (a + suc n) xs (omega arith) rest
      | false ↦ rest
    ]

-- ---- ends of lines

eqb-same : (a b c d : ℕ) → (a ≡ b → c ≡ d) → (c ≡ d → a ≡ b) → (a == b) ≡ (c == d)
eqb-same a b c d to from = elim (cases_eq a b) [
  | inl e ↦ eq-eqb a b e ∙ sym (eq-eqb c d (to e))
  | inr n ↦ ne_eqb a b n ∙ sym (ne_eqb c d (λ e. n (from e)))
]

left_end : (p q : List ℕ) (k : ℕ) → 1 ≤ k → k < 1 + length p → IsCut is_line_end (p ++ q) (length p) → is_line_end (p ++ q) k ≡ is_line_end p k
left_end p q k le lt cut = elim (cases_lt k (length p)) [
  | inl inner ↦
      ap (λ b. (b == 10) || (k == length (p ++ q))) (get_or_append_left p q 0 (k - 1) (omega arith))
      ∙ ap (λ b. (get_or p (k - 1) 0 == 10) || b)
      (eqb-same k (length (p ++ q)) k (length p) (λ e. absurd (omega (arith, e, length-append p q))) (λ e. absurd (omega (arith, e))))
  | inr whole ↦
      let e : k ≡ length p = omega arith in
      let all : is_line_end p k ≡ true = or_right (get_or p (k - 1) 0 == 10) (k == length p) (eq-eqb k (length p) e) in
      elim cut [
        | inl none ↦ absurd (omega (arith, none))
        | inr end ↦ ap (is_line_end (p ++ q)) e ∙ end ∙ sym all
      ]
]

right_end : (p q : List ℕ) (k : ℕ) → 1 ≤ k → is_line_end (p ++ q) (length p + k) ≡ is_line_end q k
right_end p q k le =
    let e : length p + k - 1 ≡ length p + (k - 1) = omega arith in
    ap (λ i. (get_or (p ++ q) i 0 == 10) || (length p + k == length (p ++ q))) e
    ∙ ap (λ b. (b == 10) || (length p + k == length (p ++ q))) (get_or-append-add p q (k - 1) 0)
    ∙ ap (λ b. (get_or q (k - 1) 0 == 10) || b)
    (eqb-same (length p + k) (length (p ++ q)) k (length q) (λ e. omega (arith, e, length-append p q)) (λ e. omega (arith, e, length-append p q)))

abbrev ends_of : List ℕ → List ℕ
ends_of text = filter (is_line_end text) (range_with_len 1 (length text))

ends-append : (p q : List ℕ) → IsCut is_line_end (p ++ q) (length p) → ends_of (p ++ q) ≡ ends_of p ++ map (λ k. length p + k) (ends_of q)
ends-append p q cut =
    let e : 1 + length p ≡ length p + 1 = omega arith in
    ap (λ n. filter (is_line_end (p ++ q)) (range_with_len 1 n)) (length-append p q)
    ∙ ap (filter (is_line_end (p ++ q))) (range-append 1 (length p) (length q))
    ∙ filter-append (is_line_end (p ++ q)) (range_with_len 1 (length p)) (range_with_len (1 + length p) (length q))
    ∙ ap (λ xs. xs ++ filter (is_line_end (p ++ q)) (range_with_len (1 + length p) (length q)))
    (filter_same (is_line_end (p ++ q)) (is_line_end p) 1 (length p) (λ k le lt. left_end p q k le lt cut))
    ∙ ap (λ a. ends_of p ++ filter (is_line_end (p ++ q)) (range_with_len a (length q))) e
    ∙ ap (λ xs. ends_of p ++ xs)
    (filter_moved (is_line_end (p ++ q)) (is_line_end q) (length p) 1 (length q) (λ k le lt. right_end p q k le))

-- ---- the ranges between offsets

abbrev pub pieces : List ℕ → List ℕ → List (List ℕ)
pieces text [] = []
pieces text (a ∷ []) = []
pieces text (a ∷ b ∷ os) = slice_range text a b ∷ pieces text (b ∷ os)

pub length-pieces : (text os : List ℕ) → length (pieces text os) ≡ length os - 1
length-pieces text [] = refl
length-pieces text (a ∷ []) = refl
length-pieces text (a ∷ b ∷ os) = omega (arith, length-pieces text (b ∷ os))

pub piece_at : (text os : List ℕ) (k : ℕ) → k + 1 < length os → get_or (pieces text os) k [] ≡ token_at text os k
piece_at text [] k lt = absurd (omega arith)
piece_at text (a ∷ []) k lt = absurd (omega arith)
piece_at text (a ∷ b ∷ os) zero lt = refl
piece_at text (a ∷ b ∷ os) (suc k) lt =
    let e : suc (k + 1) ≡ suc k + 1 = omega arith in
    piece_at text (b ∷ os) k (omega arith)
    ∙ ap (λ j. slice_range text (get_or (b ∷ os) k 0) (get_or (a ∷ b ∷ os) j 0)) e

pieces_joined : (text xs : List ℕ) (m : ℕ) (ys : List ℕ)
    → pieces text (xs ++ m ∷ ys) ≡ pieces text (xs ++ m ∷ []) ++ pieces text (m ∷ ys)
pieces_joined text [] m ys = refl
pieces_joined text (x ∷ []) m ys = refl
pieces_joined text (x ∷ y ∷ zs) m ys = ap (λ ls. slice_range text x y ∷ ls) (pieces_joined text (y ∷ zs) m ys)

range_right : (p q : List ℕ) (a b : ℕ) → slice_range (p ++ q) (length p + a) (length p + b) ≡ slice_range q a b
range_right p q a b =
    let e : length p + b - (length p + a) ≡ b - a = omega arith in
    ap (λ n. take n (drop (length p + a) (p ++ q))) e
    ∙ ap (take (b - a)) (sym (drop-drop a (length p) (p ++ q)) ∙ ap (drop a) (drop_at p q (length p) refl))

pieces_right : (p q os : List ℕ) → pieces (p ++ q) (map (λ k. length p + k) os) ≡ pieces q os
pieces_right p q [] = refl
pieces_right p q (a ∷ []) = refl
pieces_right p q (a ∷ b ∷ os) =
    ap (λ x. x ∷ pieces (p ++ q) (map (λ k. length p + k) (b ∷ os))) (range_right p q a b)
    ∙ ap (λ xs. slice_range q a b ∷ xs) (pieces_right p q (b ∷ os))

range_left : (p q : List ℕ) (a b : ℕ) → a ≤ length p → b ≤ length p → slice_range (p ++ q) a b ≡ slice_range p a b
range_left p q a b le lt =
    ap (take (b - a)) (drop-append-le a p q le) ∙ take-append-le (b - a) (drop a p) q (omega (arith, length-drop a p))

pieces_left : (p q os : List ℕ) → ((k : ℕ) → k < length os → get_or os k 0 ≤ length p) → pieces (p ++ q) os ≡ pieces p os
pieces_left p q [] within = refl
pieces_left p q (a ∷ []) within = refl
pieces_left p q (a ∷ b ∷ os) within =
    ap (λ x. x ∷ pieces (p ++ q) (b ∷ os)) (range_left p q a b (within 0 (omega arith)) (within 1 (omega arith)))
    ∙ ap (λ xs. slice_range p a b ∷ xs) (pieces_left p q (b ∷ os) (λ k lt. within (suc k) (omega arith)))

-- ---- lines

abbrev pub lines_of : List ℕ → List (List ℕ)
lines_of text = pieces text (token_offsets is_line_end text)

offset_within : (text : List ℕ) (k : ℕ) → k < length (token_offsets is_line_end text) → get_or (token_offsets is_line_end text) k 0 ≤ length text
offset_within text zero lt = omega arith
offset_within text (suc k) lt = omega (arith, filter_below (is_line_end text) 1 (length text) k (omega arith))

last_offset : (p : List ℕ) → (front : List ℕ) × (token_offsets is_line_end p ≡ front ++ length p ∷ [])
last_offset [] = ([], refl)
last_offset (b ∷ bs) =
    let p : List ℕ = b ∷ bs in
    let n : ℕ = length bs in
    let e : suc n ≡ n + 1 = omega arith in
    let all : is_line_end p (n + 1) ≡ true = or_right (get_or p (n + 1 - 1) 0 == 10) (n + 1 == length p) (eq-eqb (n + 1) (length p) (omega arith)) in (
      0 ∷ filter (is_line_end p) (range_with_len 1 n),
      ap (λ xs. 0 ∷ xs) (ap (λ k. filter (is_line_end p) (range_with_len 1 k)) e
          ∙ ends_more (is_line_end p) n all
          ∙ ap (λ k. filter (is_line_end p) (range_with_len 1 n) ++ k ∷ []) (sym e)),
    )

pub lines-append : (p q : List ℕ) → IsCut is_line_end (p ++ q) (length p) → lines_of (p ++ q) ≡ lines_of p ++ lines_of q
lines-append p q cut =
    let last : (front : List ℕ) × (token_offsets is_line_end p ≡ front ++ length p ∷ []) = last_offset p in
    let moved : List ℕ = map (λ k. length p + k) (ends_of q) in
    let none : length p ≡ length p + 0 = omega arith in
    let offsets : token_offsets is_line_end (p ++ q) ≡ last.0 ++ (length p ∷ moved) =
    ap (λ xs. 0 ∷ xs) (ends-append p q cut) ∙ ap (λ xs. xs ++ moved) last.1 ∙ append_assoc last.0 (length p ∷ []) moved in
    ap (pieces (p ++ q)) offsets
    ∙ pieces_joined (p ++ q) last.0 (length p) moved
    ∙ ap (λ os. pieces (p ++ q) os ++ pieces (p ++ q) (length p ∷ moved)) (sym last.1)
    ∙ ap (λ xs. xs ++ pieces (p ++ q) (length p ∷ moved)) (pieces_left p q (token_offsets is_line_end p) (offset_within p))
    ∙ ap (λ k. lines_of p ++ pieces (p ++ q) (k ∷ moved)) none
    ∙ ap (λ xs. lines_of p ++ xs) (pieces_right p q (0 ∷ ends_of q))

-- ---- lines of part i of all hunks

rest_cut : (p q : List ℕ) (n : ℕ) → IsCut is_line_end (p ++ q) (length p + n) → IsCut is_line_end q n
rest_cut p q zero cut = inl refl
rest_cut p q (suc n) cut = elim cut [
  | inl none ↦ absurd (omega (arith, none))
  | inr end ↦ inr (sym (right_end p q (suc n) (omega arith)) ∙ end)
]

abbrev pub part_lines : ℕ → DiffHunk → List (List ℕ)
part_lines i hunk = lines_of (part_of i hunk)

pub lines_of_hunks : (i : ℕ) (hs : List DiffHunk)
    → ((k : ℕ) → k ≤ length hs → IsCut is_line_end (side i (map row_of hs)) (length (side i (map row_of (take k hs)))))
    → lines_of (side i (map row_of hs)) ≡ flat_map (part_lines i) hs
lines_of_hunks i [] cuts = refl
lines_of_hunks i (h ∷ hs) cuts =
    let p : List ℕ = part_of i h in
    let q : List ℕ = side i (map row_of hs) in
    lines-append p q (subst (λ xs. IsCut is_line_end (p ++ q) (length xs)) (append-nil p) (cuts 1 (omega arith)))
    ∙ ap (λ ls. lines_of p ++ ls) (lines_of_hunks i hs (λ k le.
    rest_cut p q (length (side i (map row_of (take k hs))))
    (subst (IsCut is_line_end (p ++ q)) (length-append p (side i (map row_of (take k hs)))) (cuts (suc k) (omega arith)))))
