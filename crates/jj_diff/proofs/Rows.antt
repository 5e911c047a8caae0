-- Rows of parts of the inputs, and hunks of them.
use Rattle.std.proofs.Common.{◌≡◌, ◌≢◌, ℕ, suc, zero, ◌+◌, ◌-◌, ◌<◌, ◌≤◌, List, [], ◌∷◌, ◌++◌, length, map, take, get_or, Bor, refl, ap, sym, ◌∙◌, subst, arith, below_more, length-append, Bool, true, ◌==◌, inl, inr}
use Rattle.std.proofs.lemmas.Bool.{cases_lt}
use Rattle.std.proofs.lemmas.Bool.Decides.{Decides-eqb}
use Rattle.std.proofs.Math.ListN.{get_or-map as map-get}
use Rattle.std.specs.List.{slice_range, concat}
use Rattle.std.proofs.Math.Seq.{take-add}
use Rattle.std.proofs.lemmas.List.{get_or-map, append-nil, take_all, length-take-le, take-append-le}
use Rattle.std.proofs.lemmas.List.Folds.{concat-append}
use Rattle.std.proofs.lemmas.List.Elements.{All-push, All-nil, All-cons}
use Rattle.std.proofs.lemmas.Grind.{common_steps, elements}
use Rattle.jj_diff.specs.declared.diff.hunks.DiffHunk.{DiffHunk}
use Rattle.jj_diff.specs.declared.diff.hunks.DiffHunkKind.{DiffHunkKind}
use Rattle.jj_diff.specs.declared.diff.hunks.DiffHunkKind.TheVariants.{Matching, Different}
use Rattle.jj_diff.specs.Tokens.{IsCut, IsTokenizer, TokenEnds}
use Rattle.jj_diff.specs.Inputs.{bytes_of, side, AreRanges, AreParts, IsEmpty, IsNonempty, AreEqual, AreEqualBy}
use Rattle.jj_diff.specs.Hunks.{row_of, Alternate, EndsIn, IsHunkBy, IsDiffBy, IsPrefixDiff, AreCuts}

-- the bytes of the reference at index i
pub bytes_at : (refs : List (Bor (List ℕ))) (i : ℕ) (r : Bor (List ℕ)) → i < length refs → r ≡ get_or refs i r
    → get_or (bytes_of refs) i [] ≡ r.now
bytes_at refs i r lt e = get_or-map (λ x. x.now) refs i r [] lt ∙ ap (λ x. x.now) (sym e)

pub length-bytes_of : (refs : List (Bor (List ℕ))) → length (bytes_of refs) ≡ length refs
length-bytes_of [] = refl
length-bytes_of (r ∷ refs) = ap suc (length-bytes_of refs)

pub bytes_of-push : (refs : List (Bor (List ℕ))) (r : Bor (List ℕ))
    → bytes_of (refs ++ r ∷ []) ≡ bytes_of refs ++ r.now ∷ []
bytes_of-push [] r = refl
bytes_of-push (s ∷ refs) r = ap (λ xs. s.now ∷ xs) (bytes_of-push refs r)

push_before : (xs : List (List ℕ)) (x : List ℕ) (n i : ℕ) → length xs ≡ n → i < n → get_or (xs ++ x ∷ []) i [] ≡ get_or xs i []
push_before xs x n i e lt = grind (arith, common_steps, elements)

push_here : (xs : List (List ℕ)) (x : List ℕ) (n : ℕ) → length xs ≡ n → get_or (xs ++ x ∷ []) n [] ≡ x
push_here xs x n e = grind (arith, common_steps, elements)

-- the reference that reads past the end of a row return
abbrev pub none : Bor (List ℕ)
none = record { ref_ptr = (0, 0); now = [] }

pub none_at : (refs : List (Bor (List ℕ))) (i : ℕ) → get_or (bytes_of refs) i [] ≡ (get_or refs i none).now
none_at refs i = map-get (λ r. r.now) refs i none

empty-from_test : (xs : List ℕ) → (length xs == 0) ≡ true → xs ≡ []
empty-from_test [] e = refl
empty-from_test (x ∷ xs) e = absurd (omega (arith, (Decides-eqb (length (x ∷ xs)) 0).0 e))

pub row_empty : (refs : List (Bor (List ℕ))) (i : ℕ) (b : Bool) → b ≡ (length (get_or refs i none).now == 0)
    → b ≡ true → get_or (bytes_of refs) i [] ≡ []
row_empty refs i b e t = none_at refs i ∙ empty-from_test (get_or refs i none).now (sym e ∙ t)

-- one more part
pub parts_push : (want : ℕ → List ℕ) (n : ℕ) (refs : List (Bor (List ℕ))) (r : Bor (List ℕ))
    → length refs ≡ n → ((i : ℕ) → i < n → get_or (bytes_of refs) i [] ≡ want i) → r.now ≡ want n
    → (i : ℕ) → i < n + 1 → get_or (bytes_of (refs ++ r ∷ [])) i [] ≡ want i
parts_push want n refs r len before here =
    let P : ℕ → Type 0 = λ i. get_or (bytes_of (refs ++ r ∷ [])) i [] ≡ want i in
    below_more P n
    (λ i lt. rw bytes_of-push (push_before (bytes_of refs) r.now n i (length-bytes_of refs ∙ len) lt ∙ before i lt))
    (rw bytes_of-push (push_here (bytes_of refs) r.now n (length-bytes_of refs ∙ len) ∙ here))

-- the first a elements and those up to b
pub take-slice_range : (xs : List ℕ) (a b : ℕ) → a ≤ b → take a xs ++ slice_range xs a b ≡ take b xs
take-slice_range xs a b le =
    let e : a + (b - a) ≡ b = omega arith in
    sym (take-add a (b - a) xs) ∙ ap (λ n. take n xs) e

map-push : {A B : Type 0} (f : A → B) (xs : List A) (x : A) → map f (xs ++ x ∷ []) ≡ map f xs ++ f x ∷ []
map-push f [] x = refl
map-push f (y ∷ xs) x = ap (λ ys. f y ∷ ys) (map-push f xs x)

concat-single : (xs : List ℕ) → concat (xs ∷ []) ≡ xs
concat-single xs = grind (arith, common_steps)

pub side-push : (i : ℕ) (rows : List (List (List ℕ))) (row : List (List ℕ))
    → side i (rows ++ row ∷ []) ≡ side i rows ++ get_or row i []
side-push i rows row =
    ap concat (map-push (λ r. get_or r i []) rows row)
    ∙ concat-append (map (λ r. get_or r i []) rows) (get_or row i [] ∷ [])
    ∙ ap (λ xs. side i rows ++ xs) (concat-single (get_or row i []))

-- kinds that alternate, and one more that differs from the last
pub alternate_next : (hs : List DiffHunk) (h : DiffHunk) (k : DiffHunkKind)
    → Alternate (map (λ g. g.kind) hs) → EndsIn k hs → h.kind ≢ k
    → Alternate (map (λ g. g.kind) (hs ++ h ∷ []))
alternate_next [] h k alternate last ne = tt
alternate_next (g ∷ []) h k alternate last ne = ((λ e. ne (sym e ∙ last)), tt)
alternate_next (g ∷ i ∷ hs) h k alternate last ne =
    (alternate.0, alternate_next (i ∷ hs) h k alternate.1 last ne)

pub ends_in_push : (hs : List DiffHunk) (h : DiffHunk) → EndsIn h.kind (hs ++ h ∷ [])
ends_in_push [] h = refl
ends_in_push (g ∷ []) h = refl
ends_in_push (g ∷ i ∷ hs) h = ends_in_push (i ∷ hs) h

differs : Different ≡ Matching → ⊥
differs e = cc

no_side : (i k : ℕ) → side i (map row_of (take k [])) ≡ []
no_side i zero = refl
no_side i (suc k) = refl

-- no hunks end before the first byte
pub no_cuts : (t : TokenEnds) (text : List ℕ) (i k : ℕ) → IsCut t text (length (side i (map row_of (take k []))))
no_cuts t text i zero = inl refl
no_cuts t text i (suc k) = inl refl

one_cuts : (t : TokenEnds) (law : IsTokenizer t) (text : List ℕ) (i k : ℕ) (h : DiffHunk) → get_or (row_of h) i [] ≡ text
    → IsCut t text (length (side i (map row_of (take k (h ∷ [])))))
one_cuts t law text i zero h e = inl refl
one_cuts t law text i (suc k) h e =
    let none : side i (map row_of (take k [])) ≡ [] = no_side i k in
    let len : length (get_or (row_of h) i [] ++ side i (map row_of (take k []))) ≡ length text =
    ap (λ xs. length (get_or (row_of h) i [] ++ xs)) none ∙ ap length (append-nil (get_or (row_of h) i []) ∙ e) in
    subst (λ n. IsCut t text n) (sym len) (law.whole text)

module _ (form : List ℕ → List ℕ) (t : TokenEnds) (inputs : List (List ℕ)) (hs : List DiffHunk) (starts ends : List ℕ) where
  -- nothing follows up to `ends`
  pub prefix_skip : IsPrefixDiff form t inputs hs starts → AreRanges inputs starts ends
      → (row : List (List ℕ)) → AreParts inputs starts ends row → IsEmpty row
      → IsPrefixDiff form t inputs hs ends
  prefix_skip before ranges row is_row empty = record {
    len = ranges.ends_len;
    within = ranges.within;
    sides = λ i lt.
        let range : slice_range (get_or inputs i []) (get_or starts i 0) (get_or ends i 0) ≡ [] = sym (is_row.parts i lt) ∙ empty i (omega arith) in
        before.sides i lt ∙ sym (append-nil (take (get_or starts i 0) (get_or inputs i [])))
        ∙ ap (λ xs. take (get_or starts i 0) (get_or inputs i []) ++ xs) (sym range)
        ∙ take-slice_range (get_or inputs i []) (get_or starts i 0) (get_or ends i 0) (ranges.ordered i lt);
    hunks = before.hunks;
    alternate = before.alternate;
    cuts = before.cuts;
  }

  pushed_side : (h : DiffHunk) → AreRanges inputs starts ends → AreParts inputs starts ends (row_of h)
      → IsPrefixDiff form t inputs hs starts → (i : ℕ) → i < length inputs
      → side i (map row_of (hs ++ h ∷ [])) ≡ take (get_or ends i 0) (get_or inputs i [])
  pushed_side h ranges is_row before i lt =
      ap (side i) (map-push row_of hs h) ∙ side-push i (map row_of hs) (row_of h)
      ∙ ap (λ xs. xs ++ get_or (row_of h) i []) (before.sides i lt)
      ∙ ap (λ xs. take (get_or starts i 0) (get_or inputs i []) ++ xs) (is_row.parts i lt)
      ∙ take-slice_range (get_or inputs i []) (get_or starts i 0) (get_or ends i 0) (ranges.ordered i lt)

  -- the next hunk
  prefix_push : (h : DiffHunk) (k : DiffHunkKind) → IsPrefixDiff form t inputs hs starts
      → AreRanges inputs starts ends → AreCuts t inputs ends → AreParts inputs starts ends (row_of h)
      → IsNonempty (row_of h) → (h.kind ≡ Matching → AreEqualBy form (row_of h)) → EndsIn k hs → h.kind ≢ k
      → IsPrefixDiff form t inputs (hs ++ h ∷ []) ends
  prefix_push h k before ranges are_cuts is_row nonempty equal last ne = record {
    len = ranges.ends_len;
    within = ranges.within;
    sides = pushed_side h ranges is_row before;
    hunks = All-push (IsHunkBy form (length inputs)) hs h before.hunks
        (record { len = is_row.len; nonempty = nonempty; equal = equal });
    alternate = alternate_next hs h k before.alternate last ne;
    cuts = λ j i le lt. elim (cases_lt (length hs) j) [
      | inl past ↦
          let whole : take j (hs ++ h ∷ []) ≡ hs ++ h ∷ [] = take_all j (hs ++ h ∷ []) (omega (arith, length-append hs (h ∷ []))) in
          let sides : side i (map row_of (hs ++ h ∷ [])) ≡ take (get_or ends i 0) (get_or inputs i []) = pushed_side h ranges is_row before i lt in
          let len : length (side i (map row_of (take j (hs ++ h ∷ [])))) ≡ get_or ends i 0 =
          ap (λ gs. length (side i (map row_of gs))) whole ∙ ap length sides ∙ length-take-le (get_or ends i 0) (get_or inputs i []) (ranges.within i lt) in
          subst (λ n. IsCut t (get_or inputs i []) n) (sym len) (are_cuts i lt)
      | inr below ↦
          subst (λ gs. IsCut t (get_or inputs i []) (length (side i (map row_of gs)))) (sym (take-append-le j hs (h ∷ []) below)) (before.cuts j i below lt)
    ];
  }

  pub prefix_different : (h : DiffHunk) → h.kind ≡ Different → IsPrefixDiff form t inputs hs starts
      → AreRanges inputs starts ends → AreCuts t inputs ends → AreParts inputs starts ends (row_of h)
      → IsNonempty (row_of h) → EndsIn Matching hs → IsPrefixDiff form t inputs (hs ++ h ∷ []) ends
  prefix_different h kind before ranges are_cuts is_row nonempty last =
      prefix_push h Matching before ranges are_cuts is_row nonempty (λ e. absurd (differs (sym kind ∙ e))) last (λ e. differs (sym kind ∙ e))

  pub prefix_matching : (h : DiffHunk) → h.kind ≡ Matching → IsPrefixDiff form t inputs hs starts
      → AreRanges inputs starts ends → AreCuts t inputs ends → AreParts inputs starts ends (row_of h)
      → IsNonempty (row_of h) → AreEqualBy form (row_of h) → EndsIn Different hs
      → IsPrefixDiff form t inputs (hs ++ h ∷ []) ends
  prefix_matching h kind before ranges are_cuts is_row nonempty equal last =
      prefix_push h Different before ranges are_cuts is_row nonempty (λ e. equal) last (λ e. differs (sym e ∙ kind))

-- the hunks reach the end of all inputs
pub prefix_whole : (form : List ℕ → List ℕ) (t : TokenEnds) (inputs : List (List ℕ)) (hs : List DiffHunk) (ends : List ℕ)
    → ((i : ℕ) → i < length inputs → get_or ends i 0 ≡ length (get_or inputs i []))
    → IsPrefixDiff form t inputs hs ends → IsDiffBy form t inputs hs
prefix_whole form t inputs hs ends whole before = record {
  sides = λ i lt. before.sides i lt ∙ ap (λ n. take n (get_or inputs i [])) (whole i lt) ∙ take_all (length (get_or inputs i [])) (get_or inputs i []) (omega arith);
  hunks = before.hunks;
  alternate = before.alternate;
  cuts = before.cuts;
}

pub ruleset prefix_steps = (prefix_different, prefix_matching, prefix_skip, ends_in_push)

-- no hunk, if all inputs are empty
pub whole_none : (form : List ℕ → List ℕ) (t : TokenEnds) (inputs : List (List ℕ)) → IsEmpty inputs → IsDiffBy form t inputs []
whole_none form t inputs empty = record {
  sides = λ i lt. sym (empty i lt);
  hunks = All-nil (IsHunkBy form (length inputs));
  alternate = tt;
  cuts = λ k i le lt. no_cuts t (get_or inputs i []) i k;
}

-- the inputs as one hunk
pub whole_one : (form : List ℕ → List ℕ) (t : TokenEnds) (law : IsTokenizer t) (inputs : List (List ℕ)) (h : DiffHunk) → row_of h ≡ inputs → IsNonempty inputs
    → (h.kind ≡ Matching → AreEqualBy form inputs) → IsDiffBy form t inputs (h ∷ [])
whole_one form t law inputs h e nonempty equal = record {
  sides = λ i lt. append-nil (get_or (row_of h) i []) ∙ ap (λ row. get_or row i []) e;
  hunks = All-cons (IsHunkBy form (length inputs)) h [] (record {
    len = ap length e;
    nonempty = subst IsNonempty (sym e) nonempty;
    equal = λ k. subst (AreEqualBy form) (sym e) (equal k);
  }) (All-nil (IsHunkBy form (length inputs)));
  alternate = tt;
  cuts = λ k i le lt. one_cuts t law (get_or inputs i []) i k h (ap (λ row. get_or row i []) e);
}

-- a hunk that differs claims nothing of its parts
pub differs_only : (row : List (List ℕ)) → Different ≡ Matching → AreEqual row
differs_only row e = absurd (differs e)

pub ruleset whole_steps = (whole_none, differs_only, length-bytes_of)
