-- Trivial resolution of borrowed byte strings, and of their bytes.
use Rattle.std.proofs.Common.{◌≡◌, ◌≢◌, ℕ, ◌+◌, ◌<◌, ◌≤◌, ◌%◌, suc, zero, Bool, true, false, List, [], ◌∷◌, ◌++◌, length, map, take, get_or, Bor, refl, ap, sym, ◌∙◌, subst, arith, All, inl, inr, cond, Vec, Global}
use Rattle.std.proofs.lemmas.Int.{ints}
use Rattle.std.proofs.lemmas.Slice.Eq.{bytes_eq-Decides}
use Rattle.std.specs.Prelude.{count_by, pos, ◌-ℤ◌, ◌<ℤ◌}
use Rattle.std.specs.Str.{bytes_eq}
use Rattle.std.specs.List.{fold, AllZip}
use Rattle.std.proofs.lemmas.List.{get_or-map, take_more, take_all, length-map, append-nil, map_push}
use Rattle.std.proofs.lemmas.List.Elements.{AllZip-push, All-map, All-nil, All-cons}
use Rattle.jj_diff.specs.Inputs.{bytes_of, side}
use Rattle.jj_diff.specs.Tokens.{is_line_end, is_word_end, IsCut, TokenEnds}
use Rattle.jj_diff.specs.Tokenizers.{line_tokens}
use Rattle.jj_merges.specs.declared.merge.SameChange.{SameChange}
use Rattle.jj_merges.specs.declared.merge.SameChange.TheVariants.{Keep, Accept}
use Rattle.jj_merges.specs.Merge.{adds, removes, signed_count, IsOdd}
use Rattle.jj_merges.specs.Resolution.{ResolvesTo}
use Rattle.jj_content_merges.specs.declared.files.hunks.MergeHunk.{MergeHunk}
use Rattle.jj_content_merges.specs.declared.files.FileMergeHunkLevel.{FileMergeHunkLevel}
use Rattle.jj_content_merges.specs.Hunks.{all_resolved, merged_side}
use Rattle.jj_content_merges.specs.Rows.{parts_of, rows_of}
use Rattle.jj_content_merges.specs.Comparisons.{AreTight, IsTightSplit}
use Rattle.jj_content_merges.specs.Files.{terms_of, IsSplit, Outcomes, IsTokenMerge, IsWordMerge, IsHunk, IsContentMerge}

abbrev pub Text : Type 0
Text = Bor (List ℕ)

abbrev pub same_text : Text → Text → Bool
same_text x y = bytes_eq x.now y.now

abbrev pub text : List ℕ → Text
text w = record { ref_ptr = (0, 0); now = w }

mutual
  adds-map : (m : List Text) → adds (bytes_of m) ≡ bytes_of (adds m)
  adds-map [] = refl
  adds-map (x ∷ xs) = ap (λ ys. x.now ∷ ys) (removes-map xs)

  removes-map : (m : List Text) → removes (bytes_of m) ≡ bytes_of (removes m)
  removes-map [] = refl
  removes-map (x ∷ xs) = adds-map xs

count-from : (v : Text) (a : ℕ) (xs : List Text)
    → fold (λ s x. s + cond (same_text v x) 1 0) a xs ≡ fold (λ s x. s + cond (bytes_eq v.now x) 1 0) a (bytes_of xs)
count-from v a [] = refl
count-from v a (x ∷ xs) = count-from v (a + cond (bytes_eq v.now x.now) 1 0) xs

count-bytes : (v : Text) (xs : List Text) → count_by (same_text v) xs ≡ count_by (bytes_eq v.now) (bytes_of xs)
count-bytes v xs = count-from v 0 xs

module _ (m : List Text) where
  counts : (v : Text) → signed_count same_text m v ≡ signed_count bytes_eq (bytes_of m) v.now
  counts v =
      ap (λ n. pos n -ℤ pos (count_by (same_text v) (removes m))) (count-bytes v (adds m) ∙ ap (count_by (bytes_eq v.now)) (sym (adds-map m)))
      ∙ ap (λ n. pos (count_by (bytes_eq v.now) (adds (bytes_of m))) -ℤ pos n) (count-bytes v (removes m) ∙ ap (count_by (bytes_eq v.now)) (sym (removes-map m)))

  pub resolves_bytes : (same : SameChange) (v : Text) → ResolvesTo same_text same m v → ResolvesTo bytes_eq same (bytes_of m) v.now
  resolves_bytes Keep v r = (sym (counts v) ∙ r.0, λ w ne. r.1 (text w) (λ e. ne (sym (counts (text w)) ∙ e)))
  resolves_bytes Accept v r = (
    subst (λ z. pos 0 <ℤ z) (counts v) r.0,
    (λ w lt. r.1 (text w) (subst (λ z. pos 0 <ℤ z) (sym (counts (text w))) lt)),
    (λ w x lt mt. r.2 (text w) (text x) (subst (λ z. z <ℤ pos 0) (sym (counts (text w))) lt) (subst (λ z. z <ℤ pos 0) (sym (counts (text x))) mt)),
  )

  pub resolves_texts : (same : SameChange) (w : List ℕ) → ResolvesTo bytes_eq same (bytes_of m) w → ResolvesTo same_text same m (text w)
  resolves_texts Keep w r = (counts (text w) ∙ r.0, λ x ne. r.1 x.now (λ e. ne (counts x ∙ e)))
  resolves_texts Accept w r = (
    subst (λ z. pos 0 <ℤ z) (sym (counts (text w))) r.0,
    (λ x lt. r.1 x.now (subst (λ z. pos 0 <ℤ z) (counts x) lt)),
    (λ x y lt mt. r.2 x.now y.now (subst (λ z. z <ℤ pos 0) (counts x) lt) (subst (λ z. z <ℤ pos 0) (counts y) mt)),
  )

-- one more hunk of what has rows as views
pub zip_push : {H : Type 0} (view : H → List (List ℕ)) (R : List (List ℕ) → List (List ℕ) → Type 0)
    (hs : List H) (i : ℕ) (h : H) (ms : List MergeHunk) (m : MergeHunk) → i < length hs → h ≡ get_or hs i h
    → AllZip R (map view (take i hs)) (map terms_of ms) → R (view h) (terms_of m)
    → AllZip R (map view (take (i + 1) hs)) (map terms_of (ms ++ m ∷ []))
zip_push view R hs i h ms m lt e before here =
    let rows : map view (take (i + 1) hs) ≡ map view (take i hs) ++ view h ∷ [] =
    ap (map view) (take_more hs i h lt ∙ ap (λ x. take i hs ++ x ∷ []) (sym e)) ∙ map_push view (take i hs) h in
    let terms : map terms_of (ms ++ m ∷ []) ≡ map terms_of ms ++ terms_of m ∷ [] = map_push terms_of ms m in
    subst (λ xs. AllZip R xs (map terms_of (ms ++ m ∷ []))) (sym rows)
    (subst (λ ys. AllZip R (map view (take i hs) ++ view h ∷ []) ys) (sym terms)
    (AllZip-push R (map view (take i hs)) (map terms_of ms) (view h) (terms_of m) before here))

pub length-bytes_of : (m : List Text) → length (bytes_of m) ≡ length m
length-bytes_of m = length-map m (λ r. r.now)

width_at : (inputs : List (List ℕ)) (rows : List (Vec Text Global)) → All (λ row. length row ≡ length inputs) (rows_of rows)
    → (k : ℕ) (d : Vec Text Global) → k < length rows → length (bytes_of (get_or rows k d).items) ≡ length inputs
width_at inputs rows width k d lt =
    ap length (sym (get_or-map parts_of rows k d (parts_of d) lt))
    ∙ width k (parts_of d) (omega (arith, length-map rows parts_of))

-- a single row ends where the inputs end
whole_lines : (inputs : List (List ℕ)) (i k : ℕ)
    → IsCut is_line_end (get_or inputs i []) (length (side i (take k (inputs ∷ []))))
whole_lines inputs i zero = inl refl
whole_lines inputs i (suc zero) =
    subst (λ xs. IsCut is_line_end (get_or inputs i []) (length xs)) (sym (append-nil (get_or inputs i []))) (line_tokens.whole (get_or inputs i []))
whole_lines inputs i (suc (suc k)) =
    subst (λ xs. IsCut is_line_end (get_or inputs i []) (length xs)) (sym (append-nil (get_or inputs i []))) (line_tokens.whole (get_or inputs i []))

pub token_merge : (is_end : TokenEnds) (same : SameChange) (inputs : List (List ℕ))
    (rows : List (Vec Text Global)) (ms : List MergeHunk) → IsSplit is_end inputs (rows_of rows)
    → Outcomes same (rows_of rows) (map terms_of ms) → IsTokenMerge is_end same inputs (map terms_of ms)
token_merge is_end same inputs rows ms split outcomes =
    record { rows = rows_of rows; split = split; outcomes = outcomes }

pub content_merge : (level : FileMergeHunkLevel) (same : SameChange) (inputs : List (List ℕ))
    (rows : List (Vec Text Global)) (ms : List MergeHunk) → IsSplit is_line_end inputs (rows_of rows)
    → AllZip (IsHunk level same) (rows_of rows) (map terms_of ms) → IsTightSplit same inputs (rows_of rows)
    → IsContentMerge level same inputs (map terms_of ms)
content_merge level same inputs rows ms split outcomes tight =
    record { rows = rows_of rows; split = split; outcomes = outcomes; tight = tight }

-- rows of an odd number of inputs are odd
pub odd_parts : (is_end : TokenEnds) (inputs : List (List ℕ)) (rows : List (Vec Text Global))
    → IsSplit is_end inputs (rows_of rows) → IsOdd (length inputs) → All (λ row. IsOdd (length row.items)) rows
odd_parts is_end inputs rows split odd k d lt =
    subst IsOdd (sym (sym (length-bytes_of (get_or rows k d).items) ∙ width_at inputs rows split.width k d lt)) odd

one_not_zero : pos 1 ≡ pos 0 → ⊥
one_not_zero e = grind (arith, ints)

-- a merge resolves to one value at most
pub resolves_unique : (same : SameChange) (m : List (List ℕ)) (v w : List ℕ) → ResolvesTo bytes_eq same m v
    → ResolvesTo bytes_eq same m w → v ≡ w
resolves_unique Keep m v w r q =
    (bytes_eq-Decides v w).0 (r.1 w (λ e. one_not_zero (sym q.0 ∙ e)))
resolves_unique Accept m v w r q = (bytes_eq-Decides v w).0 (r.1 w q.0)

one_tight : (same : SameChange) (l b r v : List ℕ) → ResolvesTo bytes_eq same (l ∷ b ∷ r ∷ []) v
    → AreTight same l b r ((l ∷ b ∷ r ∷ []) ∷ [])
one_tight same l b r v resolved zero lt = inl (v, resolved)
one_tight same l b r v resolved (suc n) lt = absurd (omega (arith, lt))

whole_tight : (same : SameChange) (inputs : List (List ℕ)) (v : List ℕ) → ResolvesTo bytes_eq same inputs v
    → IsTightSplit same inputs (inputs ∷ [])
whole_tight same [] v r = tt
whole_tight same (x ∷ []) v r = tt
whole_tight same (x ∷ y ∷ []) v r = tt
whole_tight same (x ∷ y ∷ z ∷ []) v r = one_tight same x y z v r
whole_tight same (x ∷ y ∷ z ∷ t ∷ ts) v r = tt

-- rows of fewer or more terms than three
pub few_tight : (same : SameChange) (terms : List Text) (rows : List (List (List ℕ))) → length terms < 3
    → IsTightSplit same (bytes_of terms) rows
few_tight same [] rows lt = tt
few_tight same (x ∷ []) rows lt = tt
few_tight same (x ∷ y ∷ []) rows lt = tt
few_tight same (x ∷ y ∷ z ∷ []) rows lt = absurd (omega (arith, lt))
few_tight same (x ∷ y ∷ z ∷ t ∷ ts) rows lt = tt

pub many_tight : (same : SameChange) (terms : List Text) (rows : List (List (List ℕ))) → 4 ≤ length terms
    → IsTightSplit same (bytes_of terms) rows
many_tight same [] rows le = tt
many_tight same (x ∷ []) rows le = tt
many_tight same (x ∷ y ∷ []) rows le = tt
many_tight same (x ∷ y ∷ z ∷ []) rows le = absurd (omega (arith, le))
many_tight same (x ∷ y ∷ z ∷ t ∷ ts) rows le = tt

pub three_tight : (same : SameChange) (terms : List Text) (d : Text) (rows : List (List (List ℕ))) → 3 ≤ length terms
    → length terms < 4 → AreTight same (get_or terms 0 d).now (get_or terms 1 d).now (get_or terms 2 d).now rows
    → IsTightSplit same (bytes_of terms) rows
three_tight same [] d rows le lt tight = tt
three_tight same (x ∷ []) d rows le lt tight = tt
three_tight same (x ∷ y ∷ []) d rows le lt tight = tt
three_tight same (x ∷ y ∷ z ∷ []) d rows le lt tight = tight
three_tight same (x ∷ y ∷ z ∷ t ∷ ts) d rows le lt tight = tt

-- the terms as one row
pub whole_merge : (level : FileMergeHunkLevel) (same : SameChange) (inputs : List (List ℕ)) (v : List ℕ)
    (hunks : List (List (List ℕ))) → hunks ≡ (v ∷ []) ∷ [] → ResolvesTo bytes_eq same inputs v
    → IsContentMerge level same inputs hunks
whole_merge level same inputs v hunks e r = record {
  rows = inputs ∷ [];
  split = record {
    width = All-cons (λ row. length row ≡ length inputs) inputs [] refl (All-nil (λ row. length row ≡ length inputs));
    sides = λ i lt. append-nil (get_or inputs i []);
    cuts = λ k i le lt. whole_lines inputs i k;
  };
  outcomes = subst (AllZip (IsHunk level same) (inputs ∷ [])) (sym e) (inl (v, refl, r), tt);
  tight = whole_tight same inputs v r;
}

-- the outcome of a merge by words
pub words_resolved : (same : SameChange) (row : List (List ℕ)) (ms : List (List (List ℕ)))
    (text : List ℕ) → IsTokenMerge is_word_end same row ms → all_resolved ms ≡ true → text ≡ merged_side 0 ms
    → IsWordMerge same row (text ∷ [])
words_resolved same row ms text m e f = record {
  words = ms;
  merge = m;
  outcome = ap (λ x. x ∷ []) f
      ∙ sym (ap (λ b. cond b (merged_side 0 ms ∷ []) row) e);
}

pub words_unresolved : (same : SameChange) (row terms : List (List ℕ)) (ms : List (List (List ℕ)))
    → IsTokenMerge is_word_end same row ms → all_resolved ms ≡ false → terms ≡ row
    → IsWordMerge same row terms
words_unresolved same row terms ms m e f = record {
  words = ms;
  merge = m;
  outcome = f ∙ sym (ap (λ b. cond b (merged_side 0 ms ∷ []) row) e);
}

pub ruleset split_steps = (few_tight, many_tight)

pub ruleset outcome_steps = (zip_push, take_all)

pub ruleset row_steps = (resolves_bytes, resolves_texts)

pub ruleset merge_steps = (odd_parts, token_merge, content_merge, length-bytes_of)

pub ruleset word_steps = (words_resolved, words_unresolved)

pub ruleset whole_steps = (whole_merge, resolves_unique, resolves_bytes, resolves_texts)
