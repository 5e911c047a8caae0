-- The fields of the first line of a string: the one before the first TAB or LF, and those after it.
use Rattle.std.proofs.Common.{◌≡◌, ◌∙◌, ◌==◌, ◌+◌, ◌-◌, ◌<◌, ◌≤◌, ℕ, suc, Bool, true, false, List, [], ◌∷◌, ◌++◌, length, length-drop, get_or, take, drop, ap, sym, refl, subst, arith, append_assoc, ⊎_elim}
use Rattle.std.specs.Prelude.{◌||◌, All}
use Rattle.std.specs.List.{after_first, before_first, position_or_len, slice_range}
use Rattle.std.specs.Str.{IsCharBoundary, IsUtf8}
use Rattle.std.proofs.lemmas.Bool.{cases_lt, false_from_ne_true, ne_eqb}
use Rattle.std.proofs.lemmas.Bool.Decides.{Decides-eqb}
use Rattle.std.proofs.lemmas.List.Elements.{All-from_get_or, All-head, All-tail}
use Rattle.std.proofs.lemmas.List.Splits.{slice_split_at, slice_split_first, slice_split_none}
use Rattle.std.proofs.lemmas.List.Sums.{fails_before_first, passes_at_first, position_or_len_is, split_at_first}
use Rattle.std.proofs.lemmas.List.{drop-drop, get_or-drop, get_or-take, length-take-le, take_all}
use Rattle.std.proofs.lemmas.Str.{IsCharBoundary-after_ascii, IsCharBoundary-before_ascii, IsCharBoundary-end}
use Rattle.jj_program.specs.Lines.{fields_of, lines_of}
use Rattle.jj_program.proofs.Steps.{IsFirstLine}

-- the tests for a TAB, an LF and either
abbrev pub is_tab : ℕ → Bool
is_tab b = b == 9

abbrev pub is_lf : ℕ → Bool
is_lf b = b == 10

abbrev pub is_end : ℕ → Bool
is_end b = b == 9 || b == 10

-- the fields of the first line
abbrev pub first_fields_of : List ℕ → List (List ℕ)
first_fields_of bs = fields_of (before_first is_lf bs)

neither : (a b : Bool) → (a || b) ≡ false → (a ≡ false) × (b ≡ false)
neither true b h = cc
neither false b h = (refl, h)

other : (a b : Bool) → (a || b) ≡ true → b ≡ false → a ≡ true
other true b h e = refl
other false b h e = cc

pub position_within : (p : ℕ → Bool) (bs : List ℕ) → position_or_len p bs ≤ length bs
position_within p [] = omega arith
position_within p (x ∷ bs) = by_test (p x) refl (position_within p bs)
  where
    by_test : (t : Bool) → p x ≡ t → position_or_len p bs ≤ length bs → position_or_len p (x ∷ bs) ≤ suc (length bs)
    by_test true e le = rw e (omega arith)
    by_test false e le = rw e (omega (arith, le))

-- bytes of the first field
module _ (bs : List ℕ) where
  plain : (k : ℕ) → k < position_or_len is_end bs → (is_tab (get_or bs k 0) ≡ false) × (is_lf (get_or bs k 0) ≡ false)
  plain k h = neither (is_tab (get_or bs k 0)) (is_lf (get_or bs k 0)) (fails_before_first is_end bs k 0 h)

  size : length (before_first is_end bs) ≡ position_or_len is_end bs
  size = length-take-le (position_or_len is_end bs) bs (position_within is_end bs)

  no_tab : All (λ b. is_tab b ≡ false) (before_first is_end bs)
  no_tab = All-from_get_or (λ b. is_tab b ≡ false) (before_first is_end bs) 0 (λ k within.
      let below : k < position_or_len is_end bs = omega (arith, within, size) in
      subst (λ b. is_tab b ≡ false) (sym (get_or-take (position_or_len is_end bs) bs k 0 below)) (plain k below).0)

  no_lf : All (λ b. is_lf b ≡ false) (before_first is_end bs)
  no_lf = All-from_get_or (λ b. is_lf b ≡ false) (before_first is_end bs) 0 (λ k within.
      let below : k < position_or_len is_end bs = omega (arith, within, size) in
      subst (λ b. is_lf b ≡ false) (sym (get_or-take (position_or_len is_end bs) bs k 0 below)) (plain k below).1)

-- a byte other than LF, before the first LF
position_past : (x : ℕ) (bs : List ℕ) → is_lf x ≡ false → position_or_len is_lf (x ∷ bs) ≡ suc (position_or_len is_lf bs)
position_past x bs e = let at : position_or_len is_lf (x ∷ bs) ≡ 1 + position_or_len is_lf bs = rw e refl in omega (arith, at)

first_past : (x : ℕ) (bs : List ℕ) → is_lf x ≡ false → before_first is_lf (x ∷ bs) ≡ x ∷ before_first is_lf bs
first_past x bs e = ap (λ n. take n (x ∷ bs)) (position_past x bs e)

-- bytes other than LF
positions_past : (xs ys : List ℕ) → All (λ b. is_lf b ≡ false) xs → position_or_len is_lf (xs ++ ys) ≡ length xs + position_or_len is_lf ys
positions_past [] ys h = omega arith
positions_past (x ∷ xs) ys h =
    omega (arith, position_past x (xs ++ ys) (All-head (λ b. is_lf b ≡ false) x xs h), positions_past xs ys (All-tail (λ b. is_lf b ≡ false) x xs h))

firsts_past : (xs ys : List ℕ) → All (λ b. is_lf b ≡ false) xs → before_first is_lf (xs ++ ys) ≡ xs ++ before_first is_lf ys
firsts_past [] ys h = refl
firsts_past (x ∷ xs) ys h =
    first_past x (xs ++ ys) (All-head (λ b. is_lf b ≡ false) x xs h) ∙ ap (λ l. x ∷ l) (firsts_past xs ys (All-tail (λ b. is_lf b ≡ false) x xs h))

-- where the first field ends
pub tab_ends : (x : ℕ) → x ≡ 9 → is_end x ≡ true
tab_ends x is = ap is_end is

pub lf_ends : (x : ℕ) → x ≡ 10 → is_end x ≡ true
lf_ends x is = ap is_end is

pub not_end : (x : ℕ) → (x ≡ 9 → ⊥) → (x ≡ 10 → ⊥) → is_end x ≡ false
not_end x tab lf = ap (λ t. t || is_lf x) (ne_eqb x 9 tab) ∙ ne_eqb x 10 lf

pub not_lf : (x : ℕ) → (x ≡ 10 → ⊥) → is_lf x ≡ false
not_lf x lf = ne_eqb x 10 lf

pub ends_at : (bs : List ℕ) (n : ℕ) → n ≤ length bs → ((k : ℕ) → k < n → is_end (get_or bs k 0) ≡ false) → (n < length bs → is_end (get_or bs n 0) ≡ true) → n ≡ position_or_len is_end bs
ends_at bs n within none ends = sym (position_or_len_is is_end bs n 0 within none ends)

-- no field ends before an index, and a search that began there found an end or none
module _ (bs : List ℕ) (near : ℕ) (within : near ≤ length bs) (none : (k : ℕ) → k < near → is_end (get_or bs k 0) ≡ false) where
  none_below : (index k : ℕ) → ((j : ℕ) → j < index → is_end (get_or (drop near bs) j 0) ≡ true → ⊥) → k < near + index → is_end (get_or bs k 0) ≡ false
  none_below index k nowhere less = ⊎_elim (none k)
      (λ far. let at : near + (k - near) ≡ k = omega (arith, far) in
      subst (λ j. is_end (get_or bs j 0) ≡ false) at (subst (λ b. is_end b ≡ false) (get_or-drop near bs (k - near) 0) (false_from_ne_true (is_end (get_or (drop near bs) (k - near) 0)) (nowhere (k - near) (omega (arith, far, less))))))
      (cases_lt k near)

  pub found_after : (index : ℕ) → index < length (drop near bs) → ((j : ℕ) → j < index → is_end (get_or (drop near bs) j 0) ≡ true → ⊥) → is_end (get_or (drop near bs) index 0) ≡ true
      → near + index ≡ position_or_len is_end bs
  found_after index inside nowhere ends =
      ends_at bs (near + index) (omega (arith, inside, within, length-drop near bs)) (λ k less. none_below index k nowhere less)
      (λ h. subst (λ b. is_end b ≡ true) (get_or-drop near bs index 0) ends)

  pub none_after : ((j : ℕ) → j < length (drop near bs) → is_end (get_or (drop near bs) j 0) ≡ true → ⊥) → length bs ≡ position_or_len is_end bs
  none_after nowhere =
      ends_at bs (length bs) (omega arith) (λ k less. none_below (length (drop near bs)) k nowhere (omega (arith, less, within, length-drop near bs))) (λ h. absurd (omega (arith, h)))

  -- the search was in a slice
  pub found_in : (hay : List ℕ) → hay ≡ drop near bs → (index : ℕ) → index < length hay → ((j : ℕ) → j < index → is_end (get_or hay j 0) ≡ true → ⊥) → is_end (get_or hay index 0) ≡ true
      → near + index ≡ position_or_len is_end bs
  found_in hay same = subst (λ l. (index : ℕ) → index < length l → ((j : ℕ) → j < index → is_end (get_or l j 0) ≡ true → ⊥) → is_end (get_or l index 0) ≡ true → near + index ≡ position_or_len is_end bs) (sym same) found_after

  pub none_in : (hay : List ℕ) → hay ≡ drop near bs → ((j : ℕ) → j < length hay → is_end (get_or hay j 0) ≡ true → ⊥) → length bs ≡ position_or_len is_end bs
  none_in hay same = subst (λ l. ((j : ℕ) → j < length l → is_end (get_or l j 0) ≡ true → ⊥) → length bs ≡ position_or_len is_end bs) (sym same) none_after

-- the rest of a slice from an index
pub rest_of : (bytes text : List ℕ) (start : ℕ) → bytes ≡ text → take (length bytes - start) (drop start bytes) ≡ drop start text
rest_of bytes text start e = take_all (length bytes - start) (drop start bytes) (omega (arith, length-drop start bytes)) ∙ ap (drop start) e

-- the line goes on after its first field
pub record HasMoreFields (bs : List ℕ) : Type 0 where
  pub fields : first_fields_of bs ≡ before_first is_end bs ∷ first_fields_of (after_first is_end bs)
  pub place : position_or_len is_lf bs ≡ position_or_len is_end bs + 1 + position_or_len is_lf (after_first is_end bs)
  pub tab : get_or bs (position_or_len is_end bs) 0 ≡ 9

pub more_fields : (bs : List ℕ) → position_or_len is_end bs < length bs → is_lf (get_or bs (position_or_len is_end bs) 0) ≡ false → HasMoreFields bs
more_fields bs within is =
    let x = get_or bs (position_or_len is_end bs) 0 in
    let front = before_first is_end bs in
    let more = after_first is_end bs in
    let test : is_tab x ≡ true = other (is_tab x) (is_lf x) (passes_at_first is_end bs 0 within) is in
    let cut : bs ≡ front ++ x ∷ more = split_at_first is_end bs 0 within in
    let line : before_first is_lf bs ≡ front ++ x ∷ before_first is_lf more =
    ap (before_first is_lf) cut ∙ firsts_past front (x ∷ more) (no_lf bs) ∙ ap (λ l. front ++ l) (first_past x more is) in
    let long : position_or_len is_lf bs ≡ length front + position_or_len is_lf (x ∷ more) =
    ap (position_or_len is_lf) cut ∙ positions_past front (x ∷ more) (no_lf bs) in
    record {
      fields = ap fields_of line ∙ slice_split_at is_tab front x (before_first is_lf more) (no_tab bs) test;
      place = omega (arith, long, position_past x more is, size bs);
      tab = (Decides-eqb x 9).0 test;
    }

-- the line ends after its first field
pub record HasOneField (bs : List ℕ) : Type 0 where
  pub fields : first_fields_of bs ≡ before_first is_end bs ∷ []
  pub place : position_or_len is_lf bs ≡ position_or_len is_end bs

pub one_field : (bs : List ℕ) → (position_or_len is_end bs < length bs → is_lf (get_or bs (position_or_len is_end bs) 0) ≡ true) → HasOneField bs
one_field bs ends =
    let place : position_or_len is_lf bs ≡ position_or_len is_end bs =
    position_or_len_is is_lf bs (position_or_len is_end bs) 0 (position_within is_end bs) (λ k h. (plain bs k h).1) ends in
    record {
      fields = ap (λ n. fields_of (take n bs)) place ∙ slice_split_none is_tab (before_first is_end bs) (no_tab bs);
      place = place;
    }

ascii_end : (a b : Bool) (x : ℕ) → (a ≡ true → x ≡ 9) → (b ≡ true → x ≡ 10) → (a || b) ≡ true → x < 128
ascii_end true b x nine ten h = let is = nine refl in omega (arith, is)
ascii_end false b x nine ten h = let is = ten h in omega (arith, is)

-- the field at an index, and the bytes after it
module _ (text : List ℕ) (start n : ℕ) (within : start ≤ length text) (is : n ≡ position_or_len is_end (drop start text)) where
  abbrev pub rest : List ℕ
  rest = drop start text

  left : start + length rest ≡ length text
  left = omega (arith, within, length-drop start text)

  pub end_within : start + n ≤ length text
  end_within = omega (arith, is, left, position_within is_end rest)

  byte_at : get_or rest (position_or_len is_end rest) 0 ≡ get_or text (start + n) 0
  byte_at = get_or-drop start text (position_or_len is_end rest) 0 ∙ ap (λ k. get_or text (start + k) 0) (sym is)

  pub end_boundary : IsCharBoundary text (start + n)
  end_boundary = ⊎_elim
      (λ less. let inside : position_or_len is_end rest < length rest = omega (arith, less, left, is) in
      let x = get_or text (start + n) 0 in
      let ends : is_end x ≡ true = subst (λ b. is_end b ≡ true) byte_at (passes_at_first is_end rest 0 inside) in
      IsCharBoundary-before_ascii text (start + n) less (ascii_end (is_tab x) (is_lf x) x (Decides-eqb x 9).0 (Decides-eqb x 10).0 ends))
      (λ least. let all : length text ≡ start + n = omega (arith, least, end_within) in subst (IsCharBoundary text) all (IsCharBoundary-end text))
      (cases_lt (start + n) (length text))

  field_is : before_first is_end rest ≡ slice_range text start (start + n)
  field_is = ap (λ k. take k rest) (let size : position_or_len is_end rest ≡ start + n - start = omega (arith, is) in size)

  module _ (parts : List (List ℕ)) (so_far : parts ++ first_fields_of rest ≡ first_fields_of text) (place : start + position_or_len is_lf rest ≡ position_or_len is_lf text) where
    -- the line goes on
    module _ (more : start + n < length text) (no : is_lf (get_or text (start + n) 0) ≡ false) where
      has_more : HasMoreFields rest
      has_more = more_fields rest (omega (arith, more, left, is)) (subst (λ b. is_lf b ≡ false) (sym byte_at) no)

      after_is : after_first is_end rest ≡ drop (start + n + 1) text
      after_is = drop-drop (position_or_len is_end rest + 1) start text ∙ ap (λ k. drop k text) (let same : start + (position_or_len is_end rest + 1) ≡ start + n + 1 = omega (arith, is) in same)

      pub next_fields : (parts ++ slice_range text start (start + n) ∷ []) ++ first_fields_of (drop (start + n + 1) text) ≡ first_fields_of text
      next_fields =
          append_assoc parts (slice_range text start (start + n) ∷ []) (first_fields_of (drop (start + n + 1) text))
          ∙ ap (λ f. parts ++ f ∷ first_fields_of (drop (start + n + 1) text)) (sym field_is)
          ∙ ap (λ l. parts ++ before_first is_end rest ∷ first_fields_of l) (sym after_is)
          ∙ ap (λ l. parts ++ l) (sym has_more.fields) ∙ so_far

      pub next_place : start + n + 1 + position_or_len is_lf (drop (start + n + 1) text) ≡ position_or_len is_lf text
      next_place = omega (arith, has_more.place, place, is, ap (position_or_len is_lf) after_is)

      pub next_boundary : IsUtf8 text → IsCharBoundary text (start + n + 1)
      next_boundary utf8 = let tab : get_or text (start + n) 0 ≡ 9 = sym byte_at ∙ has_more.tab in IsCharBoundary-after_ascii text (start + n) utf8 more (omega (arith, tab))

    -- the line ends
    module _ (ends : start + n < length text → is_lf (get_or text (start + n) 0) ≡ true) where
      has_one : HasOneField rest
      has_one = one_field rest (λ inside. subst (λ b. is_lf b ≡ true) (sym byte_at) (ends (omega (arith, inside, left, is))))

      pub last_fields : parts ++ slice_range text start (start + n) ∷ [] ≡ first_fields_of text
      last_fields = ap (λ f. parts ++ f ∷ []) (sym field_is) ∙ ap (λ l. parts ++ l) (sym has_one.fields) ∙ so_far

      pub last_place : start + n ≡ position_or_len is_lf text
      last_place = omega (arith, has_one.place, place, is)

-- ---- lines

-- the bytes before an index, as a slice has them
pub line_end : (text : List ℕ) (end : ℕ) → slice_range text 0 end ≡ take end text
line_end text end = let same : end - 0 ≡ end = omega arith in ap (λ n. take n text) same

-- the first line before an LF, and the lines after it
pub line_cut : (text : List ℕ) (end : ℕ) → end ≡ position_or_len is_lf text → end < length text → IsFirstLine text (take end text) (drop (end + 1) text)
line_cut text end is inside =
    let first = slice_split_first is_lf text 0 (omega (arith, is, inside)) in
    record {
      first = first ∙ ap (λ n. take n text ∷ lines_of (drop (n + 1) text)) (sym is);
      shorter = omega (arith, inside, length-drop (end + 1) text);
    }

-- the only line
pub line_last : (text : List ℕ) (end : ℕ) → end ≡ position_or_len is_lf text → end ≡ length text → lines_of text ≡ text ∷ []
line_last text end is all =
    slice_split_none is_lf text (All-from_get_or (λ b. is_lf b ≡ false) text 0 (λ k within. fails_before_first is_lf text k 0 (omega (arith, within, is, all))))

-- the first line and others
pub line_start : (text : List ℕ) (end : ℕ) → end ≡ position_or_len is_lf text → (more : List (List ℕ)) × (lines_of text ≡ take end text ∷ more)
line_start text end is = ⊎_elim
    (λ inside. (lines_of (drop (end + 1) text), (line_cut text end is inside).first))
    (λ least. let all : end ≡ length text = omega (arith, least, is, position_within is_lf text) in
    ([], line_last text end is all ∙ ap (λ l. l ∷ []) (sym (take_all end text (omega (arith, all))))))
    (cases_lt end (length text))

lf_at : (text : List ℕ) (end : ℕ) → end ≡ position_or_len is_lf text → end < length text → get_or text end 0 ≡ 10
lf_at text end is less =
    (Decides-eqb (get_or text end 0) 10).0 (subst (λ k. is_lf (get_or text k 0) ≡ true) (sym is) (passes_at_first is_lf text 0 (omega (arith, is, less))))

-- a line may be cut before its LF and after it
pub line_boundary : (text : List ℕ) (end : ℕ) → end ≡ position_or_len is_lf text → IsCharBoundary text end
line_boundary text end is = ⊎_elim
    (λ less. let at : get_or text end 0 ≡ 10 = lf_at text end is less in IsCharBoundary-before_ascii text end less (omega (arith, at)))
    (λ least. let all : length text ≡ end = omega (arith, least, is, position_within is_lf text) in subst (IsCharBoundary text) all (IsCharBoundary-end text))
    (cases_lt end (length text))

pub after_boundary : (text : List ℕ) (end : ℕ) → end ≡ position_or_len is_lf text → end < length text → IsUtf8 text → IsCharBoundary text (end + 1)
after_boundary text end is less utf8 = let at : get_or text end 0 ≡ 10 = lf_at text end is less in IsCharBoundary-after_ascii text end utf8 less (omega (arith, at))
