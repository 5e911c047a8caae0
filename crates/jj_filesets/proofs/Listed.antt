-- Lines of lists that are no paths, and the first of them.
use Rattle.std.proofs.Common.{◌≡◌, ◌∙◌, ℕ, ◌+◌, ◌<◌, Bool, true, false, not, List, [], ◌∷◌, Option, Some, None, get_or, length, map, refl, ap, sym, arith, lt-ltb, zero-add}
use mathlib.Core.Bool.{false≢true}
use Rattle.std.specs.Prelude.{is_some, nat_lt, if◌then◌else◌}
use Rattle.std.specs.List.{position, position_or_len, prefix_len, count_by, slice_get}
use Rattle.std.specs.Str.{IsUtf8, is_utf8}
use Rattle.std.proofs.lemmas.Str.{is_utf8-from_IsUtf8, IsUtf8-from_is_utf8}
use borrow.Author.Tests.{ltb-true}
use Rattle.std.proofs.lemmas.List.{length-map}
use Rattle.std.proofs.lemmas.List.Sums.{passes_at_first, sum_by-cons}
use Rattle.std.proofs.lemmas.Option.{slice_get-get_or}
use Rattle.jj_filesets.specs.declared.listing.LineFault.{LineFault}
use Rattle.jj_filesets.specs.declared.listing.LineFault.TheVariants.{Quoted, CarriageReturn, NotUtf8}
use Rattle.jj_filesets.specs.declared.listing.ListError.{ListError}
use Rattle.jj_filesets.specs.declared.listing.ListError.TheVariants.{Line, Memory}
use Rattle.jj_filesets.specs.declared.listing.ListOptions.{ListOptions}
use Rattle.jj_filesets.specs.Listing.{IsFaultOf, IsLineError, text_fault, path_fault, line_fault, is_invalid_line, is_quoted, ends_in_return}
use Rattle.jj_filesets.specs.PathStrings.{without_dot}

-- 1. Strings that are UTF-8, or are not.

pub text_fault-utf8 : (path : List ℕ) → IsUtf8 path → text_fault path ≡ path_fault path
text_fault-utf8 path utf8 = rw (is_utf8-from_IsUtf8 path utf8) refl

not_true : (b : Bool) → (b ≡ true → ⊥) → b ≡ false
not_true true never = absurd (never refl)
not_true false never = refl

pub text_fault-other : (path : List ℕ) → (¬ IsUtf8 path) → text_fault path ≡ Some NotUtf8
text_fault-other path never = let no : is_utf8 path ≡ false = not_true (is_utf8 path) (λ e. never (IsUtf8-from_is_utf8 path e)) in rw no refl

-- a line without a fault has a path without one
without_fault : (nul quoted return : Bool) (path : Option LineFault)
    → (if nul then path else (if quoted then Some Quoted else (if return then Some CarriageReturn else path))) ≡ None → path ≡ None
without_fault true quoted return path is = is
without_fault false true return path is = absurd (cc)
without_fault false false true path is = absurd (cc)
without_fault false false false path is = is

pub no_utf8_no_path : (nul : Bool) (line : List ℕ) → (¬ IsUtf8 (without_dot line)) → line_fault nul line ≡ None → ⊥
no_utf8_no_path nul line never is =
    let none : text_fault (without_dot line) ≡ None = without_fault nul (is_quoted line) (ends_in_return line) (text_fault (without_dot line)) is in
    some-none (sym (text_fault-other (without_dot line) never) ∙ none)
  where
    some-none : Some NotUtf8 ≡ None → ⊥
    some-none e = cc

-- 2. The first line that is no path.

fault_of : (o : Option LineFault) → is_some o ≡ true → (fault : LineFault) × (o ≡ Some fault)
fault_of (Some fault) is = (fault, refl)
fault_of None is = absurd (false≢true is)

position_within : {X : Type 0} (p : X → Bool) (xs : List X) (index : ℕ) → position p xs ≡ Some index → (position_or_len p xs < length xs) × (index ≡ position_or_len p xs)
position_within p xs index is = by_test (nat_lt (position_or_len p xs) (length xs)) refl is
  where
    some : (a b : ℕ) → Some a ≡ Some b → b ≡ a
    some a b e = cc

    none : (a : ℕ) → None ≡ Some a → ⊥
    none a e = cc

    by_test : (t : Bool) → nat_lt (position_or_len p xs) (length xs) ≡ t → (if t then Some (position_or_len p xs) else None) ≡ Some index → (position_or_len p xs < length xs) × (index ≡ position_or_len p xs)
    by_test true below e = (ltb-true _ _ below, some _ index e)
    by_test false below e = absurd (none index e)

-- no element passes
uncounted : {X : Type 0} (p : X → Bool) (xs : List X) → (position_or_len p xs < length xs → ⊥) → count_by p xs ≡ 0
uncounted p [] never = refl
uncounted p (x ∷ xs) never = by_test (uncounted p xs) (p x) refl
  where
    by_test : ((position_or_len p xs < length xs → ⊥) → count_by p xs ≡ 0) → (t : Bool) → p x ≡ t → count_by p (x ∷ xs) ≡ 0
    by_test more true is = let at : position_or_len p (x ∷ xs) ≡ 0 = ap (λ b. if not b then 1 + position_or_len p xs else 0) is in absurd (never (omega (arith, at)))
    by_test more false is =
        let at : position_or_len p (x ∷ xs) ≡ 1 + position_or_len p xs = ap (λ b. if not b then 1 + position_or_len p xs else 0) is in
        sum_by-cons (λ y. if p y then 1 else 0) x xs ∙ ap (λ b. (if b then 1 else 0) + count_by p xs) is ∙ zero-add (count_by p xs) ∙ more (λ below. never (omega (arith, at, below)))

pub counted_none : {X : Type 0} (p : X → Bool) (xs : List X) → position p xs ≡ None → count_by p xs ≡ 0
counted_none p xs is = by_test (nat_lt (position_or_len p xs) (length xs)) refl is
  where
    some : (a : ℕ) → Some a ≡ None → ⊥
    some a e = cc

    by_test : (t : Bool) → nat_lt (position_or_len p xs) (length xs) ≡ t → (if t then Some (position_or_len p xs) else None) ≡ None → count_by p xs ≡ 0
    by_test true below e = absurd (some _ e)
    by_test false past e = uncounted p xs (λ below. false≢true (sym past ∙ lt-ltb _ _ below))

pub record IsFirst (nul : Bool) (lines : List (List ℕ)) (index : ℕ) : Type 0 where
  pub line : List ℕ
  pub fault : LineFault
  pub get : slice_get lines index ≡ Some line
  pub has : line_fault nul line ≡ Some fault

pub first_fault : (nul : Bool) (lines : List (List ℕ)) (index : ℕ) → position (is_invalid_line nul) lines ≡ Some index → IsFirst nul lines index
first_fault nul lines index is =
    let at = position_within (is_invalid_line nul) lines index is in
    let found = fault_of (line_fault nul (get_or lines (position_or_len (is_invalid_line nul) lines) [])) (passes_at_first (is_invalid_line nul) lines [] at.0) in
    record {
      line = get_or lines (position_or_len (is_invalid_line nul) lines) [];
      fault = found.0;
      get = ap (slice_get lines) at.1 ∙ slice_get-get_or lines (position_or_len (is_invalid_line nul) lines) [] at.0;
      has = found.1;
    }

pub of_first : (options : ListOptions) (lines : List (List ℕ)) (index : ℕ) (error : ListError) → options.skips_invalid ≡ false → position (is_invalid_line options.nul) lines ≡ Some index
    → (first : IsFirst options.nul lines index) → IsFaultOf index first.line first.fault error → IsLineError options lines error
of_first options lines index Memory strict at first is = tt
of_first options lines index (Line number excerpt kind) strict at first is = (strict, (index, first.line, first.fault, at, first.get, first.has, is))

-- 3. Lists of lines that borrow.

prefix_len-map : {X Y : Type 0} (q : Y → Bool) (f : X → Y) (xs : List X) → prefix_len q (map f xs) ≡ prefix_len (λ x. q (f x)) xs
prefix_len-map q f [] = refl
prefix_len-map q f (x ∷ xs) = ap (λ n. if q (f x) then 1 + n else 0) (prefix_len-map q f xs)

pub position-map : {X Y : Type 0} (p : Y → Bool) (f : X → Y) (xs : List X) → position p (map f xs) ≡ position (λ x. p (f x)) xs
position-map p f xs =
    let n : position_or_len p (map f xs) ≡ position_or_len (λ x. p (f x)) xs = prefix_len-map (λ y. not (p y)) f xs in
    ap (λ k. if nat_lt k (length (map f xs)) then Some k else None) n
    ∙ ap (λ k. if nat_lt (position_or_len (λ x. p (f x)) xs) k then Some (position_or_len (λ x. p (f x)) xs) else None) (length-map xs f)
