-- A command parsed from bytes that may go on stays so when more bytes follow.
use Rattle.std.proofs.Common.{◌≡◌, ◌∙◌, ℕ, zero, suc, ◌+◌, ◌<◌, ◌≤◌, subst, Bool, true, false, not, ◌&&◌, cond, ltb, nat_eq, List, [], ◌∷◌, ◌++◌, length, take, drop, Option, Some, None, Result, Ok, Err, option_map, refl, sym, ap, arith}
use Rattle.std.specs.Prelude.{codes}
use Rattle.std.specs.Str.{bytes_eq}
use Rattle.std.specs.List.{starts_with}
use Rattle.std.proofs.lemmas.Bool.{le-ltb, ltb-false}
use Rattle.std.proofs.lemmas.List.{length-append, length-drop, take-append-le, drop-append-le}
use Rattle.jj_fast_import.specs.declared.fault.Expected.{Expected}
use Rattle.jj_fast_import.specs.declared.fault.Expected.TheVariants as expected
use Rattle.jj_fast_import.specs.declared.fault.Stop.{Stop}
use Rattle.jj_fast_import.specs.declared.fault.Stop.TheVariants.{Incomplete, Malformed}
use Rattle.jj_fast_import.specs.Words.{and_then, number_of, split_once, strip, with_byte}
use Rattle.jj_fast_import.specs.Lines.{◌>>=◌, argument_or, complete, counted, data_at, data_of, delimited, delimited_by, end_of, expect, line_at, line_of, optional, optional_in, or_else, required, required_in, skip_lf, until, whole_line, without_comments}
use Rattle.jj_fast_import.specs.People.{person_of}
use Rattle.jj_fast_import.specs.Values.{ReferenceValue, ChangeValue, DeletesAll, CommandValue}
use Rattle.jj_fast_import.specs.Changes.{change_at, change_in, change_of, choose, content_at, content_by, copy_at, delete_at, found, last_path, modified_of, modify_at, note_at, noted_of, reference_of, rename_at, two_paths}
use Rattle.jj_fast_import.specs.Commands.{blob_at, command_at, command_in, command_of, commit_at, if_there, labels_at, list_of, many, mark_at, marked, message_at, optional_bytes, optional_reference, or_nothing, other_in, parents_at, people_at, person_line, reference_in, reference_line, reset_at, tag_at, text_at}
use Rattle.jj_fast_import.proofs.Tails.{IsTail, TailIf, change_in_tail, comments_tail}

-- 1. Prefixes of a length.

and_right : (a b : Bool) → (a && b) ≡ true → b ≡ true
and_right true b e = e
and_right false b e = absurd cc

prefix_long : (word bytes : List ℕ) → starts_with nat_eq bytes word ≡ true → length word ≤ length bytes
prefix_long [] bytes e = omega arith
prefix_long (w ∷ ws) [] e = absurd cc
prefix_long (w ∷ ws) (b ∷ bs) e = omega (arith, prefix_long ws bs (and_right (nat_eq w b) (starts_with nat_eq bs ws) e))

strip_long : (word bytes rest : List ℕ) → strip word bytes ≡ Some rest → (length word ≤ length bytes) × (length bytes ≡ length word + length rest)
strip_long word bytes rest e = by_test (starts_with nat_eq bytes word) refl e
  where
    by_test : (is : Bool) → starts_with nat_eq bytes word ≡ is → cond is (Some (drop (length word) bytes)) None ≡ Some rest
        → (length word ≤ length bytes) × (length bytes ≡ length word + length rest)
    by_test true is e =
        let long = prefix_long word bytes is in
        let same : drop (length word) bytes ≡ rest = cc in
        (long, omega (arith, long, ap length same, length-drop (length word) bytes))
    by_test false is e = absurd cc

end_long : (delimiter : List ℕ) (is_start : Bool) (bytes rest : List ℕ) → end_of delimiter is_start bytes ≡ Some rest → length delimiter < length bytes
end_long delimiter false bytes rest e = absurd cc
end_long delimiter true bytes rest e = by_first (strip delimiter bytes) refl e
  where
    by_first : (o : Option (List ℕ)) → strip delimiter bytes ≡ o → and_then o (λ after. strip (10 ∷ []) after) ≡ Some rest → length delimiter < length bytes
    by_first None is e = absurd cc
    by_first (Some after) is e = omega (arith, (strip_long delimiter bytes after is).1, (strip_long (10 ∷ []) after rest e).1)

abbrev LongIn : List ℕ → List ℕ → Option (List ℕ × List ℕ) → Type 0
LongIn delimiter bytes None = Unit {0}
LongIn delimiter bytes (Some parts) = length delimiter < length bytes

until_long : (delimiter : List ℕ) (is_start : Bool) (bytes : List ℕ) → LongIn delimiter bytes (until delimiter is_start bytes)
until_long delimiter is_start [] = tt
until_long delimiter is_start (b ∷ bs) =
    by_end (end_of delimiter is_start (b ∷ bs)) (end_long delimiter is_start (b ∷ bs)) (until delimiter (nat_eq b 10) bs) (until_long delimiter (nat_eq b 10) bs)
  where
    by_end : (o : Option (List ℕ)) → ((rest : List ℕ) → o ≡ Some rest → length delimiter < length (b ∷ bs)) → (later : Option (List ℕ × List ℕ)) → LongIn delimiter bs later
        → LongIn delimiter (b ∷ bs) (or_else o (with_byte b later))
    by_end (Some rest) t later u = t rest refl
    by_end None t None u = tt
    by_end None t (Some parts) u = omega (arith, u)

-- 2. Lines take at least a byte.

abbrev ShorterIf : {A : Type 0} → List ℕ → Result (Option (A × List ℕ)) Stop → Type 0
ShorterIf bytes (Ok None) = Unit {0}
ShorterIf bytes (Ok (Some read)) = length read.1 < length bytes
ShorterIf bytes (Err stop) = Unit {0}

abbrev ShorterIn : List ℕ → Option (List ℕ × List ℕ) → Type 0
ShorterIn bytes None = Unit {0}
ShorterIn bytes (Some parts) = length parts.1 < length bytes

tail_length : (bytes rest : List ℕ) → IsTail bytes rest → length rest ≤ length bytes
tail_length bytes rest t = omega (arith, ap length t.1, length-append t.0 rest)

split_shorter : (byte : ℕ) (bytes : List ℕ) → ShorterIn bytes (split_once byte bytes)
split_shorter byte [] = tt
split_shorter byte (b ∷ bs) = by_test (nat_eq b byte) (split_once byte bs) (split_shorter byte bs)
  where
    by_test : (is : Bool) (r : Option (List ℕ × List ℕ)) → ShorterIn bs r → ShorterIn (b ∷ bs) (cond is (Some ([], bs)) (with_byte b r))
    by_test true r t = omega arith
    by_test false None t = tt
    by_test false (Some parts) t = omega (arith, t)

line_shorter : (at_end : Bool) (bytes : List ℕ) → ShorterIf bytes (line_at at_end bytes)
unfolding line_at
line_shorter at_end bytes = by_bytes at_end (without_comments false bytes) (tail_length bytes (without_comments false bytes) (comments_tail false bytes))
  where
    whole : (lines : List ℕ) (r : Option (List ℕ × List ℕ)) → length lines ≤ length bytes → ShorterIn lines r → ShorterIf bytes (whole_line r)
    whole lines None below t = tt
    whole lines (Some parts) below t = omega (arith, t, below)

    by_bytes : (at_end : Bool) (lines : List ℕ) → length lines ≤ length bytes → ShorterIf bytes (line_of at_end lines)
    by_bytes true [] below = tt
    by_bytes false [] below = tt
    by_bytes at_end (b ∷ bs) below = whole (b ∷ bs) (split_once 10 (b ∷ bs)) below (split_shorter 10 (b ∷ bs))

reference_shorter : (word : List ℕ) (kind : Expected) (at_end : Bool) (bytes : List ℕ) → ShorterIf bytes (reference_line word kind at_end bytes)
unfolding reference_line optional
reference_shorter word kind at_end bytes = by_line (line_at at_end bytes) (line_shorter at_end bytes)
  where
    named : (rest : List ℕ) (r : Result ReferenceValue Stop) → length rest < length bytes → ShorterIf bytes (r >>= λ reference. Ok (Some (reference, rest)))
    named rest (Ok reference) t = t
    named rest (Err stop) t = tt

    by_word : (rest : List ℕ) (o : Option (List ℕ)) → length rest < length bytes → ShorterIf bytes (reference_in kind (length bytes) (argument_or bytes rest o))
    by_word rest None t = tt
    by_word rest (Some text) t = named rest (expect kind (length bytes) (reference_of text)) t

    by_line : (r : Result (Option (List ℕ × List ℕ)) Stop) → ShorterIf bytes r
        → ShorterIf bytes ((r >>= λ line. Ok (optional_in word bytes line)) >>= reference_in kind (length bytes))
    by_line (Ok None) t = tt
    by_line (Ok (Some line)) t = by_word line.1 (strip word line.0) t
    by_line (Err stop) t = tt

change_shorter : (at_end : Bool) (bytes : List ℕ) → ShorterIf bytes (change_at at_end bytes)
unfolding change_at
change_shorter at_end bytes = by_line (line_at at_end bytes) (line_shorter at_end bytes)
  where
    by_change : (rest : List ℕ) (r : Result (Option (ChangeValue × List ℕ)) Stop) → TailIf rest r → length rest < length bytes → ShorterIf bytes r
    by_change rest (Ok None) t u = tt
    by_change rest (Ok (Some read)) t u = omega (arith, tail_length rest read.1 t, u)
    by_change rest (Err stop) t u = tt

    by_line : (r : Result (Option (List ℕ × List ℕ)) Stop) → ShorterIf bytes r → ShorterIf bytes (r >>= change_of at_end (length bytes))
    by_line (Ok None) t = tt
    by_line (Ok (Some line)) t = by_change line.1 (change_in at_end (length bytes) line.0 line.1) (change_in_tail at_end (length bytes) line.0 line.1) t
    by_line (Err stop) t = tt

module _ (at_end : Bool) (more : List ℕ) where
  -- 3. Results of bytes, and of these bytes and more.

  -- a value becomes the later one, and a malformed line stays where it is
  abbrev pub Stays : {A : Type 0} → (A → A) → Result A Stop → Result A Stop → Type 0
  Stays later (Ok x) longer = longer ≡ Ok (later x)
  Stays later (Err Incomplete) longer = Unit {0}
  Stays later (Err (Malformed kind left)) longer = longer ≡ Err (Malformed kind (left + length more))

  abbrev gives : {A : Type 0} → A → Result A Stop
  gives x = Ok x

  abbrev fails : {A : Type 0} → Expected → ℕ → Result A Stop
  fails kind left = Err (Malformed kind left)

  abbrev same : {A : Type 0} → A → A
  same x = x

  abbrev followed : List ℕ → List ℕ
  followed rest = rest ++ more

  abbrev later : {A : Type 0} → A × List ℕ → A × List ℕ
  later read = (read.0, read.1 ++ more)

  abbrev pub later_if : {A : Type 0} → Option (A × List ℕ) → Option (A × List ℕ)
  later_if None = None
  later_if (Some read) = Some (read.0, read.1 ++ more)

  bind_by : {A B : Type 0} (f : A → A) (g : B → B) (r s : Result A Stop) (h k : A → Result B Stop) → Stays f r s → ((x : A) → r ≡ Ok x → Stays g (h x) (k (f x))) → Stays g (r >>= h) (s >>= k)
  bind_by f g (Ok x) s h k t u = subst (λ o. Stays g (h x) (o >>= k)) (sym t) (u x refl)
  bind_by f g (Err Incomplete) s h k t u = tt
  bind_by f g (Err (Malformed kind left)) s h k t u = ap (λ o. o >>= k) t

  bind : {A B : Type 0} (f : A → A) (g : B → B) (r s : Result A Stop) (h k : A → Result B Stop) → Stays f r s → ((x : A) → Stays g (h x) (k (f x))) → Stays g (r >>= h) (s >>= k)
  bind f g r s h k t u = bind_by f g r s h k t (λ x is. u x)

  expect_stays : {A : Type 0} (kind : Expected) (left longer : ℕ) (o : Option A) → longer ≡ left + length more → Stays same (expect kind left o) (expect kind longer o)
  expect_stays {A} kind left longer None e = ap (λ (n : ℕ). fails {A = A} kind n) e
  expect_stays kind left longer (Some x) e = refl

  -- 4. Lines and data.

  comments_stay : (within : Bool) (bytes : List ℕ) (b : ℕ) (bs : List ℕ) → without_comments within bytes ≡ b ∷ bs → without_comments within (bytes ++ more) ≡ b ∷ (bs ++ more)
  comments_stay within [] b bs e = absurd cc
  comments_stay within (c ∷ cs) b bs e = by_test (not within && not (nat_eq c 35)) (comments_stay (not (nat_eq c 10)) cs b bs) e
    where
      by_test : (is : Bool) → (without_comments (not (nat_eq c 10)) cs ≡ b ∷ bs → without_comments (not (nat_eq c 10)) (cs ++ more) ≡ b ∷ (bs ++ more))
          → cond is (c ∷ cs) (without_comments (not (nat_eq c 10)) cs) ≡ b ∷ bs → cond is (c ∷ (cs ++ more)) (without_comments (not (nat_eq c 10)) (cs ++ more)) ≡ b ∷ (bs ++ more)
      by_test true next e = ap (λ (l : List ℕ). l ++ more) e
      by_test false next e = next e

  abbrev StaysIn : Option (List ℕ × List ℕ) → Option (List ℕ × List ℕ) → Type 0
  StaysIn None longer = Unit {0}
  StaysIn (Some parts) longer = longer ≡ Some (parts.0, parts.1 ++ more)

  split_stays : (byte : ℕ) (bytes : List ℕ) → StaysIn (split_once byte bytes) (split_once byte (bytes ++ more))
  split_stays byte [] = tt
  split_stays byte (b ∷ bs) = by_test (nat_eq b byte) (split_once byte bs) (split_once byte (bs ++ more)) (split_stays byte bs)
    where
      by_test : (is : Bool) (r s : Option (List ℕ × List ℕ)) → StaysIn r s → StaysIn (cond is (Some ([], bs)) (with_byte b r)) (cond is (Some ([], bs ++ more)) (with_byte b s))
      by_test true r s t = refl
      by_test false None s t = tt
      by_test false (Some parts) s t = ap (λ o. with_byte b o) t

  line_stays : (bytes : List ℕ) → Stays later_if (line_at false bytes) (line_at at_end (bytes ++ more))
  unfolding line_at
  line_stays bytes = by_lines (without_comments false bytes) refl
    where
      whole : (r s : Option (List ℕ × List ℕ)) → StaysIn r s → Stays later_if (whole_line r) (whole_line s)
      whole None s t = tt
      whole (Some parts) s t = ap whole_line t

      by_lines : (lines : List ℕ) → without_comments false bytes ≡ lines → Stays later_if (line_of false lines) (line_of at_end (without_comments false (bytes ++ more)))
      by_lines [] e = tt
      by_lines (b ∷ bs) e =
          subst (λ l. Stays later_if (whole_line (split_once 10 (b ∷ bs))) (line_of at_end l)) (sym (comments_stay false bytes b bs e))
          (whole (split_once 10 (b ∷ bs)) (split_once 10 ((b ∷ bs) ++ more)) (split_stays 10 (b ∷ bs)))

  optional_stays : (word bytes : List ℕ) → Stays later (optional word false bytes) (optional word at_end (bytes ++ more))
  unfolding optional
  optional_stays word bytes = bind later_if later (line_at false bytes) (line_at at_end (bytes ++ more)) _ _ (line_stays bytes) (λ line. by_line line)
    where
      by_word : (rest : List ℕ) (o : Option (List ℕ)) → gives (argument_or (bytes ++ more) (rest ++ more) o) ≡ gives (later (argument_or bytes rest o))
      by_word rest None = refl
      by_word rest (Some text) = refl

      by_line : (line : Option (List ℕ × List ℕ)) → gives (optional_in word (bytes ++ more) (later_if line)) ≡ gives (later (optional_in word bytes line))
      by_line None = refl
      by_line (Some line) = by_word line.1 (strip word line.0)

  required_stays : (word : List ℕ) (kind : Expected) (bytes : List ℕ) → Stays later (required word kind false bytes) (required word kind at_end (bytes ++ more))
  unfolding required
  required_stays word kind bytes = bind later_if later (line_at false bytes) (line_at at_end (bytes ++ more)) _ _ (line_stays bytes) (λ line. by_line line)
    where
      by_line : (line : Option (List ℕ × List ℕ)) → Stays later (required_in word kind (length bytes) line) (required_in word kind (length (bytes ++ more)) (later_if line))
      by_line None = tt
      by_line (Some line) =
          bind same later (expect kind (length bytes) (strip word line.0)) (expect kind (length (bytes ++ more)) (strip word line.0)) _ _
          (expect_stays kind (length bytes) (length (bytes ++ more)) (strip word line.0) (length-append bytes more)) (λ argument. refl)

  lf_stays : (bytes : List ℕ) → Stays followed (skip_lf false bytes) (skip_lf at_end (bytes ++ more))
  unfolding skip_lf
  lf_stays [] = tt
  lf_stays (b ∷ bs) = by_test (nat_eq b 10)
    where
      by_test : (is : Bool) → Stays followed (cond is (Ok bs) (Ok (b ∷ bs))) (cond is (Ok (bs ++ more)) (Ok (b ∷ (bs ++ more))))
      by_test true = refl
      by_test false = refl

  strip_stays : (word bytes : List ℕ) → length word ≤ length bytes → strip word (bytes ++ more) ≡ option_map followed (strip word bytes)
  strip_stays word bytes long = rw (take-append-le (length word) bytes more long, drop-append-le (length word) bytes more long) (by_test (starts_with nat_eq bytes word))
    where
      by_test : (is : Bool) → cond is (Some (drop (length word) bytes ++ more)) None ≡ option_map followed (cond is (Some (drop (length word) bytes)) None)
      by_test true = refl
      by_test false = refl

  end_stays : (delimiter : List ℕ) (is_start : Bool) (bytes : List ℕ) → length delimiter < length bytes
      → end_of delimiter is_start (bytes ++ more) ≡ option_map followed (end_of delimiter is_start bytes)
  end_stays delimiter false bytes long = refl
  end_stays delimiter true bytes long =
      ap (λ o. and_then o (λ rest. strip (10 ∷ []) rest)) (strip_stays delimiter bytes (omega (arith, long))) ∙ by_first (strip delimiter bytes) refl
    where
      by_first : (o : Option (List ℕ)) → strip delimiter bytes ≡ o
          → and_then (option_map followed o) (λ rest. strip (10 ∷ []) rest) ≡ option_map followed (and_then o (λ rest. strip (10 ∷ []) rest))
      by_first None is = refl
      by_first (Some rest) is = strip_stays (10 ∷ []) rest (omega (arith, long, (strip_long delimiter bytes rest is).1))

  until_stays : (delimiter : List ℕ) (is_start : Bool) (bytes : List ℕ) → StaysIn (until delimiter is_start bytes) (until delimiter is_start (bytes ++ more))
  until_stays delimiter is_start [] = tt
  until_stays delimiter is_start (b ∷ bs) =
      by_end (end_of delimiter is_start (b ∷ bs)) (end_of delimiter is_start ((b ∷ bs) ++ more)) (until delimiter (nat_eq b 10) bs) (until delimiter (nat_eq b 10) (bs ++ more))
      (end_long delimiter is_start (b ∷ bs)) (until_long delimiter (nat_eq b 10) bs) (end_stays delimiter is_start (b ∷ bs)) (until_stays delimiter (nat_eq b 10) bs)
    where
      by_end : (o longer : Option (List ℕ)) (r s : Option (List ℕ × List ℕ)) → ((rest : List ℕ) → o ≡ Some rest → length delimiter < length (b ∷ bs)) → LongIn delimiter bs r
          → (length delimiter < length (b ∷ bs) → longer ≡ option_map followed o) → StaysIn r s → StaysIn (or_else o (with_byte b r)) (or_else longer (with_byte b s))
      by_end (Some rest) longer r s here there decided t = ap (λ o. or_else o (with_byte b s)) (decided (here rest refl))
      by_end None longer None s here there decided t = tt
      by_end None longer (Some parts) s here there decided t = ap (λ o. or_else o (with_byte b s)) (decided (omega (arith, there))) ∙ ap (λ o. with_byte b o) t

  delimited_stays : (delimiter bytes : List ℕ) → Stays later (delimited delimiter bytes) (delimited delimiter (bytes ++ more))
  delimited_stays delimiter bytes = whole (until delimiter true bytes) (until delimiter true (bytes ++ more)) (until_stays delimiter true bytes)
    where
      whole : (r s : Option (List ℕ × List ℕ)) → StaysIn r s → Stays later (complete r) (complete s)
      whole None s t = tt
      whole (Some parts) s t = ap complete t

  counted_stays : (count : ℕ) (bytes : List ℕ) → Stays later (counted count bytes) (counted count (bytes ++ more))
  counted_stays count bytes = by_test (ltb (length bytes) count) refl
    where
      by_test : (short : Bool) → ltb (length bytes) count ≡ short → Stays later (cond short (Err Incomplete) (Ok (take count bytes, drop count bytes))) (counted count (bytes ++ more))
      by_test true e = tt
      by_test false e =
          let long = ltb-false (length bytes) count e in
          rw (le-ltb (length (bytes ++ more)) count (omega (arith, long, length-append bytes more)), take-append-le count bytes more long, drop-append-le count bytes more long) refl

  data_stays : (bytes : List ℕ) → Stays later (data_at false bytes) (data_at at_end (bytes ++ more))
  unfolding data_at
  data_stays bytes =
      bind later later (required (codes "data ") expected.Data false bytes) (required (codes "data ") expected.Data at_end (bytes ++ more)) _ _ (required_stays (codes "data ") expected.Data bytes)
      (λ size. by_delimiter size.0 size.1 (strip (codes "<<") size.0))
    where
      by_delimiter : (size rest : List ℕ) (o : Option (List ℕ)) → Stays later (data_of (length bytes) size rest o) (data_of (length (bytes ++ more)) size (rest ++ more) o)
      by_delimiter size rest None =
          bind same later (expect expected.Data (length bytes) (number_of size)) (expect expected.Data (length (bytes ++ more)) (number_of size)) _ _
          (expect_stays expected.Data (length bytes) (length (bytes ++ more)) (number_of size) (length-append bytes more)) (λ count. counted_stays count rest)
      by_delimiter size rest (Some []) = ap (λ (n : ℕ). delimited_by n [] (rest ++ more)) (length-append bytes more)
      by_delimiter size rest (Some (b ∷ bs)) = delimited_stays (b ∷ bs) rest

  -- 5. Changes.

  module _ (left longer : ℕ) (e : longer ≡ left + length more) where
    content_stays : (kind : Expected) (text rest : List ℕ) → Stays later (content_at false kind left text rest) (content_at at_end kind longer text (rest ++ more))
    unfolding content_at
    content_stays kind text rest = by_test (bytes_eq text (codes "inline"))
      where
        by_test : (is : Bool) → Stays later (content_by is false kind left text rest) (content_by is at_end kind longer text (rest ++ more))
        by_test true =
            bind later later (data_at false rest) (data_at at_end (rest ++ more)) _ _ (data_stays rest)
            (λ read. bind followed later (skip_lf false read.1) (skip_lf at_end (read.1 ++ more)) _ _ (lf_stays read.1) (λ after. refl))
        by_test false = bind same later (expect kind left (reference_of text)) (expect kind longer (reference_of text)) _ _ (expect_stays kind left longer (reference_of text) e) (λ reference. refl)

    modify_stays : (text rest : List ℕ) → Stays later (modify_at false left text rest) (modify_at at_end longer text (rest ++ more))
    unfolding modify_at
    modify_stays text rest =
        bind same later (expect expected.Modify left (modified_of text)) (expect expected.Modify longer (modified_of text)) _ _ (expect_stays expected.Modify left longer (modified_of text) e)
        (λ parts. bind later later (content_at false expected.Modify left parts.1 rest) (content_at at_end expected.Modify longer parts.1 (rest ++ more)) _ _ (content_stays expected.Modify parts.1 rest) (λ content. refl))

    delete_stays : (text rest : List ℕ) → Stays later (delete_at left text rest) (delete_at longer text (rest ++ more))
    unfolding delete_at
    delete_stays text rest = bind same later (expect expected.Delete left (last_path text)) (expect expected.Delete longer (last_path text)) _ _ (expect_stays expected.Delete left longer (last_path text) e) (λ path. refl)

    rename_stays : (text rest : List ℕ) → Stays later (rename_at left text rest) (rename_at longer text (rest ++ more))
    unfolding rename_at
    rename_stays text rest = bind same later (expect expected.TwoPaths left (two_paths text)) (expect expected.TwoPaths longer (two_paths text)) _ _ (expect_stays expected.TwoPaths left longer (two_paths text) e) (λ paths. refl)

    copy_stays : (text rest : List ℕ) → Stays later (copy_at left text rest) (copy_at longer text (rest ++ more))
    unfolding copy_at
    copy_stays text rest = bind same later (expect expected.TwoPaths left (two_paths text)) (expect expected.TwoPaths longer (two_paths text)) _ _ (expect_stays expected.TwoPaths left longer (two_paths text) e) (λ paths. refl)

    note_stays : (text rest : List ℕ) → Stays later (note_at false left text rest) (note_at at_end longer text (rest ++ more))
    unfolding note_at
    note_stays text rest =
        bind same later (expect expected.Note left (noted_of text)) (expect expected.Note longer (noted_of text)) _ _ (expect_stays expected.Note left longer (noted_of text) e)
        (λ parts. bind later later (content_at false expected.Note left parts.0 rest) (content_at at_end expected.Note longer parts.0 (rest ++ more)) _ _ (content_stays expected.Note parts.0 rest) (λ content. refl))

  chosen : {B : Type 0} (g : B → B) (o : Option (List ℕ)) (f k : List ℕ → Result B Stop) (other longer : Result B Stop) → ((text : List ℕ) → Stays g (f text) (k text)) → Stays g other longer
      → Stays g (choose o f other) (choose o k longer)
  chosen g None f k other longer t u = u
  chosen g (Some text) f k other longer t u = t text

  found_stays : (r s : Result (ChangeValue × List ℕ) Stop) → Stays later r s → Stays later_if (found r) (found s)
  found_stays r s t = bind later later_if r s _ _ t (λ change. refl)

  change_in_stays : (left longer : ℕ) → longer ≡ left + length more → (text rest : List ℕ) → Stays later_if (change_in false left text rest) (change_in at_end longer text (rest ++ more))
  unfolding change_in
  change_in_stays left longer e text rest =
      chosen later_if (strip (codes "M ") text) _ _ _ _ (λ args. found_stays (modify_at false left args rest) (modify_at at_end longer args (rest ++ more)) (modify_stays left longer e args rest))
      (chosen later_if (strip (codes "D ") text) _ _ _ _ (λ args. found_stays (delete_at left args rest) (delete_at longer args (rest ++ more)) (delete_stays left longer e args rest))
      (chosen later_if (strip (codes "R ") text) _ _ _ _ (λ args. found_stays (rename_at left args rest) (rename_at longer args (rest ++ more)) (rename_stays left longer e args rest))
      (chosen later_if (strip (codes "C ") text) _ _ _ _ (λ args. found_stays (copy_at left args rest) (copy_at longer args (rest ++ more)) (copy_stays left longer e args rest))
      (chosen later_if (strip (codes "N ") text) _ _ _ _ (λ args. found_stays (note_at false left args rest) (note_at at_end longer args (rest ++ more)) (note_stays left longer e args rest))
      (all_deleted (bytes_eq text (codes "deleteall")))))))
    where
      all_deleted : (is : Bool) → Stays {A = Option (ChangeValue × List ℕ)} later_if (cond is (Ok (Some (DeletesAll, rest))) (Ok None)) (cond is (Ok (Some (DeletesAll, rest ++ more))) (Ok None))
      all_deleted true = refl
      all_deleted false = refl

  change_stays : (bytes : List ℕ) → Stays later_if (change_at false bytes) (change_at at_end (bytes ++ more))
  unfolding change_at
  change_stays bytes = bind later_if later_if (line_at false bytes) (line_at at_end (bytes ++ more)) _ _ (line_stays bytes) (λ line. by_line line)
    where
      by_line : (line : Option (List ℕ × List ℕ)) → Stays later_if (change_of false (length bytes) line) (change_of at_end (length (bytes ++ more)) (later_if line))
      by_line None = refl
      by_line (Some line) = change_in_stays (length bytes) (length (bytes ++ more)) (length-append bytes more) line.0 line.1

  -- 6. Parts of commands.

  there_stays : {A : Type 0} (o : Option (List ℕ)) (f k : List ℕ → Result A Stop) → ((text : List ℕ) → Stays same (f text) (k text)) → Stays same (if_there o f) (if_there o k)
  there_stays None f k t = refl
  there_stays (Some text) f k t = bind same same (f text) (k text) _ _ (t text) (λ x. refl)

  mark_stays : (bytes : List ℕ) → Stays later (mark_at false bytes) (mark_at at_end (bytes ++ more))
  unfolding mark_at
  mark_stays bytes =
      bind later later (optional (codes "mark ") false bytes) (optional (codes "mark ") at_end (bytes ++ more)) _ _ (optional_stays (codes "mark ") bytes)
      (λ line. bind same later (if_there line.0 (λ text. expect expected.Mark (length bytes) (marked text))) (if_there line.0 (λ text. expect expected.Mark (length (bytes ++ more)) (marked text))) _ _
      (there_stays line.0 _ _ (λ text. expect_stays expected.Mark (length bytes) (length (bytes ++ more)) (marked text) (length-append bytes more))) (λ mark. refl))

  bytes_stay : (word bytes : List ℕ) → Stays later (optional_bytes word false bytes) (optional_bytes word at_end (bytes ++ more))
  unfolding optional_bytes
  bytes_stay word bytes = optional_stays word bytes

  labels_stay : (bytes : List ℕ) → Stays later (labels_at false bytes) (labels_at at_end (bytes ++ more))
  unfolding labels_at
  labels_stay bytes =
      bind later later (mark_at false bytes) (mark_at at_end (bytes ++ more)) _ _ (mark_stays bytes)
      (λ mark. bind later later (optional_bytes (codes "original-oid ") false mark.1) (optional_bytes (codes "original-oid ") at_end (mark.1 ++ more)) _ _ (bytes_stay (codes "original-oid ") mark.1) (λ original. refl))

  person_stays : (word bytes : List ℕ) → Stays later (person_line word false bytes) (person_line word at_end (bytes ++ more))
  unfolding person_line
  person_stays word bytes =
      bind later later (optional word false bytes) (optional word at_end (bytes ++ more)) _ _ (optional_stays word bytes)
      (λ line. bind same later (if_there line.0 (λ text. expect expected.Person (length bytes) (person_of text))) (if_there line.0 (λ text. expect expected.Person (length (bytes ++ more)) (person_of text))) _ _
      (there_stays line.0 _ _ (λ text. expect_stays expected.Person (length bytes) (length (bytes ++ more)) (person_of text) (length-append bytes more))) (λ person. refl))

  people_stay : (bytes : List ℕ) → Stays later (people_at false bytes) (people_at at_end (bytes ++ more))
  unfolding people_at
  people_stay bytes =
      bind later later (person_line (codes "author ") false bytes) (person_line (codes "author ") at_end (bytes ++ more)) _ _ (person_stays (codes "author ") bytes)
      (λ author. bind later later (required (codes "committer ") expected.Committer false author.1) (required (codes "committer ") expected.Committer at_end (author.1 ++ more)) _ _
      (required_stays (codes "committer ") expected.Committer author.1)
      (λ line. bind same later (expect expected.Person (length author.1) (person_of line.0)) (expect expected.Person (length (author.1 ++ more)) (person_of line.0)) _ _
      (expect_stays expected.Person (length author.1) (length (author.1 ++ more)) (person_of line.0) (length-append author.1 more)) (λ committer. refl)))

  message_stays : (bytes : List ℕ) → Stays later (message_at false bytes) (message_at at_end (bytes ++ more))
  unfolding message_at
  message_stays bytes =
      bind later later (data_at false bytes) (data_at at_end (bytes ++ more)) _ _ (data_stays bytes)
      (λ read. bind followed later (skip_lf false read.1) (skip_lf at_end (read.1 ++ more)) _ _ (lf_stays read.1) (λ rest. refl))

  text_stays : (bytes : List ℕ) → Stays later (text_at false bytes) (text_at at_end (bytes ++ more))
  unfolding text_at
  text_stays bytes =
      bind later later (optional_bytes (codes "encoding ") false bytes) (optional_bytes (codes "encoding ") at_end (bytes ++ more)) _ _ (bytes_stay (codes "encoding ") bytes)
      (λ encoding. bind later later (message_at false encoding.1) (message_at at_end (encoding.1 ++ more)) _ _ (message_stays encoding.1) (λ message. refl))

  reference_stays : (word : List ℕ) (kind : Expected) (bytes : List ℕ) → Stays later_if (reference_line word kind false bytes) (reference_line word kind at_end (bytes ++ more))
  unfolding reference_line
  reference_stays word kind bytes = bind later later_if (optional word false bytes) (optional word at_end (bytes ++ more)) _ _ (optional_stays word bytes) (λ line. by_line line)
    where
      by_line : (line : Option (List ℕ) × List ℕ) → Stays later_if (reference_in kind (length bytes) line) (reference_in kind (length (bytes ++ more)) (later line))
      by_line (None, rest) = refl
      by_line (Some text, rest) =
          bind same later_if (expect kind (length bytes) (reference_of text)) (expect kind (length (bytes ++ more)) (reference_of text)) _ _
          (expect_stays kind (length bytes) (length (bytes ++ more)) (reference_of text) (length-append bytes more)) (λ reference. refl)

  from_stays : (bytes : List ℕ) → Stays later (optional_reference false bytes) (optional_reference at_end (bytes ++ more))
  unfolding optional_reference
  from_stays bytes =
      bind later_if later (reference_line (codes "from ") expected.From false bytes) (reference_line (codes "from ") expected.From at_end (bytes ++ more)) _ _ (reference_stays (codes "from ") expected.From bytes)
      (λ read. by_read read)
    where
      by_read : (read : Option (ReferenceValue × List ℕ)) → gives (or_nothing (bytes ++ more) (later_if read)) ≡ gives (later (or_nothing bytes read))
      by_read None = refl
      by_read (Some read) = refl

  list_stays : {A : Type 0} (bytes : List ℕ) (item : Option (A × List ℕ)) (next longer : List ℕ → Result (List A × List ℕ) Stop)
      → ((x : A × List ℕ) → item ≡ Some x → Stays later (next x.1) (longer (x.1 ++ more))) → Stays later (list_of bytes item next) (list_of (bytes ++ more) (later_if item) longer)
  list_stays bytes None next longer t = refl
  list_stays bytes (Some x) next longer t = bind later later (next x.1) (longer (x.1 ++ more)) _ _ (t x refl) (λ others. refl)

  many_stay : {A : Type 0} (read longer : List ℕ → Result (Option (A × List ℕ)) Stop) → ((bytes : List ℕ) → Stays later_if (read bytes) (longer (bytes ++ more)))
      → ((bytes : List ℕ) → ShorterIf bytes (read bytes)) → (n m : ℕ) (bytes : List ℕ) → length bytes < n → length (bytes ++ more) < m → Stays later (many read n bytes) (many longer m (bytes ++ more))
  unfolding many
  many_stay read longer t u zero m bytes below above = absurd (omega (arith, below))
  many_stay read longer t u (suc n) zero bytes below above = absurd (omega (arith, above))
  many_stay {A} read longer t u (suc n) (suc m) bytes below above =
      bind_by later_if later (read bytes) (longer (bytes ++ more)) _ _ (t bytes)
      (λ item is. list_stays bytes item (λ rest. many read n rest) (λ rest. many longer m rest)
      (λ x e.
      let shorter : length x.1 < length bytes = subst (ShorterIf bytes) (is ∙ ap (λ (o : Option (A × List ℕ)). Ok o) e) (u bytes) in
      many_stay read longer t u n m x.1 (omega (arith, shorter, below)) (omega (arith, shorter, above, length-append x.1 more, length-append bytes more))))

  parents_stay : (bytes : List ℕ) → Stays later (parents_at false bytes) (parents_at at_end (bytes ++ more))
  unfolding parents_at
  parents_stay bytes =
      bind later later (optional_reference false bytes) (optional_reference at_end (bytes ++ more)) _ _ (from_stays bytes)
      (λ from. bind later later (many (λ rest. reference_line (codes "merge ") expected.Merge false rest) (length from.1 + 1) from.1)
      (many (λ rest. reference_line (codes "merge ") expected.Merge at_end rest) (length (from.1 ++ more) + 1) (from.1 ++ more)) _ _
      (many_stay _ _ (λ rest. reference_stays (codes "merge ") expected.Merge rest) (λ rest. reference_shorter (codes "merge ") expected.Merge false rest)
      (length from.1 + 1) (length (from.1 ++ more) + 1) from.1 (omega arith) (omega arith))
      (λ merges. refl))

  -- 7. Commands.

  blob_stays : (bytes : List ℕ) → Stays later (blob_at false bytes) (blob_at at_end (bytes ++ more))
  unfolding blob_at
  blob_stays bytes =
      bind later later (labels_at false bytes) (labels_at at_end (bytes ++ more)) _ _ (labels_stay bytes)
      (λ labels. bind later later (message_at false labels.1) (message_at at_end (labels.1 ++ more)) _ _ (message_stays labels.1) (λ content. refl))

  commit_stays : (ref_name bytes : List ℕ) → Stays later (commit_at false ref_name bytes) (commit_at at_end ref_name (bytes ++ more))
  unfolding commit_at
  commit_stays ref_name bytes =
      bind later later (labels_at false bytes) (labels_at at_end (bytes ++ more)) _ _ (labels_stay bytes)
      (λ labels. bind later later (people_at false labels.1) (people_at at_end (labels.1 ++ more)) _ _ (people_stay labels.1)
      (λ people. bind later later (text_at false people.1) (text_at at_end (people.1 ++ more)) _ _ (text_stays people.1)
      (λ text. bind later later (parents_at false text.1) (parents_at at_end (text.1 ++ more)) _ _ (parents_stay text.1)
      (λ parents. bind later later (many (λ rest. change_at false rest) (length parents.1 + 1) parents.1) (many (λ rest. change_at at_end rest) (length (parents.1 ++ more) + 1) (parents.1 ++ more)) _ _
      (many_stay _ _ (λ rest. change_stays rest) (λ rest. change_shorter false rest) (length parents.1 + 1) (length (parents.1 ++ more) + 1) parents.1 (omega arith) (omega arith))
      (λ changes. bind followed later (skip_lf false changes.1) (skip_lf at_end (changes.1 ++ more)) _ _ (lf_stays changes.1) (λ rest. refl))))))

  tag_stays : (name bytes : List ℕ) → Stays later (tag_at false name bytes) (tag_at at_end name (bytes ++ more))
  unfolding tag_at
  tag_stays name bytes =
      bind later later (mark_at false bytes) (mark_at at_end (bytes ++ more)) _ _ (mark_stays bytes)
      (λ mark. bind later later (required (codes "from ") expected.From false mark.1) (required (codes "from ") expected.From at_end (mark.1 ++ more)) _ _ (required_stays (codes "from ") expected.From mark.1)
      (λ line. bind same later (expect expected.From (length mark.1) (reference_of line.0)) (expect expected.From (length (mark.1 ++ more)) (reference_of line.0)) _ _
      (expect_stays expected.From (length mark.1) (length (mark.1 ++ more)) (reference_of line.0) (length-append mark.1 more))
      (λ from. bind later later (optional_bytes (codes "original-oid ") false line.1) (optional_bytes (codes "original-oid ") at_end (line.1 ++ more)) _ _ (bytes_stay (codes "original-oid ") line.1)
      (λ original. bind later later (person_line (codes "tagger ") false original.1) (person_line (codes "tagger ") at_end (original.1 ++ more)) _ _ (person_stays (codes "tagger ") original.1)
      (λ tagger. bind later later (message_at false tagger.1) (message_at at_end (tagger.1 ++ more)) _ _ (message_stays tagger.1) (λ message. refl))))))

  reset_stays : (ref_name bytes : List ℕ) → Stays later (reset_at false ref_name bytes) (reset_at at_end ref_name (bytes ++ more))
  unfolding reset_at
  reset_stays ref_name bytes =
      bind later later (optional_reference false bytes) (optional_reference at_end (bytes ++ more)) _ _ (from_stays bytes)
      (λ from. bind followed later (skip_lf false from.1) (skip_lf at_end (from.1 ++ more)) _ _ (lf_stays from.1) (λ rest. refl))

  tested : (is : Bool) (a b c d : Result (CommandValue × List ℕ) Stop) → Stays later a c → Stays later b d → Stays later (cond is a b) (cond is c d)
  tested true a b c d t u = t
  tested false a b c d t u = u

  other_stays : (left longer : ℕ) → longer ≡ left + length more → (text rest : List ℕ) → Stays later (other_in false left text rest) (other_in at_end longer text (rest ++ more))
  unfolding other_in
  other_stays left longer e text rest =
      chosen later (strip (codes "feature ") text) _ _ _ _ (λ feature. refl)
      (chosen later (strip (codes "option ") text) _ _ _ _ (λ option. refl)
      (chosen later (strip (codes "progress ") text) _ _ _ _ (λ progress. bind followed later (skip_lf false rest) (skip_lf at_end (rest ++ more)) _ _ (lf_stays rest) (λ after. refl))
      (tested (bytes_eq text (codes "checkpoint")) _ _ _ _ (bind followed later (skip_lf false rest) (skip_lf at_end (rest ++ more)) _ _ (lf_stays rest) (λ after. refl))
      (tested (bytes_eq text (codes "done")) _ _ _ _ refl (ap (λ (n : ℕ). fails {A = CommandValue × List ℕ} expected.Command n) e)))))

  command_in_stays : (left longer : ℕ) → longer ≡ left + length more → (text rest : List ℕ) → Stays later (command_in false left text rest) (command_in at_end longer text (rest ++ more))
  unfolding command_in
  command_in_stays left longer e text rest =
      tested (bytes_eq text (codes "blob")) _ _ _ _ (bind later later (blob_at false rest) (blob_at at_end (rest ++ more)) _ _ (blob_stays rest) (λ read. refl))
      (chosen later (strip (codes "commit ") text) _ _ _ _ (λ name. bind later later (commit_at false name rest) (commit_at at_end name (rest ++ more)) _ _ (commit_stays name rest) (λ read. refl))
      (chosen later (strip (codes "tag ") text) _ _ _ _ (λ name. bind later later (tag_at false name rest) (tag_at at_end name (rest ++ more)) _ _ (tag_stays name rest) (λ read. refl))
      (chosen later (strip (codes "reset ") text) _ _ _ _ (λ name. reset_stays name rest)
      (other_stays left longer e text rest))))

  pub command_stays : (bytes : List ℕ) → Stays later_if (command_at false bytes) (command_at at_end (bytes ++ more))
  unfolding command_at
  command_stays bytes = bind later_if later_if (line_at false bytes) (line_at at_end (bytes ++ more)) _ _ (line_stays bytes) (λ line. by_line line)
    where
      by_line : (line : Option (List ℕ × List ℕ)) → Stays later_if (command_of false (length bytes) line) (command_of at_end (length (bytes ++ more)) (later_if line))
      by_line None = refl
      by_line (Some line) =
          bind later later_if (command_in false (length bytes) line.0 line.1) (command_in at_end (length (bytes ++ more)) line.0 (line.1 ++ more)) _ _
          (command_in_stays (length bytes) (length (bytes ++ more)) (length-append bytes more) line.0 line.1) (λ read. refl)

-- 8. The laws.

-- a command that bytes begin with is the one that these bytes and more begin with
pub command_continued : (at_end : Bool) (bytes more rest : List ℕ) (command : CommandValue) → command_at false bytes ≡ Ok (Some (command, rest))
    → command_at at_end (bytes ++ more) ≡ Ok (Some (command, rest ++ more))
command_continued at_end bytes more rest command is = subst (λ r. Stays at_end more (later_if at_end more) r (command_at at_end (bytes ++ more))) is (command_stays at_end more bytes)

-- bytes that may go on are not the end of the stream
pub end_continued : (at_end : Bool) (bytes more : List ℕ) → command_at false bytes ≡ Ok None → command_at at_end (bytes ++ more) ≡ Ok None
end_continued at_end bytes more is = subst (λ r. Stays at_end more (later_if at_end more) r (command_at at_end (bytes ++ more))) is (command_stays at_end more bytes)

-- a malformed line of bytes is one of these bytes and more
pub malformed_continued : (at_end : Bool) (bytes more : List ℕ) (kind : Expected) (left : ℕ) → command_at false bytes ≡ Err (Malformed kind left)
    → command_at at_end (bytes ++ more) ≡ Err (Malformed kind (left + length more))
malformed_continued at_end bytes more kind left is = subst (λ r. Stays at_end more (later_if at_end more) r (command_at at_end (bytes ++ more))) is (command_stays at_end more bytes)
