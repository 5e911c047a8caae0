-- Lines, comments and blocks of data. A reading function returns what it read and the bytes after
-- it, or why it stopped. `at_end`: the stream ends after the bytes.
use Rattle.std.specs.Prelude.{◌≡◌, ℕ, ◌==◌, Bool, true, false, not, ◌&&◌, nat_eq, nat_lt, if◌then◌else◌, List, [], ◌∷◌, length, take, drop, Option, Some, None, Result, Ok, Err, codes}
use Rattle.jj_fast_import.specs.declared.fault.Expected.{Expected}
use Rattle.jj_fast_import.specs.declared.fault.Expected.TheVariants.{Data}
use Rattle.jj_fast_import.specs.declared.fault.Stop.{Stop}
use Rattle.jj_fast_import.specs.declared.fault.Stop.TheVariants.{Incomplete, Malformed}
use Rattle.jj_fast_import.specs.declared.fault.ParseError.{ParseError}
use Rattle.jj_fast_import.specs.declared.fault.ParseError.TheVariants as errors
use Rattle.jj_fast_import.specs.Words.{and_then, number_of, split_once, strip, with_byte}

-- 1. Results.

infixl 10 ◌>>=◌
abbrev pub ◌>>=◌ : {A B : Type 0} → Result A Stop → (A → Result B Stop) → Result B Stop
(Ok x) >>= f = f x
(Err stop) >>= f = Err stop

-- the error is that of the specified result, or is `Memory`
abbrev pub Fails : {Y : Type 0} → ParseError → Result Y Stop → Type 0
Fails errors.Memory read = Unit {0}
Fails (errors.Stop stop) read = read ≡ Err stop

-- the result is the specified one, unless memory ran out
abbrev pub Gives : {X Y : Type 0} → (X → Y) → Result X ParseError → Result Y Stop → Type 0
Gives view (Ok x) read = read ≡ Ok (view x)
Gives view (Err error) read = Fails error read

-- the value, or the error that the line which has `left` bytes from its start on is not as expected
abbrev pub expect : {A : Type 0} → Expected → ℕ → Option A → Result A Stop
expect expected left None = Err (Malformed expected left)
expect expected left (Some x) = Ok x

-- 2. Lines.

-- the bytes after the lines that begin with `#`; `within`: they begin within such a line
abbrev pub without_comments : Bool → List ℕ → List ℕ
without_comments within [] = []
without_comments within (b ∷ bs) =
    if not within && not (b == 35) then b ∷ bs else without_comments (not (b == 10)) bs

abbrev pub whole_line : Option (List ℕ × List ℕ) → Result (Option (List ℕ × List ℕ)) Stop
whole_line None = Err Incomplete
whole_line (Some parts) = Ok (Some parts)

abbrev pub line_of : Bool → List ℕ → Result (Option (List ℕ × List ℕ)) Stop
line_of at_end [] = if at_end then Ok None else Err Incomplete
line_of at_end (b ∷ bs) = whole_line (split_once 10 (b ∷ bs))

-- the next line without its line feed, and the bytes after it; none at the end
unfoldable pub line_at : Bool → List ℕ → Result (Option (List ℕ × List ℕ)) Stop
line_at at_end bytes = line_of at_end (without_comments false bytes)

abbrev pub argument_or : List ℕ → List ℕ → Option (List ℕ) → Option (List ℕ) × List ℕ
argument_or bytes rest None = (None, bytes)
argument_or bytes rest (Some argument) = (Some argument, rest)

abbrev pub optional_in : List ℕ → List ℕ → Option (List ℕ × List ℕ) → Option (List ℕ) × List ℕ
optional_in word bytes None = (None, bytes)
optional_in word bytes (Some line) = argument_or bytes line.1 (strip word line.0)

-- the bytes after a word at the start of the next line; nothing is read if that begins otherwise
unfoldable pub optional : List ℕ → Bool → List ℕ → Result (Option (List ℕ) × List ℕ) Stop
optional word at_end bytes = do
  line ← line_at at_end bytes
  Ok (optional_in word bytes line)

abbrev pub required_in : List ℕ → Expected → ℕ → Option (List ℕ × List ℕ)
    → Result (List ℕ × List ℕ) Stop
required_in word expected left None = Err Incomplete
required_in word expected left (Some line) = do
  argument ← expect expected left (strip word line.0)
  Ok (argument, line.1)

-- the bytes after a word at the start of the next line
unfoldable pub required : List ℕ → Expected → Bool → List ℕ → Result (List ℕ × List ℕ) Stop
required word expected at_end bytes = do
  line ← line_at at_end bytes
  required_in word expected (length bytes) line

-- the bytes after a line feed, if one is next
unfoldable pub skip_lf : Bool → List ℕ → Result (List ℕ) Stop
skip_lf at_end [] = if at_end then Ok [] else Err Incomplete
skip_lf at_end (b ∷ bs) = if b == 10 then Ok bs else Ok (b ∷ bs)

-- 3. Data.

-- the bytes after a first line that is the delimiter
abbrev pub line_after : List ℕ → List ℕ → Option (List ℕ)
line_after delimiter bytes = and_then (strip delimiter bytes) (λ rest. strip (10 ∷ []) rest)

-- the bytes after the delimiter, if a line starts here and is that
abbrev pub end_of : List ℕ → Bool → List ℕ → Option (List ℕ)
end_of delimiter is_start bytes = if is_start then line_after delimiter bytes else None

abbrev pub or_else : Option (List ℕ) → Option (List ℕ × List ℕ) → Option (List ℕ × List ℕ)
or_else (Some rest) more = Some ([], rest)
or_else None more = more

-- the bytes before the first line that is the delimiter, and those after it; `is_start`: a line
-- starts here
abbrev pub until : List ℕ → Bool → List ℕ → Option (List ℕ × List ℕ)
until delimiter is_start [] = None
until delimiter is_start (b ∷ bs) =
    or_else (end_of delimiter is_start (b ∷ bs)) (with_byte b (until delimiter (b == 10) bs))

-- the parts read, or that the bytes end too early
abbrev pub complete : Option (List ℕ × List ℕ) → Result (List ℕ × List ℕ) Stop
complete None = Err Incomplete
complete (Some read) = Ok read

abbrev pub delimited : List ℕ → List ℕ → Result (List ℕ × List ℕ) Stop
delimited delimiter bytes = complete (until delimiter true bytes)

-- the first bytes, as many as announced
abbrev pub counted : ℕ → List ℕ → Result (List ℕ × List ℕ) Stop
counted count bytes =
    if nat_lt (length bytes) count then Err Incomplete else Ok (take count bytes, drop count bytes)

abbrev pub delimited_by : ℕ → List ℕ → List ℕ → Result (List ℕ × List ℕ) Stop
delimited_by left [] rest = Err (Malformed Data left)
delimited_by left (b ∷ bs) rest = delimited (b ∷ bs) rest

abbrev pub data_of : ℕ → List ℕ → List ℕ → Option (List ℕ) → Result (List ℕ × List ℕ) Stop
data_of left size rest (Some delimiter) = delimited_by left delimiter rest
data_of left size rest None = do
  count ← expect Data left (number_of size)
  counted count rest

-- `data COUNT` and so many bytes, or `data <<DELIMITER` and the bytes before a line DELIMITER
unfoldable pub data_at : Bool → List ℕ → Result (List ℕ × List ℕ) Stop
data_at at_end bytes = do
  size ← required (codes "data ") Data at_end bytes
  data_of (length bytes) size.0 size.1 (strip (codes "<<") size.0)
