-- The application of a unified diff: the result, or the first fault.
-- Cited by contracts of public items: Gives, QuotesLine, applied.
use Rattle.std.specs.Prelude.{◌≡◌, ℕ, ◌+◌, ◌-◌, ◌*◌, ◌==◌, ◌&&◌, ◌||◌, Bool, nat_eq, nat_lt, if◌then◌else◌, List, [], ◌∷◌, ◌++◌, length, take, drop, codes, Option, Some, None, Result, Ok, Err, string_bytes}
use Rattle.std.specs.Option.{option_map}
use Rattle.std.specs.Char.{is_ascii_digit}
use Rattle.std.specs.List.{prefix_len, starts_with, concat, fold}
use Rattle.std.specs.Str.{bytes_eq}
use Rattle.std.proofs.Common.{Vec, Global}
use Rattle.jj_excerpts.specs.Excerpts.{excerpt_of}
use Rattle.jj_diff_presentation.specs.Lines.{split_lines, is_terminated}
use Rattle.jj_diff_presentation.specs.declared.unified.patch.ExpectedInPatch.{ExpectedInPatch}
use Rattle.jj_diff_presentation.specs.declared.unified.patch.ExpectedInPatch.TheVariants.{LeftName, RightName, HunkHeader, LaterHunk, HunkLine, LeftLine}
use Rattle.jj_diff_presentation.specs.declared.unified.patch.PatchFault.{PatchFault}
use Rattle.jj_diff_presentation.specs.declared.unified.patch.PatchError.{PatchError}
use Rattle.jj_diff_presentation.specs.declared.unified.patch.PatchError.TheVariants as errors
use Rattle.jj_diff_presentation.specs.declared.unified.application.ApplyError.{ApplyError}
use Rattle.jj_diff_presentation.specs.declared.unified.application.ApplyError.TheVariants.{Memory, Fault}
use Rattle.jj_diff_presentation.specs.declared.unified.patch.PatchPart.{PatchPart}
use Rattle.jj_diff_presentation.specs.declared.unified.patch.PatchPart.TheVariants.{Preamble, Names, Hunks}

-- ---- numbers and hunk headers

-- the number that the digits write, after the digits of n
abbrev pub digits_after : ℕ → List ℕ → ℕ
digits_after n [] = n
digits_after n (c ∷ cs) = digits_after (n * 10 + (c - 48)) cs

abbrev pub number_of_len : ℕ → List ℕ → Option (ℕ × List ℕ)
number_of_len len text =
    if len == 0 || nat_lt 19 len then None else Some (digits_after 0 (take len text), drop len text)

-- a number of at most 19 digits, and the bytes after it
abbrev pub number : List ℕ → Option (ℕ × List ℕ)
number text = number_of_len (prefix_len is_ascii_digit text) text

-- the number of the first line, the number of lines and the bytes after them
pub record RangeAt : Type 0 where
  pub start : ℕ
  pub len : ℕ
  pub rest : List ℕ

abbrev pub len_after : ℕ → Option (ℕ × List ℕ) → Option RangeAt
len_after start None = None
len_after start (Some p) = Some (record { start = start; len = p.0; rest = p.1 })

abbrev pub start_after : Option (ℕ × List ℕ) → Option RangeAt
start_after None = None
start_after (Some p) =
    if starts_with nat_eq p.1 (44 ∷ []) then len_after p.0 (number (drop 1 p.1))
    else Some (record { start = p.0; len = 1; rest = p.1 })

-- `START,LEN`, or `START` for one line
abbrev pub range : List ℕ → Option RangeAt
range text = start_after (number text)

-- the lines before a hunk, and its lines on both sides
pub record Header : Type 0 where
  pub before : ℕ
  pub left : ℕ
  pub right : ℕ

abbrev pub lines_before : ℕ → ℕ → ℕ
lines_before start len = if len == 0 then start else start - 1

abbrev pub right_after : ℕ → ℕ → Option RangeAt → Option Header
right_after start len None = None
right_after start len (Some right) =
    if starts_with nat_eq right.rest (codes " @@")
    then Some (record { before = lines_before start len; left = len; right = right.len })
    else None

abbrev pub left_after : Option RangeAt → Option Header
left_after None = None
left_after (Some left) =
    if starts_with nat_eq left.rest (codes " +")
    then right_after left.start left.len (range (drop 2 left.rest))
    else None

-- `@@ -RANGE +RANGE @@`
abbrev pub header : List ℕ → Option Header
header line =
    if starts_with nat_eq line (codes "@@ -") then left_after (range (drop 4 line)) else None

-- ---- lines of a patch

abbrev pub is_note : List ℕ → Bool
is_note line = starts_with nat_eq line (92 ∷ [])

-- The lines with their numbers. A line before a note has no LF.
abbrev pub patch_lines : ℕ → List (List ℕ) → List (ℕ × List ℕ)
patch_lines n [] = []
patch_lines n (x ∷ []) = (n, x) ∷ []
patch_lines n (x ∷ y ∷ ls) =
    if is_note y then (n, take (length x - 1) x) ∷ patch_lines (n + 2) ls
    else (n, x) ∷ patch_lines (n + 1) (y ∷ ls)

-- ---- application

-- the part of the patch, the lines that are left of the file and how many were passed, the output,
-- and how many lines of both sides the hunk still has
pub record Applying : Type 0 where
  pub part : PatchPart
  pub rest : List (List ℕ)
  pub position : ℕ
  pub output : List ℕ
  pub left : ℕ
  pub right : ℕ

abbrev pub start : List ℕ → Applying
start left = record {
  part = Preamble;
  rest = split_lines left;
  position = 0;
  output = [];
  left = 0;
  right = 0;
}

-- copies n lines of the file, if there are so many
abbrev pub copied : ℕ → Applying → Option Applying
copied n s =
    if nat_lt (length s.rest) n then None
    else Some (record {
      part = s.part;
      rest = drop n s.rest;
      position = s.position + n;
      output = s.output ++ concat (take n s.rest);
      left = s.left;
      right = s.right;
    })

abbrev pub in_hunk : Header → Option Applying → Result Applying ExpectedInPatch
in_hunk h None = Err LaterHunk
in_hunk h (Some s) = Ok (record s { left = h.left; right = h.right })

-- A hunk begins after the lines before it, of which the hunks before passed no more.
abbrev pub with_header : Applying → Option Header → Result Applying ExpectedInPatch
with_header s None = Err HunkHeader
with_header s (Some h) =
    if nat_lt h.before s.position then Err LaterHunk
    else in_hunk h (copied (h.before - s.position) s)

abbrev pub passed : Applying → List ℕ → List (List ℕ) → Result Applying ExpectedInPatch
passed s line [] = Err LeftLine
passed s line (l ∷ ls) =
    if bytes_eq l line
    then Ok (record s { rest = ls; position = s.position + 1; left = s.left - 1 })
    else Err LeftLine

-- the next line of the file is this one
abbrev pub with_left : Applying → List ℕ → Result Applying ExpectedInPatch
with_left s line = if s.left == 0 then Err HunkLine else passed s line s.rest

-- a line of the result
abbrev pub with_right : Applying → List ℕ → Result Applying ExpectedInPatch
with_right s line =
    if s.right == 0 then Err HunkLine
    else Ok (record s { output = s.output ++ line; right = s.right - 1 })

abbrev pub then_right : List ℕ → Result Applying ExpectedInPatch → Result Applying ExpectedInPatch
then_right line (Ok s) = with_right s line
then_right line (Err e) = Err e

abbrev pub with_hunk_line : Applying → List ℕ → Result Applying ExpectedInPatch
with_hunk_line s [] = Err HunkLine
with_hunk_line s (b ∷ line) =
    if b == 32 then then_right line (with_left s line)
    else if b == 45 then with_left s line
    else if b == 43 then with_right s line
    else Err HunkLine

abbrev pub with_line_of : PatchPart → Applying → List ℕ → Result Applying ExpectedInPatch
with_line_of Preamble s line =
    if starts_with nat_eq line (codes "--- ") then Ok (record s { part = Names }) else Ok s
with_line_of Names s line =
    if starts_with nat_eq line (codes "+++ ") then Ok (record s { part = Hunks })
    else Err RightName
with_line_of Hunks s line =
    if s.left == 0 && s.right == 0 then with_header s (header line) else with_hunk_line s line

abbrev pub with_line : Applying → List ℕ → Result Applying ExpectedInPatch
with_line s line = with_line_of s.part s line

abbrev pub fault : ℕ → ExpectedInPatch → PatchFault
fault n expected = record { line = n; expected = expected }

abbrev pub after_line : ℕ → Result Applying ExpectedInPatch → Result Applying PatchFault
after_line n (Ok s) = Ok s
after_line n (Err e) = Err (fault n e)

abbrev pub run_line : Result Applying PatchFault → ℕ × List ℕ → Result Applying PatchFault
run_line (Err f) p = Err f
run_line (Ok s) p = after_line p.0 (with_line s p.1)

-- the state after these lines, or the first fault
abbrev pub run : Applying → List (ℕ × List ℕ) → Result Applying PatchFault
run s lines = fold run_line (Ok s) lines

-- the fault, if there is one, of a patch that ends before line n
abbrev pub missing_in : PatchPart → ℕ → Applying → Option ExpectedInPatch
missing_in Preamble n s = if n == 1 then None else Some LeftName
missing_in Names n s = Some RightName
missing_in Hunks n s = if s.left == 0 && s.right == 0 then None else Some HunkLine

abbrev pub missing : ℕ → Applying → Option ExpectedInPatch
missing n s = missing_in s.part n s

abbrev pub finished_unless : Option ExpectedInPatch → ℕ → Applying → Result (List ℕ) PatchFault
finished_unless None n s = Ok (s.output ++ concat s.rest)
finished_unless (Some e) n s = Err (fault n e)

abbrev pub finished : ℕ → Result Applying PatchFault → Result (List ℕ) PatchFault
finished n (Err e) = Err e
finished n (Ok s) = finished_unless (missing n s) n s

-- Applies a patch at the line numbers that it states: the lines of the result, or the first fault.
-- Lines before `--- ` are skipped; an empty patch changes nothing.
abbrev pub applied : List ℕ → List ℕ → Result (List ℕ) PatchFault
applied left patch =
    finished (length (split_lines patch) + 1) (run (start left) (patch_lines 1 (split_lines patch)))

-- the call returned this result or fault, or ran out of memory
abbrev pub Gives : Result (Vec ℕ Global) ApplyError → Result (List ℕ) PatchFault → Type 0
Gives (Ok bytes) r = r ≡ Ok bytes.items
Gives (Err (Memory e)) r = Unit {0}
Gives (Err (Fault f found)) r = r ≡ Err f

-- the line without its LF
abbrev pub without_newline : List ℕ → List ℕ
without_newline line = if is_terminated line then take (length line - 1) line else line

-- an excerpt of the first line without its LF, if there is a line
abbrev pub first_excerpt : List (List ℕ) → Option (List ℕ)
first_excerpt [] = None
first_excerpt (line ∷ lines) = Some (excerpt_of (without_newline line))

-- an error that names line n has an excerpt of that line, if there is one
abbrev pub QuotesLine : List (List ℕ) → Result (Vec ℕ Global) ApplyError → Type 0
QuotesLine lines (Ok bytes) = Unit {0}
QuotesLine lines (Err (Memory e)) = Unit {0}
QuotesLine lines (Err (Fault f found)) =
    option_map string_bytes found ≡ first_excerpt (drop (f.line - 1) lines)

-- Machinery of private functions.

-- as Gives
abbrev pub PatchGives : Result (Vec ℕ Global) PatchError → Result (List ℕ) PatchFault → Type 0
PatchGives (Ok bytes) r = r ≡ Ok bytes.items
PatchGives (Err (errors.Memory e)) r = Unit {0}
PatchGives (Err (errors.Fault f)) r = r ≡ Err f

-- the error is this fault with an excerpt of its line, or a failed allocation
abbrev pub IsFaultIn : List (List ℕ) → PatchFault → ApplyError → Type 0
IsFaultIn lines fault (Memory e) = Unit {0}
IsFaultIn lines fault (Fault f found) = (f ≡ fault)
    × (option_map string_bytes found ≡ first_excerpt (drop (fault.line - 1) lines))

-- the state after a step, unless it has a fault
abbrev pub outcome : Applying → Option ExpectedInPatch → Result Applying ExpectedInPatch
outcome s None = Ok s
outcome s (Some e) = Err e

-- the state and the number after the last line, or the first fault
abbrev pub RunGives : Result ℕ PatchError → Result Applying PatchFault → Applying → ℕ → Type 0
RunGives (Ok n) r s m = (r ≡ Ok s) × (n ≡ m)
RunGives (Err (errors.Memory e)) r s m = Unit {0}
RunGives (Err (errors.Fault f)) r s m = r ≡ Err f
