-- Changes of a commit. A reading function returns what it read and the bytes after it.
use Rattle.std.specs.Prelude.{ℕ, ◌==◌, Bool, ◌||◌, if◌then◌else◌, List, [], ◌∷◌, length, Option, Some, None, Result, Ok, Err, codes}
use Rattle.std.specs.Option.{option_map}
use Rattle.std.specs.Str.{bytes_eq}
use Rattle.jj_fast_import.specs.declared.command.Mode.{Mode}
use Rattle.jj_fast_import.specs.declared.command.Mode.TheVariants.{Normal, Executable, Symlink, Gitlink, Directory}
use Rattle.jj_fast_import.specs.declared.fault.Expected.{Expected}
use Rattle.jj_fast_import.specs.declared.fault.Expected.TheVariants.{Modify, Delete, TwoPaths, Note}
use Rattle.jj_fast_import.specs.declared.fault.Stop.{Stop}
use Rattle.jj_fast_import.specs.declared.quoting.Escape.TheVariants.{Outside}
use Rattle.jj_fast_import.specs.Words.{and_then, number_of, split_once, strip}
use Rattle.jj_fast_import.specs.Quoting.{unquoted}
use Rattle.jj_fast_import.specs.Lines.{◌>>=◌, data_at, expect, line_at, skip_lf}
use Rattle.jj_fast_import.specs.Values.{ReferenceValue, ByMark, ByName, ContentValue, Stored, Inline, ChangeValue, Modifies, Deletes, Renames, Copies, DeletesAll, Notes}

-- 1. Words of a line.

abbrev pub name_unless_mark : Bool → List ℕ → List ℕ → Option ReferenceValue
name_unless_mark is_mark text digits =
    if is_mark then option_map ByMark (number_of digits) else Some (ByName text)

-- `:NUMBER`, or any other name
abbrev pub reference_of : List ℕ → Option ReferenceValue
reference_of [] = None
reference_of (b ∷ bs) = name_unless_mark (b == 58) (b ∷ bs) bs

abbrev pub mode_of : List ℕ → Option Mode
mode_of text =
    if bytes_eq text (codes "100644") || bytes_eq text (codes "644") then Some Normal
    else (if bytes_eq text (codes "100755") || bytes_eq text (codes "755") then Some Executable
    else (if bytes_eq text (codes "120000") then Some Symlink
    else (if bytes_eq text (codes "160000") then Some Gitlink
    else (if bytes_eq text (codes "040000") then Some Directory else None))))

abbrev pub ended : List ℕ × List ℕ → Option (List ℕ)
ended (path, []) = Some path
ended (path, b ∷ bs) = None

abbrev pub last_path_in : List ℕ → Option (List ℕ) → Option (List ℕ)
last_path_in text None = Some text
last_path_in text (Some rest) = and_then (unquoted Outside rest) ended

-- a path that ends the line: in quotes, or all bytes
abbrev pub last_path : List ℕ → Option (List ℕ)
last_path text = last_path_in text (strip (34 ∷ []) text)

abbrev pub path_before_space_in : List ℕ → Option (List ℕ) → Option (List ℕ × List ℕ)
path_before_space_in text None = split_once 32 text
path_before_space_in text (Some rest) =
    and_then (unquoted Outside rest) (λ read.
    and_then (strip (32 ∷ []) read.1) (λ after. Some (read.0, after)))

-- a path and the space after it: in quotes, or the bytes before the first space
abbrev pub path_before_space : List ℕ → Option (List ℕ × List ℕ)
path_before_space text = path_before_space_in text (strip (34 ∷ []) text)

abbrev pub two_paths : List ℕ → Option (List ℕ × List ℕ)
two_paths text =
    and_then (path_before_space text) (λ from.
    and_then (last_path from.1) (λ to. Some (from.0, to)))

-- `MODE CONTENT PATH`
abbrev pub modified_of : List ℕ → Option (Mode × List ℕ × List ℕ)
modified_of text =
    and_then (split_once 32 text) (λ first.
    and_then (mode_of first.0) (λ mode.
    and_then (split_once 32 first.1) (λ second.
    and_then (last_path second.1) (λ path. Some (mode, second.0, path)))))

-- 2. Lines. `left` is the number of bytes from the start of the line to the end of the input. The
-- next argument is the line after its first word, and `rest` are the bytes after the line.

abbrev pub content_by : Bool → Bool → Expected → ℕ → List ℕ → List ℕ
    → Result (ContentValue × List ℕ) Stop
content_by is_inline at_end expected left text rest =
    if is_inline then (do
      read ← data_at at_end rest
      after ← skip_lf at_end read.1
      Ok (Inline read.0, after))
    else (do
      reference ← expect expected left (reference_of text)
      Ok (Stored reference, rest))

-- the content with this name; `inline` is a block of data after the line
unfoldable pub content_at : Bool → Expected → ℕ → List ℕ → List ℕ
    → Result (ContentValue × List ℕ) Stop
content_at at_end expected left text rest =
    content_by (bytes_eq text (codes "inline")) at_end expected left text rest

-- `M MODE CONTENT PATH`
unfoldable pub modify_at : Bool → ℕ → List ℕ → List ℕ → Result (ChangeValue × List ℕ) Stop
modify_at at_end left text rest = do
  parts ← expect Modify left (modified_of text)
  content ← content_at at_end Modify left parts.1 rest
  Ok (Modifies parts.0 content.0 parts.2, content.1)

-- `D PATH`
unfoldable pub delete_at : ℕ → List ℕ → List ℕ → Result (ChangeValue × List ℕ) Stop
delete_at left text rest = do
  path ← expect Delete left (last_path text)
  Ok (Deletes path, rest)

-- `R FROM TO`
unfoldable pub rename_at : ℕ → List ℕ → List ℕ → Result (ChangeValue × List ℕ) Stop
rename_at left text rest = do
  paths ← expect TwoPaths left (two_paths text)
  Ok (Renames paths.0 paths.1, rest)

-- `C FROM TO`
unfoldable pub copy_at : ℕ → List ℕ → List ℕ → Result (ChangeValue × List ℕ) Stop
copy_at left text rest = do
  paths ← expect TwoPaths left (two_paths text)
  Ok (Copies paths.0 paths.1, rest)

abbrev pub noted_of : List ℕ → Option (List ℕ × ReferenceValue)
noted_of text =
    and_then (split_once 32 text) (λ parts.
    and_then (reference_of parts.1) (λ commit. Some (parts.0, commit)))

-- `N CONTENT COMMIT`
unfoldable pub note_at : Bool → ℕ → List ℕ → List ℕ → Result (ChangeValue × List ℕ) Stop
note_at at_end left text rest = do
  parts ← expect Note left (noted_of text)
  content ← content_at at_end Note left parts.0 rest
  Ok (Notes content.0 parts.1, content.1)

abbrev pub found : Result (ChangeValue × List ℕ) Stop → Result (Option (ChangeValue × List ℕ)) Stop
found read = read >>= λ change. Ok (Some change)

abbrev pub choose : {A : Type 0} → Option (List ℕ) → (List ℕ → A) → A → A
choose None f other = other
choose (Some text) f other = f text

-- the change in a line, and the bytes after it; none if the line is no change
unfoldable pub change_in : Bool → ℕ → List ℕ → List ℕ
    → Result (Option (ChangeValue × List ℕ)) Stop
change_in at_end left text rest =
    choose (strip (codes "M ") text) (λ args. found (modify_at at_end left args rest))
    (choose (strip (codes "D ") text) (λ args. found (delete_at left args rest))
    (choose (strip (codes "R ") text) (λ args. found (rename_at left args rest))
    (choose (strip (codes "C ") text) (λ args. found (copy_at left args rest))
    (choose (strip (codes "N ") text) (λ args. found (note_at at_end left args rest))
    (if bytes_eq text (codes "deleteall") then Ok (Some (DeletesAll, rest)) else Ok None)))))

abbrev pub change_of : Bool → ℕ → Option (List ℕ × List ℕ)
    → Result (Option (ChangeValue × List ℕ)) Stop
change_of at_end left None = Ok None
change_of at_end left (Some line) = change_in at_end left line.0 line.1

-- the next change, and the bytes after it; none if the next line is no change
unfoldable pub change_at : Bool → List ℕ → Result (Option (ChangeValue × List ℕ)) Stop
change_at at_end bytes = do
  line ← line_at at_end bytes
  change_of at_end (length bytes) line
