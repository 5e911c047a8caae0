-- Operands of an expression: strings with a kind of pattern, and functions.
use Rattle.std.specs.Prelude.{ℕ, ◌-◌, Bool, true, false, ◌==◌, ◌||◌, if◌then◌else◌, List, [], ◌∷◌, length, codes, Option, Some, None, Result, Ok, Err}
use Rattle.std.specs.List.{list_any}
use Rattle.std.specs.Str.{bytes_eq, is_utf8}
use Rattle.jj_paths.specs.Paths.{components, is_path_string}
use Rattle.jj_globs.specs.declared.glob.error.GlobError.{GlobError}
use Rattle.jj_globs.specs.declared.glob.token.Token.{Token}
use Rattle.jj_globs.specs.GlobParsing.{glob_spec}
use Rattle.jj_globs.specs.GlobSyntax.{tokens_of}
use Rattle.jj_filesets.specs.declared.fileset.error.FilesetParseError.{FilesetParseError}
use Rattle.jj_filesets.specs.declared.fileset.error.FilesetParseError.TheVariants.{Syntax}
use Rattle.jj_filesets.specs.declared.fileset.error.FilesetParseErrorKind.TheVariants.{InvalidPatternKind, NoSuchFunction, InvalidArguments, NotUtf8, InvalidPath, InvalidGlob}
use Rattle.jj_filesets.specs.declared.fileset.operand.PatternKind.{PatternKind}
use Rattle.jj_filesets.specs.declared.fileset.operand.PatternKind.TheVariants.{Default, Prefix, File, Glob, PrefixGlob as prefix_glob}
use Rattle.jj_filesets.specs.declared.fileset.pattern.FilePattern.{FilePattern}
use Rattle.jj_filesets.specs.declared.fileset.pattern.FilePattern.TheVariants.{All, Nothing, PrefixPath, FilePath, FileGlob, PrefixGlob}
use Rattle.jj_filesets.specs.PathStrings.{is_relative, plain_path}
use Rattle.jj_filesets.specs.Strings.{without_space, word, string_at}

-- 1. Names.

-- the kind of pattern with this name
unfoldable pub kind_named : List ℕ → Option PatternKind
kind_named name =
    if bytes_eq name (codes "prefix") || bytes_eq name (codes "root") then Some Prefix
    else (if bytes_eq name (codes "file") || bytes_eq name (codes "root-file") then Some File
    else (if bytes_eq name (codes "glob") || bytes_eq name (codes "root-glob") then Some Glob
    else (if bytes_eq name (codes "prefix-glob") || bytes_eq name (codes "root-prefix-glob")
    then Some prefix_glob else None)))

-- the pattern of a function without arguments
abbrev pub function_named : List ℕ → Option FilePattern
function_named name =
    if bytes_eq name (codes "all") then Some All
    else (if bytes_eq name (codes "none") then Some Nothing else None)

-- one of `* ? [ ] { } \`
abbrev pub is_glob_byte : ℕ → Bool
is_glob_byte b = b == 42 || b == 63 || b == 91 || b == 93 || b == 123 || b == 125 || b == 92

-- the string has a byte with a meaning in globs
abbrev pub has_glob_byte : List ℕ → Bool
has_glob_byte string = list_any is_glob_byte string

-- 2. The pattern of a string at an offset.

infixl 10 ◌>>=◌
abbrev pub ◌>>=◌ : {X Y : Type 0} → Result X FilesetParseError → (X → Result Y FilesetParseError)
    → Result Y FilesetParseError
(Ok x) >>= f = f x
(Err error) >>= f = Err error

-- a path, and with the flag the paths below it
abbrev pub path_pattern : Bool → ℕ → List ℕ → Result FilePattern FilesetParseError
path_pattern prefix at string =
    if is_path_string string
    then Ok (if prefix then PrefixPath (components string) else FilePath (components string))
    else Err (Syntax at InvalidPath)

-- the pattern of a parsed glob, or the glob's error
abbrev pub parsed_glob : Bool → ℕ → List ℕ → Result (List Token) GlobError
    → Result FilePattern FilesetParseError
parsed_glob prefix at string (Ok tokens) =
    Ok (if prefix then PrefixGlob (glob_spec string true false)
    else FileGlob (glob_spec string true false))
parsed_glob prefix at string (Err error) = Err (Syntax at (InvalidGlob error))

-- a glob, and with the flag the paths below its matches
abbrev pub glob_pattern : Bool → ℕ → List ℕ → Result FilePattern FilesetParseError
glob_pattern prefix at string = parsed_glob prefix at string (tokens_of string)

-- the pattern that a string is by its kind
unfoldable pub text_pattern : PatternKind → ℕ → List ℕ → Result FilePattern FilesetParseError
text_pattern Prefix at string = path_pattern true at string
text_pattern File at string = path_pattern false at string
text_pattern Glob at string = glob_pattern false at string
text_pattern prefix_glob at string = glob_pattern true at string
text_pattern Default at string =
    if has_glob_byte string then glob_pattern true at string else path_pattern true at string

-- a string that is relative and has neither `.` nor `..`
abbrev pub relative_pattern : PatternKind → ℕ → List ℕ → Result FilePattern FilesetParseError
relative_pattern kind at string =
    if is_relative string then text_pattern kind at string else Err (Syntax at InvalidPath)

-- the pattern of this kind, or the error of its string
unfoldable pub pattern_of : PatternKind → ℕ → List ℕ → Result FilePattern FilesetParseError
pattern_of kind at string =
    if is_utf8 string then relative_pattern kind at string else Err (Syntax at NotUtf8)

-- 3. The operand at the start of a string, and the rest of the string.

-- the pattern of a string of this kind, and the rest of the string
unfoldable pub string_pattern_at : ℕ → PatternKind → List ℕ
    → Result (FilePattern × List ℕ) FilesetParseError
string_pattern_at total kind text = string_at total text >>= λ string.
    pattern_of kind (total - length text) (plain_path string.0) >>= λ pattern.
    Ok (pattern, string.1)

-- the closing parenthesis of a function, which has no arguments
abbrev pub closed_at : ℕ → FilePattern → List ℕ → Result (FilePattern × List ℕ) FilesetParseError
closed_at total pattern [] = Err (Syntax (total - 0) InvalidArguments)
closed_at total pattern (b ∷ bs) =
    if b == 41 then Ok (pattern, bs) else Err (Syntax (total - length (b ∷ bs)) InvalidArguments)

-- the arguments of a function after the opening parenthesis
abbrev pub arguments_at : ℕ → FilePattern → List ℕ → Result (FilePattern × List ℕ) FilesetParseError
arguments_at total pattern text = closed_at total pattern (without_space text)

abbrev pub call_of : ℕ → ℕ → Option FilePattern → List ℕ
    → Result (FilePattern × List ℕ) FilesetParseError
call_of total at (Some pattern) text = arguments_at total pattern text
call_of total at None text = Err (Syntax at NoSuchFunction)

-- the call of the function of this name, and the rest of the string
unfoldable pub call_at : ℕ → ℕ → List ℕ → List ℕ → Result (FilePattern × List ℕ) FilesetParseError
call_at total at name text = call_of total at (function_named name) text

-- the pattern after its kind and `:`, and the rest of the string
abbrev pub kinded_at : ℕ → ℕ → Option PatternKind → List ℕ
    → Result (FilePattern × List ℕ) FilesetParseError
kinded_at total at (Some kind) text = string_pattern_at total kind text
kinded_at total at None text = Err (Syntax at InvalidPatternKind)

-- `name(` and `name:`, else a string without a kind
abbrev pub operand_after : ℕ → List ℕ → List ℕ → List ℕ
    → Result (FilePattern × List ℕ) FilesetParseError
operand_after total text name [] = string_pattern_at total Default text
operand_after total text name (b ∷ bs) =
    if b == 40 then call_at total (total - length text) name bs
    else (if b == 58 then kinded_at total (total - length text) (kind_named name) bs
    else string_pattern_at total Default text)

-- the operand that the string begins with, and the bytes after it
unfoldable pub operand_at : ℕ → List ℕ → Result (FilePattern × List ℕ) FilesetParseError
operand_at total text = operand_after total text (word text).0 (word text).1
