-- Messages of faults: the line and the field, which they quote, the expected form, and the remedy.
-- Cited by contracts of public items through Program, Reports.
use Rattle.std.specs.Prelude.{ℕ, ◌==◌, ◌%◌, ◌+◌, ◌-◌, ◌&&◌, not, nat_le, Bool, true, false, List, [], ◌∷◌, ◌++◌, if◌then◌else◌, codes, drop, get_or, is_some, length, slice_index, Option, Some}
use Rattle.std.specs.Fmt.{decimal}
use Rattle.std.specs.List.{list_any}
use Rattle.std.specs.Option.{option_map}
use Rattle.std.specs.Str.{is_utf8}
use Rattle.std.specs.Str.Lossy.{utf8_valid_len}
use Rattle.jj_excerpts.specs.Excerpts.{excerpt_of}
use Rattle.jj_paths.specs.Paths.{is_path_string}
use Rattle.jj_program.specs.declared.fault.Fault.{Fault}
use Rattle.jj_program.specs.declared.fault.Fault.TheVariants.{NotUtf8, Matchers, Line}
use Rattle.jj_program.specs.declared.fault.LineFault.{LineFault}
use Rattle.jj_program.specs.declared.fault.LineFault.TheVariants.{UnknownCommand, BadFieldCount, BadPath, BadGlob, EmptyStack, BadNumber, RepeatedNode, BadHex}
use Rattle.jj_program.specs.declared.forms.Shape.{Shape}
use Rattle.jj_program.specs.declared.forms.Shape.TheVariants.{Empty, One, NonEmpty, Any, Odd, Pairs, Dashed}
use Rattle.jj_program.specs.declared.graph_command.TheConstants.{GRAPH_FORMS}
use Rattle.jj_program.specs.declared.hash_command.TheConstants.{HASH_FORMS}
use Rattle.jj_program.specs.declared.merge_command.TheConstants.{MERGE_FORMS}
use Rattle.jj_program.specs.declared.program.Command.{Command}
use Rattle.jj_program.specs.declared.program.Command.TheVariants.{Walk, Merge, Graph, Hash}
use Rattle.jj_program.specs.declared.walk_command.TheConstants.{WALK_FORMS}
use Rattle.jj_program.specs.Forms.{form_named, is_dash, table}
use Rattle.jj_program.specs.GraphCommand.{is_number}
use Rattle.jj_program.specs.Lines.{fields_of, lines_of}
use Rattle.jj_program.specs.WalkCommand.{is_glob_text}

-- 1. The field of a fault.

-- the shape of the fields after a word, if a line of the command begins with it
abbrev pub shape_named : Command → List ℕ → Option Shape
shape_named Walk word = option_map (λ form. form.0) (form_named (table WALK_FORMS) word)
shape_named Merge word = option_map (λ form. form.0) (form_named (table MERGE_FORMS) word)
shape_named Graph word = option_map (λ form. form.0) (form_named (table GRAPH_FORMS) word)
shape_named Hash word = option_map (λ form. form.0) (form_named (table HASH_FORMS) word)

-- whether the field at this index is a glob: in pairs one at an even index, in lists with a dash
-- between them none
abbrev pub is_glob_place : Option Shape → ℕ → Bool
is_glob_place (Some Pairs) index = index % 2 == 0
is_glob_place shape index = false

abbrev pub is_separator : Option Shape → List ℕ → Bool
is_separator (Some Dashed) field = is_dash field
is_separator shape field = false

-- the field at this index of a line of this shape has a fault of this kind
abbrev pub is_wrong : Option Shape → LineFault → ℕ → List ℕ → Bool
is_wrong shape BadPath index field = not (is_glob_place shape index) && not (is_path_string field)
is_wrong shape BadGlob index field = (index % 2 == 0) && not (is_glob_text field)
is_wrong shape BadNumber index field = not (is_separator shape field) && not (is_number field)
is_wrong shape kind index field = true

-- the index of the first such field, of fields from this index on
abbrev pub first_wrong : (ℕ → List ℕ → Bool) → ℕ → List (List ℕ) → ℕ
first_wrong wrong index [] = 0
first_wrong wrong index (field ∷ fields) =
    if wrong index field then index else first_wrong wrong (index + 1) fields

-- the index of the field that a message quotes: the word, or the first field after it that is wrong
abbrev pub place_of : Command → LineFault → List (List ℕ) → ℕ
place_of command UnknownCommand fields = 0
place_of command BadFieldCount fields = 0
place_of command EmptyStack fields = 0
place_of command kind fields =
    first_wrong (is_wrong (shape_named command (get_or fields 0 [])) kind) 1 (drop 1 fields)

-- 2. Expected forms.

abbrev pub unknown_text : Command → List ℕ
unknown_text Walk = codes "not a word of walk"
unknown_text Merge = codes "not a word of merge"
unknown_text Graph = codes "not a word of graph"
unknown_text Hash = codes "not a word of hash"

abbrev pub words_text : Command → List ℕ
words_text Walk =
    codes "; expected mark, everything, nothing, files, prefix, globs, prefix-globs, "
    ++ codes "union, difference or intersection"
words_text Merge = codes "; expected simplify, keep or accept"
words_text Graph = codes "; expected node, order, heads or common"
words_text Hash = codes "; expected raw, text, list or merge"

abbrev pub count_text : Option Shape → List ℕ
count_text (Some Empty) = codes "expected no field after it"
count_text (Some One) = codes "expected one field after it"
count_text (Some NonEmpty) = codes "expected an ID after it"
count_text (Some Odd) = codes "expected an odd number of fields after it"
count_text (Some Pairs) = codes "expected pairs of a directory and a glob after it"
count_text (Some Dashed) = codes "expected IDs, one field \"-\" and IDs after it"
count_text shape = codes "expected fields after it"

abbrev pub expected_text : Command → LineFault → Option Shape → List ℕ
expected_text command UnknownCommand shape = unknown_text command
expected_text command BadFieldCount shape = count_text shape
expected_text command BadPath shape = codes "expected a path relative to the root, as a/b"
expected_text command BadGlob shape = codes "expected a glob, as *.rs"
expected_text command EmptyStack shape = codes "expected two sets before it"
expected_text command BadNumber shape =
    codes "expected a number below 2^64 without leading zeros"
expected_text command RepeatedNode shape = codes "expected one line for a node"
expected_text command BadHex shape = codes "expected pairs of hex digits"

-- 3. Remedies.

-- the line begins with a byte order mark
abbrev pub starts_with_mark : List ℕ → Bool
starts_with_mark line = nat_le 3 (length line) && ((slice_index line 0 == 239)
    && ((slice_index line 1 == 187) && (slice_index line 2 == 191)))

abbrev pub ends_in_return : List ℕ → Bool
ends_in_return line = not (length line == 0) && (slice_index line (length line - 1) == 13)

abbrev pub has_blank : List ℕ → Bool
has_blank string = list_any (λ b. b == 32) string

-- a blank may be meant as a TAB: words have none, but paths and globs may
abbrev pub needs_tabs : LineFault → (word line : List ℕ) → Bool
needs_tabs UnknownCommand word line = has_blank word
needs_tabs BadFieldCount word line = has_blank line
needs_tabs BadNumber word line = has_blank line
needs_tabs BadHex word line = has_blank line
needs_tabs kind word line = false

-- for an unknown word, the command that knows it, or else the words of this one
abbrev pub hint_text : Command → LineFault → List ℕ → List ℕ
hint_text command UnknownCommand word =
    if is_some (shape_named Walk word) then codes ", but of walk"
    else if is_some (shape_named Merge word) then codes ", but of merge"
    else if is_some (shape_named Graph word) then codes ", but of graph"
    else if is_some (shape_named Hash word) then codes ", but of hash"
    else words_text command
hint_text command kind word = []

abbrev pub remedy_text : Command → LineFault → (word line : List ℕ) → List ℕ
remedy_text command kind word line =
    if starts_with_mark line then codes "; a byte order mark is before it"
    else if ends_in_return line then codes "; lines end in LF, not in CRLF"
    else if needs_tabs kind word line then codes "; fields are separated by TABs, not by blanks"
    else hint_text command kind word

-- 4. Messages.

abbrev pub place_text : (number place : ℕ) → List ℕ
place_text number place =
    codes "line " ++ decimal number ++ codes ", field " ++ decimal (place + 1) ++ codes ", "

-- the message of a fault of the line with this number and these fields
abbrev pub fields_message : Command → ℕ → LineFault → (line : List ℕ) → List (List ℕ) → List ℕ
fields_message command number kind line fields =
    place_text number (place_of command kind fields)
    ++ excerpt_of (get_or fields (place_of command kind fields) []) ++ codes ": "
    ++ expected_text command kind (shape_named command (get_or fields 0 []))
    ++ remedy_text command kind (get_or fields 0 []) line

abbrev pub line_message : Command → ℕ → LineFault → List ℕ → List ℕ
line_message command number kind line = fields_message command number kind line (fields_of line)

abbrev pub sets_message : ℕ → List ℕ
sets_message count = if count == 0
    then codes "no set at the end of the input; lines as everything and files add one"
    else decimal count ++ codes " sets at the end of the input; lines as union combine two"

abbrev pub utf8_message : ℕ → List ℕ
utf8_message place = codes "input is not UTF-8 at byte " ++ decimal place

abbrev pub text_message : Command → List ℕ → Fault → List ℕ
text_message command text NotUtf8 = utf8_message 0
text_message command text (Matchers count) = sets_message count
text_message command text (Line number kind) =
    line_message command number kind (get_or (lines_of text) (number - 1) [])

-- the message of a fault of this input
abbrev pub message_of : Command → List ℕ → Fault → List ℕ
message_of command input fault = if is_utf8 input then text_message command input fault
    else utf8_message (utf8_valid_len input)
