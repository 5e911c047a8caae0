-- Faults of lines, kind by kind, defined over the fields of the input only, and the first fault of
-- an input.
-- Cited by contracts of public items: FaultsAreOfFirstKinds.
use Rattle.std.specs.Prelude.{◌≡◌, ◌≢◌, ◌==◌, ◌&&◌, ◌++◌, ◌+◌, ◌-◌, ℕ, Bool, true, false, not, nat_lt, List, [], ◌∷◌, map, Option, Some, None, is_some, Result, Ok, Err, ⊤}
use Rattle.std.specs.List.{concat, count_by, find, list_all, list_any}
use Rattle.std.specs.Option.{option_map, option_or}
use Rattle.std.specs.Str.Parse.{digits_value}
use Rattle.jj_paths.specs.Paths.{Path, is_path_string}
use Rattle.jj_globs.specs.GlobMeaning.{GlobSpec}
use Rattle.jj_program.specs.declared.fault.Fault.{Fault}
use Rattle.jj_program.specs.declared.fault.Fault.TheVariants.{Matchers, Line}
use Rattle.jj_program.specs.declared.fault.LineFault.{LineFault}
use Rattle.jj_program.specs.declared.fault.LineFault.TheVariants.{UnknownCommand, BadFieldCount, BadPath, BadGlob, EmptyStack, BadNumber, RepeatedNode, BadHex}
use Rattle.jj_program.specs.declared.forms.Shape.{Shape}
use Rattle.jj_program.specs.declared.graph_command.GraphForm.{GraphForm}
use Rattle.jj_program.specs.declared.graph_command.GraphForm.TheVariants.{Node}
use Rattle.jj_program.specs.declared.graph_command.TheConstants.{GRAPH_FORMS}
use Rattle.jj_program.specs.declared.hash_command.HashInput.{HashInput}
use Rattle.jj_program.specs.declared.hash_command.HashInput.TheVariants.{Raw}
use Rattle.jj_program.specs.declared.hash_command.TheConstants.{HASH_FORMS}
use Rattle.jj_program.specs.declared.merge_command.TheConstants.{MERGE_FORMS}
use Rattle.jj_program.specs.declared.program.Command.{Command}
use Rattle.jj_program.specs.declared.program.Command.TheVariants.{Walk, Merge, Graph, Hash}
use Rattle.jj_program.specs.declared.walk_command.TheConstants.{WALK_FORMS}
use Rattle.jj_program.specs.declared.walk_command.WalkForm.{WalkForm}
use Rattle.jj_program.specs.declared.walk_command.WalkForm.TheVariants.{Push, Combine}
use Rattle.jj_program.specs.Forms.{admits, first_fields, form_named, second_fields, table}
use Rattle.jj_program.specs.GraphCommand.{graph_line, is_number}
use Rattle.jj_program.specs.HashCommand.{bytes_of_hex}
use Rattle.jj_program.specs.Lines.{lines_of, fields_of}
use Rattle.jj_program.specs.Program.{HasResultOnText}
use Rattle.jj_program.specs.WalkCommand.{is_glob_text, walk_line}

-- a line pushes a set; a line combines the top two
abbrev pub pushes : Result (WalkForm × List Path × List GlobSpec) LineFault → Bool
pushes (Ok (Push word, paths, globs)) = true
pushes other = false

abbrev pub combines : Result (WalkForm × List Path × List GlobSpec) LineFault → Bool
combines (Ok (Combine combination, paths, globs)) = true
combines other = false

-- the height of the stack after these lines
abbrev pub sets_left : List (List ℕ) → ℕ
sets_left lines = count_by (λ line. pushes (walk_line (fields_of line))) lines
    - count_by (λ line. combines (walk_line (fields_of line))) lines

-- a line is the adjacency list of the node with this id
abbrev pub lists_node : ℕ → Result (GraphForm × List ℕ × List ℕ) LineFault → Bool
lists_node id (Ok (Node, own ∷ neighbors, none)) = own == id
lists_node id other = false

-- an action lists the node with the first id, and so does an earlier line
abbrev pub is_repeated : GraphForm → (earlier : List (List ℕ)) → List ℕ → Bool
is_repeated Node earlier (id ∷ neighbors) =
    list_any (λ line. lists_node id (graph_line (fields_of line))) earlier
is_repeated form earlier ids = false

-- a line of a known word, with these fields after it, has a fault of this kind of its command
abbrev pub walk_fails : (earlier fields : List (List ℕ)) → Shape × WalkForm → LineFault → Bool
walk_fails earlier fields form BadPath =
    not (list_all is_path_string (first_fields form.0 fields))
walk_fails earlier fields form BadGlob =
    not (list_all is_glob_text (second_fields form.0 fields))
walk_fails earlier fields (shape, Combine combination) EmptyStack = nat_lt (sets_left earlier) 2
walk_fails earlier fields form kind = false

abbrev pub graph_fails : (earlier fields : List (List ℕ)) → Shape × GraphForm → LineFault → Bool
graph_fails earlier fields form BadNumber = not
    (list_all is_number (first_fields form.0 fields)
    && list_all is_number (second_fields form.0 fields))
graph_fails earlier fields form RepeatedNode =
    is_repeated form.1 earlier (map (digits_value 10) (first_fields form.0 fields))
graph_fails earlier fields form kind = false

abbrev pub hash_fails : (fields : List (List ℕ)) → Shape × HashInput → LineFault → Bool
hash_fails fields (shape, Raw) BadHex = not (is_some (bytes_of_hex (concat fields)))
hash_fails fields form kind = false

-- a line has a fault of this kind, by the row of its word: no row, a wrong number of fields, or one
-- of its command
abbrev pub fails_by : {A : Type 0} → (Shape × A → LineFault → Bool) → (fields : List (List ℕ))
    → Option (Shape × A) → LineFault → Bool
fails_by own fields None UnknownCommand = true
fails_by own fields None kind = false
fails_by own fields (Some form) UnknownCommand = false
fails_by own fields (Some form) BadFieldCount = not (admits form.0 fields)
fails_by own fields (Some form) kind = own form kind

abbrev pub has_fault : Command → (earlier : List (List ℕ)) → (word : List ℕ)
    → (fields : List (List ℕ)) → LineFault → Bool
has_fault Walk earlier word fields =
    fails_by (walk_fails earlier fields) fields (form_named (table WALK_FORMS) word)
has_fault Merge earlier word fields =
    fails_by (λ form kind. false) fields (form_named (table MERGE_FORMS) word)
has_fault Graph earlier word fields =
    fails_by (graph_fails earlier fields) fields (form_named (table GRAPH_FORMS) word)
has_fault Hash earlier word fields =
    fails_by (hash_fails fields) fields (form_named (table HASH_FORMS) word)

-- the kinds in order of precedence
abbrev pub kinds : List LineFault
kinds = UnknownCommand ∷ BadFieldCount ∷ BadPath ∷ BadGlob ∷ EmptyStack ∷ BadNumber ∷ RepeatedNode
    ∷ BadHex ∷ []

-- the fault of a line, the first kind that it has; an empty line has none
abbrev pub kind_of_fields : Command → (earlier fields : List (List ℕ)) → Option LineFault
kind_of_fields command earlier [] = Some UnknownCommand
kind_of_fields command earlier (word ∷ fields) = find (has_fault command earlier word fields) kinds

abbrev pub kind_of_line : Command → (earlier : List (List ℕ)) → List ℕ → Option LineFault
kind_of_line command earlier [] = None
kind_of_line command earlier (b ∷ bs) = kind_of_fields command earlier (fields_of (b ∷ bs))

-- the first fault of lines after these earlier ones, numbered starting at `number`
abbrev pub first_fault : Command → (earlier : List (List ℕ)) → ℕ → List (List ℕ) → Option Fault
first_fault command earlier number [] = None
first_fault command earlier number (line ∷ lines) =
    option_or (option_map (Line number) (kind_of_line command earlier line))
    (first_fault command (earlier ++ line ∷ []) (number + 1) lines)

-- a walk must leave exactly one set
abbrev pub LeavesOneSet : Command → List (List ℕ) → Type 0
LeavesOneSet Walk lines = sets_left lines ≡ 1
LeavesOneSet command lines = ⊤

-- a result agrees with the lines of its input: an output if no line has a fault (and a walk leaves
-- one set); the number of sets left if it is not one; or the first fault of the first faulty line
abbrev pub IsDeterminedBy : {A : Type 0} → Command → List (List ℕ) → Result A Fault → Type 0
IsDeterminedBy command lines (Ok output) =
    (first_fault command [] 1 lines ≡ None) × LeavesOneSet command lines
IsDeterminedBy command lines (Err (Line number kind)) =
    first_fault command [] 1 lines ≡ Some (Line number kind)
IsDeterminedBy command lines (Err (Matchers count)) =
    (first_fault command [] 1 lines ≡ None) × (count ≡ sets_left lines) × (count ≢ 1)
IsDeterminedBy command lines (Err fault) = ⊥

-- a result is the fault of the first wrong line, if there is one
abbrev pub FaultsAreOfFirstKinds : Type 0
FaultsAreOfFirstKinds = (command : Command) (text : List ℕ) (result : Result (List ℕ) Fault)
    → HasResultOnText command text result → IsDeterminedBy command (lines_of text) result
