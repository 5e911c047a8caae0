-- Parsing by the table of a command finds the first kind of fault of a line, by cases on its row.
use Rattle.std.proofs.Common.{◌≡◌, ◌∙◌, ℕ, Bool, true, false, cond, nat_lt, List, [], ◌∷◌, map, Option, Some, None, is_some, Result, Ok, Err, refl, ap}
use Rattle.std.specs.Prelude.{◌&&◌, not, ok_or, option_map}
use Rattle.std.specs.List.{concat, find, list_all, list_any}
use Rattle.std.specs.Str.Parse.{digits_value}
use Rattle.jj_content.specs.Blake2b.{blake2b}
use Rattle.jj_globs.specs.GlobMeaning.{GlobSpec}
use Rattle.jj_paths.specs.Paths.{Path}
use Rattle.jj_program.specs.declared.fault.LineFault.{LineFault}
use Rattle.jj_program.specs.declared.fault.LineFault.TheVariants.{BadFieldCount, BadPath, BadGlob, EmptyStack, BadNumber, RepeatedNode, BadHex}
use Rattle.jj_program.specs.declared.forms.Shape.{Shape}
use Rattle.jj_program.specs.declared.graph_command.GraphForm.{GraphForm}
use Rattle.jj_program.specs.declared.graph_command.GraphForm.TheVariants.{Node, Order, Heads, Common}
use Rattle.jj_program.specs.declared.graph_command.TheConstants.{GRAPH_FORMS}
use Rattle.jj_program.specs.declared.hash_command.HashInput.{HashInput}
use Rattle.jj_program.specs.declared.hash_command.HashInput.TheVariants.{Raw, Text, List as List', Merge as Merge'}
use Rattle.jj_program.specs.declared.hash_command.TheConstants.{HASH_FORMS}
use Rattle.jj_program.specs.declared.merge_command.MergeForm.{MergeForm}
use Rattle.jj_program.specs.declared.merge_command.TheConstants.{MERGE_FORMS}
use Rattle.jj_program.specs.declared.program.Command.{Command}
use Rattle.jj_program.specs.declared.program.Command.TheVariants.{Walk, Merge, Graph, Hash}
use Rattle.jj_program.specs.declared.walk_command.TheConstants.{WALK_FORMS}
use Rattle.jj_program.specs.declared.walk_command.WalkForm.{WalkForm}
use Rattle.jj_program.specs.declared.walk_command.WalkForm.TheVariants.{Mark, Push, Combine}
use Rattle.jj_program.specs.Forms.{Kind, admits, first_fields, form_line, form_named, second_fields, table, values_at}
use Rattle.jj_program.specs.GraphCommand.{graph_line, number_kind, is_number}
use Rattle.jj_program.specs.HashCommand.{bytes_of_hex, hash_line, hashed}
use Rattle.jj_program.specs.LineFaults.{fails_by, graph_fails, hash_fails, is_repeated, kind_of_fields, kinds, lists_node, sets_left, walk_fails}
use Rattle.jj_program.specs.Lines.{fields_of, result_and_then}
use Rattle.jj_program.specs.WalkCommand.{glob_kind, path_kind, walk_line}
use Rattle.jj_program.proofs.ParsedForms.{admitted, both}

-- 1. The fault of a line by the table of its command.

-- the fault of a line that parses: fewer than two sets to combine, or a node that an earlier line
-- lists
abbrev pub walk_refuses : (earlier : List (List ℕ)) → WalkForm × List Path × List GlobSpec → Option LineFault
walk_refuses earlier (Combine combination, paths, globs) = cond (nat_lt (sets_left earlier) 2) (Some EmptyStack) None
walk_refuses earlier other = None

abbrev pub graph_refuses : (earlier : List (List ℕ)) → GraphForm × List ℕ × List ℕ → Option LineFault
graph_refuses earlier (Node, id ∷ neighbors, none) = cond (list_any (λ line. lists_node id (graph_line (fields_of line))) earlier) (Some RepeatedNode) None
graph_refuses earlier other = None

-- the fault of parsing, else the one that `refuses` finds
abbrev pub kind_by : {L : Type 0} → (L → Option LineFault) → Result L LineFault → Option LineFault
kind_by refuses (Ok line) = refuses line
kind_by refuses (Err kind) = Some kind

abbrev pub kind_by_table : Command → (earlier fields : List (List ℕ)) → Option LineFault
kind_by_table Walk earlier fields = kind_by (walk_refuses earlier) (walk_line fields)
kind_by_table Merge earlier fields = kind_by (λ line. None) (form_line (table MERGE_FORMS) fields)
kind_by_table Graph earlier fields = kind_by (graph_refuses earlier) (graph_line fields)
kind_by_table Hash earlier fields = kind_by (λ line. None) (hash_line fields)

-- 2. A line of a known word: the number of fields, both lists of fields, then what `refuses` finds.

module _ {A V W : Type 0} (first : Kind V) (second : Kind W) (refuses : A × List V × List W → Option LineFault) (shape : Shape) (action : A) (fields : List (List ℕ)) where
  by_values : (p g : Bool) → kind_by refuses (both action (cond {A = Result (List V) LineFault} p (Ok (map first.value_of (first_fields shape fields))) (Err first.otherwise)) (cond {A = Result (List W) LineFault} g (Ok (map second.value_of (second_fields shape fields))) (Err second.otherwise)))
      ≡ cond {A = Option LineFault} (not p) (Some first.otherwise) (cond {A = Option LineFault} (not g) (Some second.otherwise) (refuses (action, map first.value_of (first_fields shape fields), map second.value_of (second_fields shape fields))))
  by_values true true = refl
  by_values true false = refl
  by_values false g = refl

  by_count : (c : Bool) → kind_by refuses (result_and_then (cond {A = Result (A × Shape × List (List ℕ)) LineFault} c (Ok (action, shape, fields)) (Err BadFieldCount)) (λ line. both line.0 (values_at first (first_fields line.1 line.2)) (values_at second (second_fields line.1 line.2))))
      ≡ cond {A = Option LineFault} (not c) (Some BadFieldCount)
      (cond {A = Option LineFault} (not (list_all first.is_one (first_fields shape fields))) (Some first.otherwise)
      (cond {A = Option LineFault} (not (list_all second.is_one (second_fields shape fields))) (Some second.otherwise) (refuses (action, map first.value_of (first_fields shape fields), map second.value_of (second_fields shape fields)))))
  by_count true = by_values (list_all first.is_one (first_fields shape fields)) (list_all second.is_one (second_fields shape fields))
  by_count false = refl

-- 3. Each command.

walk_first : (earlier fields : List (List ℕ)) (form : Option (Shape × WalkForm))
    → kind_by (walk_refuses earlier) (result_and_then (admitted form fields) (λ line. both line.0 (values_at path_kind (first_fields line.1 line.2)) (values_at glob_kind (second_fields line.1 line.2))))
    ≡ find (fails_by (walk_fails earlier fields) fields form) kinds
walk_first earlier fields None = refl
walk_first earlier fields (Some (shape, Mark)) = by_count path_kind glob_kind (walk_refuses earlier) shape Mark fields (admits shape fields)
walk_first earlier fields (Some (shape, Push word)) = by_count path_kind glob_kind (walk_refuses earlier) shape (Push word) fields (admits shape fields)
walk_first earlier fields (Some (shape, Combine combination)) = by_count path_kind glob_kind (walk_refuses earlier) shape (Combine combination) fields (admits shape fields)

merge_first : (fields : List (List ℕ)) (form : Option (Shape × MergeForm)) → kind_by {L = MergeForm × Shape × List (List ℕ)} (λ line. None) (admitted form fields) ≡ find (fails_by (λ form kind. false) fields form) kinds
merge_first fields None = refl
merge_first fields (Some (shape, form)) = by (admits shape fields)
  where
    by : (c : Bool) → kind_by {L = MergeForm × Shape × List (List ℕ)} (λ line. None) (cond {A = Result (MergeForm × Shape × List (List ℕ)) LineFault} c (Ok (form, shape, fields)) (Err BadFieldCount)) ≡ cond {A = Option LineFault} (not c) (Some BadFieldCount) None
    by true = refl
    by false = refl

graph_first : (earlier fields : List (List ℕ)) (form : Option (Shape × GraphForm))
    → kind_by (graph_refuses earlier) (result_and_then (admitted form fields) (λ line. both line.0 (values_at number_kind (first_fields line.1 line.2)) (values_at number_kind (second_fields line.1 line.2))))
    ≡ find (fails_by (graph_fails earlier fields) fields form) kinds
graph_first earlier fields None = refl
graph_first earlier fields (Some (shape, action)) =
    by_count number_kind number_kind (graph_refuses earlier) shape action fields (admits shape fields)
    ∙ ap (cond {A = Option LineFault} (not (admits shape fields)) (Some BadFieldCount)) (by (list_all is_number (first_fields shape fields)) (list_all is_number (second_fields shape fields)))
  where
    repeated : (action : GraphForm) (ids none : List ℕ) → graph_refuses earlier (action, ids, none) ≡ cond {A = Option LineFault} (is_repeated action earlier ids) (Some RepeatedNode) None
    repeated Node [] none = refl
    repeated Node (id ∷ ids) none = refl
    repeated Order ids none = refl
    repeated Heads ids none = refl
    repeated Common ids none = refl

    by : (p g : Bool) → cond {A = Option LineFault} (not p) (Some BadNumber) (cond {A = Option LineFault} (not g) (Some BadNumber) (graph_refuses earlier (action, map (digits_value 10) (first_fields shape fields), map (digits_value 10) (second_fields shape fields))))
        ≡ cond {A = Option LineFault} (not (p && g)) (Some BadNumber) (cond {A = Option LineFault} (is_repeated action earlier (map (digits_value 10) (first_fields shape fields))) (Some RepeatedNode) None)
    by true true = repeated action (map (digits_value 10) (first_fields shape fields)) (map (digits_value 10) (second_fields shape fields))
    by true false = refl
    by false g = refl

hash_first : (fields : List (List ℕ)) (form : Option (Shape × HashInput)) → kind_by {L = List ℕ} (λ bytes. None) (result_and_then (admitted form fields) (λ line. hashed line.0 line.2)) ≡ find (fails_by (hash_fails fields) fields form) kinds
hash_first fields None = refl
hash_first fields (Some (shape, input)) = by input (admits shape fields)
  where
    parsed : HashInput → Bool → Option LineFault
    parsed input c = kind_by {L = List ℕ} (λ bytes. None) (result_and_then (cond {A = Result (HashInput × Shape × List (List ℕ)) LineFault} c (Ok (input, shape, fields)) (Err BadFieldCount)) (λ line. hashed line.0 line.2))

    hex : (found : Option (List ℕ)) → kind_by {L = List ℕ} (λ bytes. None) (ok_or (option_map blake2b found) BadHex) ≡ cond {A = Option LineFault} (not (is_some found)) (Some BadHex) None
    hex (Some bytes) = refl
    hex None = refl

    raw : (c : Bool) → parsed Raw c ≡ cond {A = Option LineFault} (not c) (Some BadFieldCount) (cond {A = Option LineFault} (not (is_some (bytes_of_hex (concat fields)))) (Some BadHex) None)
    raw true = hex (bytes_of_hex (concat fields))
    raw false = refl

    plain : (input : HashInput) (digest : List ℕ) → hashed input fields ≡ Ok digest → (c : Bool) → parsed input c ≡ cond {A = Option LineFault} (not c) (Some BadFieldCount) None
    plain input digest is true = ap (kind_by {L = List ℕ} (λ bytes. None)) is
    plain input digest is false = refl

    by : (input : HashInput) (c : Bool) → parsed input c ≡ cond {A = Option LineFault} (not c) (Some BadFieldCount) (find (hash_fails fields (shape, input)) (BadPath ∷ BadGlob ∷ EmptyStack ∷ BadNumber ∷ RepeatedNode ∷ BadHex ∷ []))
    by Raw c = raw c
    by Text c = plain Text _ refl c
    by List' c = plain List' _ refl c
    by Merge' c = plain Merge' _ refl c

pub first_kind : (command : Command) (earlier fields : List (List ℕ)) → kind_by_table command earlier fields ≡ kind_of_fields command earlier fields
first_kind Walk earlier [] = refl
first_kind Merge earlier [] = refl
first_kind Graph earlier [] = refl
first_kind Hash earlier [] = refl
first_kind Walk earlier (word ∷ fields) = walk_first earlier fields (form_named (table WALK_FORMS) word)
first_kind Merge earlier (word ∷ fields) = merge_first fields (form_named (table MERGE_FORMS) word)
first_kind Graph earlier (word ∷ fields) = graph_first earlier fields (form_named (table GRAPH_FORMS) word)
first_kind Hash earlier (word ∷ fields) = hash_first fields (form_named (table HASH_FORMS) word)
