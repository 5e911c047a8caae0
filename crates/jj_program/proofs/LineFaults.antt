-- The fault of a command is the first kind of the first faulty line.
use Rattle.std.proofs.Common.{◌≡◌, ◌∙◌, ◌==◌, ◌||◌, ℕ, ◌+◌, ◌<◌, Bool, true, false, cond, nat_lt, List, [], ◌∷◌, ◌++◌, length, Option, Some, None, is_some, Result, Ok, Err, refl, ap, sym, subst, arith, append_assoc, append-nil}
use Rattle.std.specs.List.{count_by, list_any}
use Rattle.std.specs.Option.{option_map, option_or}
use Rattle.std.specs.Result.{result_map_both}
use Rattle.std.proofs.lemmas.Bool.{le-ltb, lt-ltb}
use Rattle.std.proofs.lemmas.List.Folds.{list_any-append}
use Rattle.std.proofs.lemmas.List.Sums.{sum_by_push}
use Rattle.jj_program.specs.declared.fault.Fault.{Fault}
use Rattle.jj_program.specs.declared.fault.Fault.TheVariants.{NotUtf8, Matchers, Line}
use Rattle.jj_program.specs.declared.fault.LineFault.{LineFault}
use Rattle.jj_program.specs.declared.fault.LineFault.TheVariants.{UnknownCommand, EmptyStack}
use Rattle.jj_program.specs.declared.file_set.Combination.{Combination}
use Rattle.jj_program.specs.declared.graph_command.GraphForm.{GraphForm}
use Rattle.jj_program.specs.declared.graph_command.GraphForm.TheVariants.{Node, Order, Heads, Common}
use Rattle.jj_program.specs.declared.walk_command.WalkForm.{WalkForm}
use Rattle.jj_program.specs.declared.walk_command.WalkForm.TheVariants.{Mark, Push, Combine}
use Rattle.jj_program.specs.declared.program.Command.{Command}
use Rattle.jj_program.specs.declared.program.Command.TheVariants.{Walk, Merge, Graph, Hash}
use Rattle.jj_globs.specs.GlobMeaning.{GlobSpec}
use Rattle.jj_paths.specs.Paths.{Path}
use Rattle.jj_program.specs.GraphCommand.{GraphRequest, Order as Order', Heads as Heads', Common as Common', GraphState, graph_line, graph_step, graph_act, graph_state}
use Rattle.jj_program.specs.HashCommand.{hash_line, digest_line, hash_step, hash_output}
use Rattle.jj_program.specs.LineFaults.{kind_of_fields, first_fault, pushes, combines, sets_left, lists_node, LeavesOneSet, IsDeterminedBy, FaultsAreOfFirstKinds}
use Rattle.jj_program.specs.Lines.{lines_of, fields_of, after_lines, result_and_then}
use Rattle.jj_program.specs.MergeCommand.{merge_step, merge_requests}
use Rattle.jj_program.specs.declared.file_set.matcher.FileSet.{FileSet}
use Rattle.jj_program.specs.WalkCommand.{SetTree, one, both, combined_stack, WalkState, walk_line, walk_step, walk_act, named_set, walk_request, only_set}
use Rattle.jj_program.proofs.FirstKinds.{first_kind, graph_refuses, kind_by, kind_by_table, walk_refuses}

-- 1. The transition at a line agrees with the definition of its fault.

abbrev HasKind : {S : Type 0} → Result S LineFault → Option LineFault → Type 0
HasKind (Ok state) kind = kind ≡ None
HasKind (Err own) kind = kind ≡ Some own

-- a step without fault preserves the invariant
abbrev After : {S : Type 0} → Result S LineFault → (S → Type 0) → Type 0
After (Ok state) P = P state
After (Err kind) P = Unit {0}

-- after all lines, with the invariant of the last state
abbrev Told : {S : Type 0} → (S → Type 0) → Result S Fault → Option Fault → Type 0
Told P (Ok state) found = (found ≡ None) × P state
Told P (Err NotUtf8) found = ⊥
Told P (Err (Matchers count)) found = ⊥
Told P (Err (Line line kind)) found = found ≡ Some (Line line kind)

-- a step has the defined fault, and preserves the invariant
abbrev StepAgrees : {S : Type 0} → Command → (S → List (List ℕ) → Result S LineFault) → (List (List ℕ) → S → Type 0) → List (List ℕ) → S → List ℕ → List (List ℕ) → Type 0
StepAgrees command step Keeps earlier state line fields = HasKind (step state fields) (kind_by_table command earlier fields) × After (step state fields) (Keeps (earlier ++ line ∷ []))

-- 2. Over lines, for any command.

module _ {S : Type 0} (command : Command) (step : S → List (List ℕ) → Result S LineFault) (Keeps : List (List ℕ) → S → Type 0)
    (skips : (earlier : List (List ℕ)) (state : S) → Keeps earlier state → Keeps (earlier ++ [] ∷ []) state)
    (steps : (earlier : List (List ℕ)) (state : S) (line : List ℕ) → Keeps earlier state → StepAgrees command step Keeps earlier state line (fields_of line)) where
  -- the first line, then the others
  at_first : (number : ℕ) (earlier lines : List (List ℕ)) (r : Result S LineFault) (kind : Option LineFault) (line : List ℕ) → HasKind r kind → After r (Keeps (earlier ++ line ∷ []))
      → ((next : S) → Keeps (earlier ++ line ∷ []) next → Told (Keeps ((earlier ++ line ∷ []) ++ lines)) (after_lines step (number + 1) next lines) (first_fault command (earlier ++ line ∷ []) (number + 1) lines))
      → Told (Keeps ((earlier ++ line ∷ []) ++ lines)) (result_and_then (result_map_both (λ next. next) (Line number) r) (λ next. after_lines step (number + 1) next lines))
      (option_or (option_map (Line number) kind) (first_fault command (earlier ++ line ∷ []) (number + 1) lines))
  at_first number earlier lines (Ok next) kind line agrees after deep =
      let P : Option LineFault → Type 0 = λ k. Told (Keeps ((earlier ++ line ∷ []) ++ lines)) (after_lines step (number + 1) next lines) (option_or (option_map (Line number) k) (first_fault command (earlier ++ line ∷ []) (number + 1) lines)) in
      subst P (sym agrees) (deep next after)
  at_first number earlier lines (Err own) kind line agrees after deep =
      ap (λ k. option_or (option_map (Line number) k) (first_fault command (earlier ++ line ∷ []) (number + 1) lines)) agrees

  told : (number : ℕ) (earlier lines : List (List ℕ)) (state : S) → Keeps earlier state → Told (Keeps (earlier ++ lines)) (after_lines step number state lines) (first_fault command earlier number lines)
  told number earlier [] state keeps = (refl, subst (λ all. Keeps all state) (sym (append-nil earlier)) keeps)
  told number earlier ([] ∷ lines) state keeps =
      let later = told (number + 1) (earlier ++ [] ∷ []) lines state (skips earlier state keeps) in
      let P : List (List ℕ) → Type 0 = λ all. Told (Keeps all) (after_lines step (number + 1) state lines) (first_fault command (earlier ++ [] ∷ []) (number + 1) lines) in
      subst P (append_assoc earlier ([] ∷ []) lines) later
  told number earlier ((b ∷ bs) ∷ lines) state keeps =
      let line : List ℕ = b ∷ bs in
      let both = steps earlier state line keeps in
      let agrees : HasKind (step state (fields_of line)) (kind_of_fields command earlier (fields_of line)) = subst (HasKind (step state (fields_of line))) (first_kind command earlier (fields_of line)) both.0 in
      let deep = at_first number earlier lines (step state (fields_of line)) (kind_of_fields command earlier (fields_of line)) line agrees both.1 (λ next kept. told (number + 1) (earlier ++ line ∷ []) lines next kept) in
      let P : List (List ℕ) → Type 0 = λ all. Told (Keeps all) (result_and_then (result_map_both (λ next. next) (Line number) (step state (fields_of line))) (λ next. after_lines step (number + 1) next lines))
      (option_or (option_map (Line number) (kind_of_fields command earlier (fields_of line))) (first_fault command (earlier ++ line ∷ []) (number + 1) lines)) in
      subst P (append_assoc earlier (line ∷ []) lines) deep

-- a step without an invariant, whose faults are those of its line
abbrev IsAny : {S : Type 0} → List (List ℕ) → S → Type 0
IsAny earlier state = Unit {0}

after_any : {S : Type 0} (r : Result S LineFault) → After r (λ state. Unit {0})
after_any (Ok state) = tt
after_any (Err kind) = tt

never_fails : {S L : Type 0} (act : L → S) (r : Result L LineFault) → HasKind (result_and_then r (λ line. Ok (act line))) (kind_by (λ line. None) r)
never_fails act (Ok line) = refl
never_fails act (Err kind) = refl

-- 3. The command `walk`: invariant, the height of the stack.

-- the height is the number of pushes less that of combinations
abbrev IsHigh : List (List ℕ) → WalkState → Type 0
IsHigh earlier state = length state.stack + count_by (λ line. combines (walk_line (fields_of line))) earlier ≡ count_by (λ line. pushes (walk_line (fields_of line))) earlier

-- the height after one more line
higher : (earlier : List (List ℕ)) (state next : WalkState) (line : List ℕ) (r : Result (WalkForm × List Path × List GlobSpec) LineFault) → walk_line (fields_of line) ≡ r → IsHigh earlier state
    → length next.stack + cond (combines r) 1 0 ≡ length state.stack + cond (pushes r) 1 0 → IsHigh (earlier ++ line ∷ []) next
higher earlier state next line r is high grows =
    let ups = sum_by_push (λ l. cond (pushes (walk_line (fields_of l))) 1 0) earlier line in
    let downs = sum_by_push (λ l. cond (combines (walk_line (fields_of l))) 1 0) earlier line in
    let up : cond {A = ℕ} (pushes (walk_line (fields_of line))) 1 0 ≡ cond {A = ℕ} (pushes r) 1 0 = ap (λ r. cond {A = ℕ} (pushes r) 1 0) is in
    let down : cond {A = ℕ} (combines (walk_line (fields_of line))) 1 0 ≡ cond {A = ℕ} (combines r) 1 0 = ap (λ r. cond {A = ℕ} (combines r) 1 0) is in
    omega (arith, ups, downs, up, down, high, grows)

walk_steps : (earlier : List (List ℕ)) (state : WalkState) (line : List ℕ) → IsHigh earlier state → StepAgrees Walk walk_step IsHigh earlier state line (fields_of line)
walk_steps earlier state line high = by (walk_line (fields_of line)) refl
  where
    Tells : Result (WalkForm × List Path × List GlobSpec) LineFault → Type 0
    Tells r = HasKind (result_and_then r (λ l. walk_act state l.0 l.1 l.2)) (kind_by (walk_refuses earlier) r) × After (result_and_then r (λ l. walk_act state l.0 l.1 l.2)) (IsHigh (earlier ++ line ∷ []))

    few_left : (n : ℕ) → n < 2 → length state.stack ≡ n → nat_lt (sets_left earlier) 2 ≡ true
    few_left n few tall = let left : sets_left earlier < 2 = omega (arith, high, tall, few) in lt-ltb (sets_left earlier) 2 left

    acted : Combination → List (SetTree FileSet) → Result WalkState LineFault
    acted combination stack = cond (nat_lt (length stack) 2) (Err EmptyStack) (Ok (record { marks = state.marks; stack = combined_stack combination stack }))

    combined : (combination : Combination) (paths : List Path) (globs : List GlobSpec) (stack : List (SetTree FileSet)) → state.stack ≡ stack → walk_line (fields_of line) ≡ Ok (Combine combination, paths, globs)
        → HasKind (acted combination stack) (walk_refuses earlier (Combine combination, paths, globs)) × After (acted combination stack) (IsHigh (earlier ++ line ∷ []))
    combined combination paths globs [] is found =
        let few : nat_lt (sets_left earlier) 2 ≡ true = few_left 0 (omega arith) (ap length is) in
        (ap (λ b. cond b (Some EmptyStack) None) few, tt)
    combined combination paths globs (alone ∷ []) is found =
        let few : nat_lt (sets_left earlier) 2 ≡ true = few_left 1 (omega arith) (ap length is) in
        (ap (λ b. cond b (Some EmptyStack) None) few, tt)
    combined combination paths globs (second ∷ first ∷ stack) is found =
        let tall = ap length is in
        let enough : nat_lt (sets_left earlier) 2 ≡ false = le-ltb (sets_left earlier) 2 (omega (arith, high, tall)) in
        let long : nat_lt (length (second ∷ first ∷ stack)) 2 ≡ false = le-ltb (length (second ∷ first ∷ stack)) 2 (omega arith) in
        rw long (ap (λ b. cond b (Some EmptyStack) None) enough, higher earlier state (record { marks = state.marks; stack = both combination first second ∷ stack }) line _ found high (omega (arith, tall)))

    by : (r : Result (WalkForm × List Path × List GlobSpec) LineFault) → walk_line (fields_of line) ≡ r → Tells r
    by (Err kind) is = (refl, tt)
    by (Ok (Mark, paths, globs)) is = (refl, higher earlier state (record { marks = state.marks ++ paths; stack = state.stack }) line _ is high refl)
    by (Ok (Push word, paths, globs)) is = (refl, higher earlier state (record { marks = state.marks; stack = one (named_set word paths globs) ∷ state.stack }) line _ is high (omega arith))
    by (Ok (Combine combination, paths, globs)) is = combined combination paths globs state.stack refl is

-- the initial state
abbrev begun : WalkState
begun = record { marks = []; stack = [] }

walk_told : (text : List ℕ) → IsDeterminedBy Walk (lines_of text) (walk_request text)
walk_told text = by (after_lines walk_step 1 begun (lines_of text)) (told Walk walk_step IsHigh (λ earlier state high. higher earlier state state [] (Err UnknownCommand) refl high refl) walk_steps 1 [] (lines_of text) begun refl)
  where
    left : (marks : List Path) (stack : List (SetTree FileSet)) → first_fault Walk [] 1 (lines_of text) ≡ None → length stack ≡ sets_left (lines_of text) → IsDeterminedBy Walk (lines_of text) (only_set marks stack)
    left marks [] none high = (none, high, λ e. absurd (omega (arith, e)))
    left marks (set ∷ []) none high = (none, sym high)
    left marks (set ∷ other ∷ stack) none high = (none, high, λ e. absurd (omega (arith, e)))

    by : (r : Result WalkState Fault) → Told (IsHigh (lines_of text)) r (first_fault Walk [] 1 (lines_of text)) → IsDeterminedBy Walk (lines_of text) (result_and_then r (λ state. only_set state.marks state.stack))
    by (Ok state) h = let high = h.1 in left state.marks state.stack h.0 (omega (arith, high))
    by (Err NotUtf8) h = absurd h
    by (Err (Matchers count)) h = absurd h
    by (Err (Line line kind)) h = h

-- 4. The command `graph`: invariant, the nodes that have adjacency lists.

or_false : (b : Bool) → b ≡ (b || false)
or_false true = refl
or_false false = refl

or_true : (b : Bool) → true ≡ (b || true)
or_true true = refl
or_true false = refl

-- a node has a list exactly if an earlier line has its id
abbrev IsListing : List (List ℕ) → GraphState → Type 0
IsListing earlier state = (id : ℕ) → is_some (state.listed id) ≡ list_any (λ line. lists_node id (graph_line (fields_of line))) earlier

-- the lists after one more line
longer : (earlier : List (List ℕ)) (state next : GraphState) (line : List ℕ) (r : Result (GraphForm × List ℕ × List ℕ) LineFault) → graph_line (fields_of line) ≡ r → IsListing earlier state
    → ((id : ℕ) → is_some (next.listed id) ≡ (is_some (state.listed id) || lists_node id r)) → IsListing (earlier ++ line ∷ []) next
longer earlier state next line r is listing more = λ id.
    more id ∙ ap (λ b. b || lists_node id r) (listing id)
    ∙ ap (λ b. list_any (λ l. lists_node id (graph_line (fields_of l))) earlier || b) (ap (lists_node id) (sym is) ∙ or_false _)
    ∙ sym (list_any-append (λ l. lists_node id (graph_line (fields_of l))) earlier (line ∷ []))

graph_steps : (earlier : List (List ℕ)) (state : GraphState) (line : List ℕ) → IsListing earlier state → StepAgrees Graph graph_step IsListing earlier state line (fields_of line)
graph_steps earlier state line listing = by (graph_line (fields_of line)) refl
  where
    Tells : Result (GraphForm × List ℕ × List ℕ) LineFault → Type 0
    Tells r = HasKind (result_and_then r (λ l. graph_act state l.0 l.1 l.2)) (kind_by (graph_refuses earlier) r) × After (result_and_then r (λ l. graph_act state l.0 l.1 l.2)) (IsListing (earlier ++ line ∷ []))

    requested : GraphRequest → GraphState
    requested request = record { listed = state.listed; requests = state.requests ++ request ∷ [] }

    node : (id : ℕ) (neighbors none : List ℕ) → graph_line (fields_of line) ≡ Ok (Node, id ∷ neighbors, none) → (b : Bool) → is_some (state.listed id) ≡ b → Tells (Ok (Node, id ∷ neighbors, none))
    node id neighbors none is true e =
        let before : list_any (λ line. lists_node id (graph_line (fields_of line))) earlier ≡ true = sym (listing id) ∙ e in
        rw (e, before) (refl, tt)
    node id neighbors none is false e =
        let before : list_any (λ line. lists_node id (graph_line (fields_of line))) earlier ≡ false = sym (listing id) ∙ e in
        rw (e, before) (refl, longer earlier state (record { listed = λ other. cond (id == other) (Some neighbors) (state.listed other); requests = state.requests }) line _ is listing (λ other. more other (id == other)))
      where
        more : (other : ℕ) (n : Bool) → is_some (cond n (Some neighbors) (state.listed other)) ≡ (is_some (state.listed other) || n)
        more other true = or_true _
        more other false = or_false _

    by : (r : Result (GraphForm × List ℕ × List ℕ) LineFault) → graph_line (fields_of line) ≡ r → Tells r
    by (Err kind) is = (refl, tt)
    by (Ok (Node, [], none)) is = (refl, longer earlier state state line _ is listing (λ id. or_false _))
    by (Ok (Node, id ∷ neighbors, none)) is = node id neighbors none is (is_some (state.listed id)) refl
    by (Ok (Order, first, second)) is = (refl, longer earlier state (requested (Order' first)) line _ is listing (λ id. or_false _))
    by (Ok (Heads, first, second)) is = (refl, longer earlier state (requested (Heads' first)) line _ is listing (λ id. or_false _))
    by (Ok (Common, first, second)) is = (refl, longer earlier state (requested (Common' first second)) line _ is listing (λ id. or_false _))

graph_skips : (earlier : List (List ℕ)) (state : GraphState) → IsListing earlier state → IsListing (earlier ++ [] ∷ []) state
graph_skips earlier state listing = longer earlier state state [] (Err UnknownCommand) refl listing (λ id. or_false _)

-- 5. Whole inputs.

-- a command without a condition on the last state
plain : {S : Type 0} (command : Command) (P : S → Type 0) (lines : List (List ℕ)) (leaves : LeavesOneSet command lines) (r : Result S Fault) → Told P r (first_fault command [] 1 lines) → IsDeterminedBy command lines r
plain command P lines leaves (Ok state) h = (h.0, leaves)
plain command P lines leaves (Err NotUtf8) h = absurd h
plain command P lines leaves (Err (Matchers count)) h = absurd h
plain command P lines leaves (Err (Line line kind)) h = h

merge_told : (text : List ℕ) → IsDeterminedBy Merge (lines_of text) (merge_requests text)
merge_told text = plain Merge (λ state. Unit {0}) (lines_of text) tt (merge_requests text)
    (told Merge merge_step IsAny (λ earlier state any. tt) (λ earlier state line any. (never_fails _ _, after_any (merge_step state (fields_of line)))) 1 [] (lines_of text) [] tt)

graph_told : (text : List ℕ) → IsDeterminedBy Graph (lines_of text) (graph_state text)
graph_told text = plain Graph (IsListing (lines_of text)) (lines_of text) tt (graph_state text)
    (told Graph graph_step IsListing graph_skips graph_steps 1 [] (lines_of text) (record { listed = λ id. None; requests = [] }) (λ id. refl))

hash_told : (text : List ℕ) → IsDeterminedBy Hash (lines_of text) (hash_output text)
hash_told text = plain Hash (λ state. Unit {0}) (lines_of text) tt (hash_output text)
    (told Hash hash_step IsAny (λ earlier state any. tt) (λ earlier state line any. (digests state (hash_line (fields_of line)), after_any (hash_step state (fields_of line)))) 1 [] (lines_of text) [] tt)
  where
    digests : (output : List ℕ) (r : Result (List ℕ) LineFault) → HasKind (result_and_then r (λ digest. Ok (output ++ digest_line digest))) (kind_by (λ line. None) r)
    digests output (Ok bytes) = refl
    digests output (Err kind) = refl

pub answers_first_fault : FaultsAreOfFirstKinds
answers_first_fault Walk text (Ok output) h = subst (IsDeterminedBy Walk (lines_of text)) h.1 (walk_told text)
answers_first_fault Walk text (Err fault) h = subst (IsDeterminedBy Walk (lines_of text)) h (walk_told text)
answers_first_fault Merge text (Ok output) h = subst (IsDeterminedBy Merge (lines_of text)) h.1 (merge_told text)
answers_first_fault Merge text (Err fault) h = subst (IsDeterminedBy Merge (lines_of text)) h (merge_told text)
answers_first_fault Graph text (Ok output) h = subst (IsDeterminedBy Graph (lines_of text)) h.1 (graph_told text)
answers_first_fault Graph text (Err fault) h = subst (IsDeterminedBy Graph (lines_of text)) h (graph_told text)
answers_first_fault Hash text answer h = subst (IsDeterminedBy Hash (lines_of text)) h (hash_told text)
