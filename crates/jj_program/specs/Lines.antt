-- Input as numbered lines of TAB-separated fields, folded by the transition of a command, and
-- output as lines.
-- Cited by contracts of public items through FoundFiles, GraphCommand, HashCommand, Laws,
-- LineFaults, MergeCommand, WalkCommand.
use Rattle.std.specs.Prelude.{ℕ, ◌≡◌, ◌==◌, ◌+◌, List, [], ◌∷◌, ◌++◌, flat_map, Result, Ok, Err, map, MatchResult}
use Rattle.std.specs.List.{slice_split}
use Rattle.std.specs.Result.{result_map_both}
use Rattle.jj_program.specs.declared.fault.LineFault.{LineFault}
use Rattle.jj_program.specs.declared.fault.Fault.{Fault}
use Rattle.jj_program.specs.declared.fault.Fault.TheVariants.{Line}
use Rattle.std.specs.Borrow.{Bor}
use Rattle.jj_filter.specs.Runs.{IsInputFailure}
use Rattle.jj_filter.specs.declared.failure.Failure.{Failure}

-- 1. Input.

-- the lines of an input, separated by LF; the part after the last LF is a line too, maybe an empty
-- one
abbrev pub lines_of : List ℕ → List (List ℕ)
lines_of input = slice_split (λ b. b == 10) input

-- the fields of a line, separated by TAB
abbrev pub fields_of : List ℕ → List (List ℕ)
fields_of line = slice_split (λ b. b == 9) line

-- the state after a line, or its fault with its number: an empty line is skipped
abbrev pub after_line : {S : Type 0} → (S → List (List ℕ) → Result S LineFault) → ℕ → S → List ℕ
    → Result S Fault
after_line step number state [] = Ok state
after_line step number state (b ∷ bs) =
    result_map_both (λ next. next) (Line number) (step state (fields_of (b ∷ bs)))

-- std's `and_then`
abbrev pub result_and_then : {A B E : Type 0} → Result A E → (A → Result B E) → Result B E
result_and_then (Ok x) f = f x
result_and_then (Err e) f = Err e

-- the state after lines numbered starting at `number`, or the first fault
abbrev pub after_lines : {S : Type 0} → (S → List (List ℕ) → Result S LineFault) → ℕ → S
    → List (List ℕ) → Result S Fault
after_lines step number state [] = Ok state
after_lines step number state (line ∷ lines) =
    result_and_then (after_line step number state line)
    (λ next. after_lines step (number + 1) next lines)

-- 2. Output.

-- an output line
abbrev pub line_text : List ℕ → List (List ℕ) → List ℕ
line_text name fields = name ++ flat_map (λ field. 9 ∷ field) fields ++ 10 ∷ []

-- the output is one result per request, in order
abbrev pub AreLinesOf : {Q : Type 0} → (Q → List ℕ → Type 0) → List Q → List ℕ → Type 0
AreLinesOf IsLine [] output = output ≡ []
AreLinesOf IsLine (request ∷ requests) output = (line rest : List ℕ) × IsLine request line
    × AreLinesOf IsLine requests rest × (output ≡ line ++ rest)

-- 3. Results and values of private functions.

-- a borrowed string, as a field of a line
abbrev pub Text : Type 0
Text = Bor (List ℕ)

-- the strings' bytes
abbrev pub texts_of : List Text → List (List ℕ)
texts_of texts = map (λ text. text.now) texts

-- the failure is the expected fault, or out of memory
abbrev pub IsFaultOf : {A F : Type 0} → Failure F → Result A F → Type 0
IsFaultOf failure expected = IsInputFailure (λ fault. expected ≡ Err fault) failure

-- the value reached represents the expected state, or the failure is the expected fault or out of
-- memory
abbrev pub LeadsTo : {V F S : Type 0} → Result V (Failure F) → (S → Type 0) → Result S F → Type 0
LeadsTo {S = S} result IsReached expected = MatchResult result
    (λ _. (state : S) × (expected ≡ Ok state) × IsReached state)
    (λ failure. IsFaultOf failure expected)

-- the result, mapped to its model by `view`, is the expected one, or out of memory
abbrev pub Agrees : {V A : Type 0} → Result V (Failure LineFault) → (V → A) → Result A LineFault
    → Type 0
Agrees result view expected = MatchResult result (λ value. expected ≡ Ok (view value))
    (λ failure. IsFaultOf failure expected)
