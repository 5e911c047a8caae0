-- A string has at most one error of the order of its tokens: each is the one that the parser returns.
use Rattle.std.proofs.Common.{◌≡◌, ◌≢◌, ◌⊎◌, ◌∙◌, ℕ, List, [], ◌∷◌, ◌++◌, Result, Ok, Err, Option, None, Some, ap, sym, refl, subst, append_assoc, append-nil, inl, inr}
use Rattle.jj_filesets.specs.declared.fileset.error.FilesetParseError.{FilesetParseError}
use Rattle.jj_filesets.specs.declared.fileset.error.FilesetParseError.TheVariants.{Syntax}
use Rattle.jj_filesets.specs.declared.fileset.error.FilesetParseErrorKind.{FilesetParseErrorKind}
use Rattle.jj_filesets.specs.declared.fileset.error.FilesetParseErrorKind.TheVariants.{UnclosedString, InvalidEscape, ExpectedString, InvalidPatternKind, NoSuchFunction, InvalidArguments, NotUtf8, InvalidPath, InvalidGlob, ExpectedOperand, ExpectedOperator, UnopenedParenthesis, UnclosedParenthesis}
use Rattle.jj_filesets.specs.declared.fileset.parser.Pending.{Pending}
use Rattle.jj_filesets.specs.declared.fileset.parser.Pending.TheVariants.{Group}
use Rattle.jj_filesets.specs.declared.fileset.program.Step.{Step}
use Rattle.jj_filesets.specs.declared.fileset.token.Token.{Token}
use Rattle.jj_filesets.specs.declared.fileset.token.Token.TheVariants.{Open, Close, Bar, Ampersand, Tilde, Operand}
use Rattle.jj_filesets.specs.declared.fileset.token.Lexeme.{Lexeme}
use Rattle.jj_filesets.specs.SyntaxTrees.{SyntaxTree}
use Rattle.jj_filesets.specs.Grammar.{Derives, expression}
use Rattle.jj_filesets.specs.Programs.{postfix}
use Rattle.jj_filesets.specs.Parsing.{State, before, after, unwound, after_close, whole_program, after_token, after_end, parsed_after}
use Rattle.jj_filesets.specs.Expressions.{Begins, IsFirstWrong, IsKindAt, HasFirstWrong, HasUnclosed, IsTokenOrderError}
use Rattle.jj_filesets.proofs.Derived.{parses, reads}
use Rattle.jj_filesets.proofs.Parsed.{mark, Reaches, starts, begins, reached, operand_follows, no_operand_follows}

-- 1. Tokens that begin an expression bring the parser to a state.

abbrev Runs : ℕ → List Lexeme → Type 0
Runs len us = ((state : State) × Reaches len us state)
    ⊎ ((error : FilesetParseError) × ((ms : List Lexeme) → parsed_after len (Ok (before [] [])) (us ++ ms) ≡ Err error))

abbrev Found : ℕ → List Lexeme → Result State FilesetParseError → Type 0
Found len us (Ok state) = Reaches len us state
Found len us (Err error) = (ms : List Lexeme) → parsed_after len (Ok (before [] [])) (us ++ ms) ≡ Err error

found : (len : ℕ) (us : List Lexeme) (state : State) (l : Lexeme) (next : Result State FilesetParseError) → Reaches len us state → after_token state l.at l.token ≡ next
    → Found len (us ++ l ∷ []) next
found len us state l (Ok new) r h = reached len us state new l r h
found len us state l (Err error) r h = λ ms.
    ap (parsed_after len (Ok (before [] []))) (append_assoc us (l ∷ []) ms) ∙ r.runs (l ∷ ms) ∙ ap (λ next. parsed_after len next ms) h

run : (len : ℕ) (us : List Lexeme) (next : Result State FilesetParseError) (ls : List Lexeme) → Found len us next → Runs len (us ++ ls)
run len us (Ok state) [] f = inl (state, subst (λ l. Reaches len l state) (sym (append-nil us)) f)
run len us (Err error) ls f = inr (error, λ ms. ap (parsed_after len (Ok (before [] []))) (append_assoc us ls ms) ∙ f (ls ++ ms))
run len us (Ok state) (l ∷ ls) f =
    subst (Runs len) (append_assoc us (l ∷ []) ls)
    (run len (us ++ l ∷ []) (after_token state l.at l.token) ls (found len us state l (after_token state l.at l.token) f refl))

begun : (len : ℕ) (us : List Lexeme) → Begins us → (state : State) × Reaches len us state
begun len us (rest, set, d) = elim (run len [] (Ok (before [] [])) us (starts len)) [
  | inl reaches ↦ reaches
  | inr failure ↦ (let is : Ok (postfix set) ≡ Err failure.0 = sym (parses len d) ∙ failure.1 rest in cc)
]

-- 2. The first wrong token.

-- the parser goes on only with a token that an expression has there
fails : (len : ℕ) (us : List Lexeme) (state new : State) (l : Lexeme) → Reaches len us state → (Begins (us ++ l ∷ []) → ⊥) → after_token state l.at l.token ≡ Ok new → ⊥
fails len us state new l r never h = never (begins (us ++ l ∷ []) new (reached len us state new l r h).holds)

operand_at : (len : ℕ) (us : List Lexeme) (ps : List Pending) (steps : List Step) (at : ℕ) (token : Token) → Reaches len us (before ps steps) → (Begins (us ++ mark at token ∷ []) → ⊥)
    → after_token (before ps steps) at token ≡ Err (Syntax at ExpectedOperand)
operand_at len us ps steps at Close r never = refl
operand_at len us ps steps at Bar r never = refl
operand_at len us ps steps at Ampersand r never = refl
operand_at len us ps steps at (Operand leaf) r never = absurd (fails len us (before ps steps) _ (mark at (Operand leaf)) r never refl)
operand_at len us ps steps at Tilde r never = absurd (fails len us (before ps steps) _ (mark at Tilde) r never refl)
operand_at len us ps steps at Open r never = absurd (fails len us (before ps steps) _ (mark at Open) r never refl)

operator_at : (len : ℕ) (us : List Lexeme) (ps : List Pending) (steps : List Step) (at : ℕ) (token : Token) → Reaches len us (after ps steps) → (Begins (us ++ mark at token ∷ []) → ⊥)
    → token ≢ Close → after_token (after ps steps) at token ≡ Err (Syntax at ExpectedOperator)
operator_at len us ps steps at Close r never other = absurd (other refl)
operator_at len us ps steps at Bar r never other = absurd (fails len us (after ps steps) _ (mark at Bar) r never refl)
operator_at len us ps steps at Ampersand r never other = absurd (fails len us (after ps steps) _ (mark at Ampersand) r never refl)
operator_at len us ps steps at Tilde r never other = absurd (fails len us (after ps steps) _ (mark at Tilde) r never refl)
operator_at len us ps steps at (Operand leaf) r never other = refl
operator_at len us ps steps at Open r never other = refl

close_fails : (at : ℕ) (start : Option ℕ) (ps : List Pending) (steps program : List Step) → whole_program start steps ≡ Ok program → after_close at start ps steps ≡ Err (Syntax at UnopenedParenthesis)
close_fails at None ps steps program h = refl
close_fails at (Some from) ps steps program h = cc

close_at : (len : ℕ) (state : State) (at : ℕ) (program : List Step) → after_end len state ≡ Ok program → after_token state at Close ≡ Err (Syntax at UnopenedParenthesis)
close_at len (before ps steps) at program h = cc
close_at len (after ps steps) at program h = close_fails at (unwound ps steps).0 (unwound ps steps).1 (unwound ps steps).2 program h

-- the error after the tokens taken
after_taken : (len : ℕ) (us : List Lexeme) (state : State) (rest : List Lexeme) (at : ℕ) (kind : FilesetParseErrorKind) → Reaches len us state → IsFirstWrong len us rest at → IsKindAt kind us rest
    → parsed_after len (Ok state) rest ≡ Err (Syntax at kind)
after_taken len us (before ps steps) [] at ExpectedOperand r wrong kind = ap (λ n. Err (Syntax n ExpectedOperand)) (sym wrong.0)
after_taken len us (before ps steps) (l ∷ rest) at ExpectedOperand r wrong kind =
    ap (λ next. parsed_after len next rest) (operand_at len us ps steps l.at l.token r wrong.1) ∙ ap (λ n. Err (Syntax n ExpectedOperand)) (sym wrong.0)
after_taken len us (after ps steps) rest at ExpectedOperand r wrong kind = absurd (no_operand_follows len us ps steps r kind)
after_taken len us state [] at ExpectedOperator r wrong kind = absurd kind
after_taken len us (before ps steps) (l ∷ rest) at ExpectedOperator r wrong kind = absurd (kind.0 (operand_follows us ps steps r.holds))
after_taken len us (after ps steps) (l ∷ rest) at ExpectedOperator r wrong kind =
    ap (λ next. parsed_after len next rest) (operator_at len us ps steps l.at l.token r wrong.1 kind.1) ∙ ap (λ n. Err (Syntax n ExpectedOperator)) (sym wrong.0)
after_taken len us state [] at UnopenedParenthesis r wrong kind = absurd kind
after_taken len us state (l ∷ rest) at UnopenedParenthesis r wrong kind =
    let whole-program : after_end len state ≡ Ok (postfix kind.0.0) = sym (r.runs []) ∙ ap (parsed_after len (Ok (before [] []))) (append-nil us) ∙ parses len kind.0.1 in
    ap (λ token. parsed_after len (after_token state l.at token) rest) kind.1
    ∙ ap (λ next. parsed_after len next rest) (close_at len state l.at (postfix kind.0.0) whole-program)
    ∙ ap (λ n. Err (Syntax n UnopenedParenthesis)) (sym wrong.0)
after_taken len us state rest at UnclosedParenthesis r wrong kind = absurd kind
after_taken len us state rest at UnclosedString r wrong kind = absurd kind
after_taken len us state rest at InvalidEscape r wrong kind = absurd kind
after_taken len us state rest at ExpectedString r wrong kind = absurd kind
after_taken len us state rest at InvalidPatternKind r wrong kind = absurd kind
after_taken len us state rest at NoSuchFunction r wrong kind = absurd kind
after_taken len us state rest at InvalidArguments r wrong kind = absurd kind
after_taken len us state rest at NotUtf8 r wrong kind = absurd kind
after_taken len us state rest at InvalidPath r wrong kind = absurd kind
after_taken len us state rest at (InvalidGlob error) r wrong kind = absurd kind

first_wrong : (len : ℕ) (lexemes : List Lexeme) (at : ℕ) (kind : FilesetParseErrorKind) → HasFirstWrong len lexemes at kind → parsed_after len (Ok (before [] [])) lexemes ≡ Err (Syntax at kind)
first_wrong len lexemes at kind (taken, rest, split, begin, wrong, fits) =
    let (state, r) = begun len taken begin in
    ap (parsed_after len (Ok (before [] []))) split ∙ r.runs rest ∙ after_taken len taken state rest at kind r wrong fits

-- 3. The innermost parenthesis that is not closed.

within : (len : ℕ) (us : List Lexeme) (state : State) (at : ℕ) (group : List Lexeme) (set : SyntaxTree) → Reaches len us state → Derives expression group set
    → Begins (us ++ mark at Open ∷ group) → parsed_after len (Ok state) (mark at Open ∷ group) ≡ Err (Syntax at UnclosedParenthesis)
within len us (before ps steps) at group set r d begin =
    let (qs, new, runs, unwinds, bar) = reads d len (Group at ∷ ps) steps [] ((λ s. refl), (λ s. refl)) in
    ap (parsed_after len (Ok (before (Group at ∷ ps) steps))) (sym (append-nil group)) ∙ runs ∙ ap (λ u. whole_program u.0 u.2) unwinds
within len us (after ps steps) at group set r d (rest, all, e) =
    let is : Ok (postfix all) ≡ Err (Syntax at ExpectedOperator) =
    sym (parses len e) ∙ ap (parsed_after len (Ok (before [] []))) (append_assoc us (mark at Open ∷ group) rest) ∙ r.runs (mark at Open ∷ (group ++ rest)) in
    cc

unclosed : (len : ℕ) (lexemes : List Lexeme) (at : ℕ) → HasUnclosed lexemes at → parsed_after len (Ok (before [] [])) lexemes ≡ Err (Syntax at UnclosedParenthesis)
unclosed len lexemes at (begin, prior, group, split, set, d) =
    let (rest, all, e) = begin in
    let whole : Begins (prior ++ mark at Open ∷ group) = subst Begins split begin in
    let prior-begins : Begins prior = ((mark at Open ∷ group) ++ rest, all, subst (λ l. Derives expression l all) (ap (λ l. l ++ rest) split ∙ append_assoc prior (mark at Open ∷ group) rest) e) in
    let (state, r) = begun len prior prior-begins in
    ap (parsed_after len (Ok (before [] []))) split ∙ r.runs (mark at Open ∷ group) ∙ within len prior state at group set r d whole

pub order_error_determined : (len : ℕ) (lexemes : List Lexeme) (at : ℕ) (kind : FilesetParseErrorKind) → IsTokenOrderError len lexemes at kind
    → parsed_after len (Ok (before [] [])) lexemes ≡ Err (Syntax at kind)
order_error_determined len lexemes at UnclosedParenthesis h = unclosed len lexemes at h
order_error_determined len lexemes at ExpectedOperand h = first_wrong len lexemes at ExpectedOperand h
order_error_determined len lexemes at ExpectedOperator h = first_wrong len lexemes at ExpectedOperator h
order_error_determined len lexemes at UnopenedParenthesis h = first_wrong len lexemes at UnopenedParenthesis h
order_error_determined len lexemes at UnclosedString h = first_wrong len lexemes at UnclosedString h
order_error_determined len lexemes at InvalidEscape h = first_wrong len lexemes at InvalidEscape h
order_error_determined len lexemes at ExpectedString h = first_wrong len lexemes at ExpectedString h
order_error_determined len lexemes at InvalidPatternKind h = first_wrong len lexemes at InvalidPatternKind h
order_error_determined len lexemes at NoSuchFunction h = first_wrong len lexemes at NoSuchFunction h
order_error_determined len lexemes at InvalidArguments h = first_wrong len lexemes at InvalidArguments h
order_error_determined len lexemes at NotUtf8 h = first_wrong len lexemes at NotUtf8 h
order_error_determined len lexemes at InvalidPath h = first_wrong len lexemes at InvalidPath h
order_error_determined len lexemes at (InvalidGlob error) h = first_wrong len lexemes at (InvalidGlob error) h
