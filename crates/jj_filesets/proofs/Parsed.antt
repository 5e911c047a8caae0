-- The grammar derives what the parser reads.
use Rattle.std.proofs.Common.{◌≡◌, ◌≢◌, ◌∙◌, ℕ, List, [], ◌∷◌, ◌++◌, Result, Ok, Err, ap, sym, refl, subst, append_assoc, append-nil}
use Rattle.jj_filesets.specs.declared.fileset.error.FilesetParseError.{FilesetParseError}
use Rattle.jj_filesets.specs.declared.fileset.error.FilesetParseError.TheVariants.{Syntax}
use Rattle.jj_filesets.specs.declared.fileset.error.FilesetParseErrorKind.{FilesetParseErrorKind}
use Rattle.jj_filesets.specs.declared.fileset.error.FilesetParseErrorKind.TheVariants.{ExpectedOperand, ExpectedOperator, UnopenedParenthesis, UnclosedParenthesis}
use Rattle.jj_filesets.specs.declared.fileset.pattern.FilePattern.TheVariants.{Nothing}
use Rattle.jj_filesets.specs.Expressions.{Begins, OperandMayFollow, IsTokenOrderError}
use Rattle.jj_filesets.proofs.Derived.{parses}
use Rattle.jj_filesets.specs.declared.fileset.parser.Pending.{Pending}
use Rattle.jj_filesets.specs.declared.fileset.parser.Pending.TheVariants.{Group, Operator as operator}
use Rattle.jj_filesets.specs.declared.fileset.program.Operator.TheVariants.{Complement, Intersection, Difference, Union}
use Rattle.jj_filesets.specs.declared.fileset.program.Step.{Step}
use Rattle.jj_filesets.specs.declared.fileset.program.Step.TheVariants.{Apply, Push}
use Rattle.jj_filesets.specs.declared.fileset.token.Token.{Token}
use Rattle.jj_filesets.specs.declared.fileset.token.Token.TheVariants.{Open, Close, Bar, Ampersand, Tilde, Operand}
use Rattle.jj_filesets.specs.declared.fileset.token.Lexeme.{Lexeme}
use Rattle.jj_filesets.specs.SyntaxTrees.{SyntaxTree, intersection, difference, union}
use Rattle.jj_filesets.specs.Grammar.{Level, expression, term, factor, Derives, operand, negated, grouped, one_factor, both, without, one_term, either}
use Rattle.jj_filesets.specs.Programs.{postfix}
use Rattle.jj_filesets.specs.Parsing.{State, before, after, after_operand, after_bar, unwound, after_close, whole_program, after_token, after_end, parsed_after}
use Rattle.jj_filesets.proofs.Derived.{IsClosed, one_step, two_steps}

-- 1. The tokens before an expression, a term or a factor, with the operators and groups that are pending and the program so far.

abbrev pub mark : ℕ → Token → Lexeme
mark at token = record { at = at; token = token }

pub data At : Level → List Lexeme → List Pending → List Step → Type 0 where
  start : At expression [] [] []
  in_group : {at : ℕ} {us : List Lexeme} {ps : List Pending} {steps : List Step} → At factor us ps steps
      → At expression (us ++ mark at Open ∷ []) (Group at ∷ ps) steps
  first_term : {us : List Lexeme} {ps : List Pending} {steps : List Step} → At expression us ps steps → At term us ps steps
  next_term : (at : ℕ) {us ws : List Lexeme} {ps : List Pending} {steps : List Step} {set : SyntaxTree} → At expression us ps steps → Derives expression ws set
      → At term (us ++ (ws ++ mark at Bar ∷ [])) (operator Union ∷ ps) (steps ++ postfix set)
  first_factor : {us : List Lexeme} {ps : List Pending} {steps : List Step} → At term us ps steps → At factor us ps steps
  after_and : (at : ℕ) {us ws : List Lexeme} {ps : List Pending} {steps : List Step} {set : SyntaxTree} → At term us ps steps → Derives term ws set
      → At factor (us ++ (ws ++ mark at Ampersand ∷ [])) (operator Intersection ∷ ps) (steps ++ postfix set)
  after_minus : (at : ℕ) {us ws : List Lexeme} {ps : List Pending} {steps : List Step} {set : SyntaxTree} → At term us ps steps → Derives term ws set
      → At factor (us ++ (ws ++ mark at Tilde ∷ [])) (operator Difference ∷ ps) (steps ++ postfix set)
  after_not : (at : ℕ) {us : List Lexeme} {ps : List Pending} {steps : List Step} → At factor us ps steps
      → At factor (us ++ mark at Tilde ∷ []) (operator Complement ∷ ps) steps

-- the tokens so far, and the last term among them
pub record After (us : List Lexeme) (ps : List Pending) (steps : List Step) : Type 0 where
  vs : List Lexeme
  ws : List Lexeme
  earlier : List Step
  set : SyntaxTree
  context : At term vs ps earlier
  derives : Derives term ws set
  tokens : us ≡ vs ++ ws
  program : steps ≡ earlier ++ postfix set

abbrev pub Holds : List Lexeme → State → Type 0
Holds us (before ps steps) = At factor us ps steps
Holds us (after ps steps) = After us ps steps

-- 2. A complete factor.

closed : {us : List Lexeme} {ps : List Pending} {steps : List Step} → At term us ps steps → IsClosed ps
closed (first_term start) s = refl
closed (first_term (in_group a)) s = refl
closed (next_term at a d) s = refl

module _ (us vs ws : List Lexeme) (x : Lexeme) where
  regrouped : (us ++ (vs ++ x ∷ [])) ++ ws ≡ us ++ (vs ++ x ∷ ws)
  regrouped = simp append_assoc

completed : {us ws : List Lexeme} {ps : List Pending} {steps : List Step} {set : SyntaxTree} → At factor us ps steps → Derives factor ws set
    → Holds (us ++ ws) (after_operand ps (steps ++ postfix set))
completed {us = us} {ws = ws} {ps = ps} {steps = steps} {set = set} (first_factor a) d =
    subst (Holds (us ++ ws)) (sym (closed a (steps ++ postfix set)))
    (record { vs = us; ws = ws; earlier = steps; set = set; context = a; derives = one_factor d; tokens = refl; program = refl })
completed {ws = ws} {set = set} (after_and at {us = us} {ws = vs} {ps = ps} {steps = steps} {set = first} a d) e =
    subst (Holds ((us ++ (vs ++ mark at Ampersand ∷ [])) ++ ws)) (sym (closed a (((steps ++ postfix first) ++ postfix set) ++ Apply Intersection ∷ [])))
    (record {
      vs = us;
      ws = vs ++ mark at Ampersand ∷ ws;
      earlier = steps;
      set = intersection first set;
      context = a;
      derives = both at d e;
      tokens = regrouped us vs ws (mark at Ampersand);
      program = two_steps steps (postfix first) (postfix set) (Apply Intersection);
    })
completed {ws = ws} {set = set} (after_minus at {us = us} {ws = vs} {ps = ps} {steps = steps} {set = first} a d) e =
    subst (Holds ((us ++ (vs ++ mark at Tilde ∷ [])) ++ ws)) (sym (closed a (((steps ++ postfix first) ++ postfix set) ++ Apply Difference ∷ [])))
    (record {
      vs = us;
      ws = vs ++ mark at Tilde ∷ ws;
      earlier = steps;
      set = difference first set;
      context = a;
      derives = without at d e;
      tokens = regrouped us vs ws (mark at Tilde);
      program = two_steps steps (postfix first) (postfix set) (Apply Difference);
    })
completed {ws = ws} {set = set} (after_not at {us = us} {ps = ps} {steps = steps} a) e =
    subst (λ l. Holds l (after_operand ps ((steps ++ postfix set) ++ Apply Complement ∷ []))) (sym (append_assoc us (mark at Tilde ∷ []) ws))
    (subst (λ s. Holds (us ++ mark at Tilde ∷ ws) (after_operand ps s)) (sym (one_step steps (postfix set) (Apply Complement)))
    (completed a (negated e)))

-- 3. A complete expression: the state after the union before its last term is applied.

record Whole (us : List Lexeme) (ps : List Pending) (steps : List Step) : Type 0 where
  vs : List Lexeme
  ws : List Lexeme
  qs : List Pending
  earlier : List Step
  set : SyntaxTree
  context : At expression vs qs earlier
  derives : Derives expression ws set
  tokens : us ≡ vs ++ ws
  bar : after_bar ps steps ≡ before (operator Union ∷ qs) (earlier ++ postfix set)
  unwinds : unwound ps steps ≡ unwound qs (earlier ++ postfix set)

fresh-bar : {us : List Lexeme} {ps : List Pending} {steps : List Step} → At expression us ps steps → (new : List Step) → after_bar ps new ≡ before (operator Union ∷ ps) new
fresh-bar start new = refl
fresh-bar (in_group a) new = refl

whole-term : {us ws : List Lexeme} {ps : List Pending} {steps : List Step} {set : SyntaxTree} → At term us ps steps → Derives term ws set
    → Whole (us ++ ws) ps (steps ++ postfix set)
whole-term {us = us} {ws = ws} {ps = ps} {steps = steps} {set = set} (first_term a) d = record {
  vs = us;
  ws = ws;
  qs = ps;
  earlier = steps;
  set = set;
  context = a;
  derives = one_term d;
  tokens = refl;
  bar = fresh-bar a (steps ++ postfix set);
  unwinds = refl;
}
whole-term {ws = ws} {set = set} (next_term at {us = us} {ws = vs} {ps = ps} {steps = steps} {set = first} a d) e =
    let same = two_steps steps (postfix first) (postfix set) (Apply Union) in
    record {
      vs = us;
      ws = vs ++ mark at Bar ∷ ws;
      qs = ps;
      earlier = steps;
      set = union first set;
      context = a;
      derives = either at d e;
      tokens = regrouped us vs ws (mark at Bar);
      bar = ap (before (operator Union ∷ ps)) same;
      unwinds = ap (unwound ps) same;
    }

whole : (us : List Lexeme) (ps : List Pending) (steps : List Step) → After us ps steps → Whole us ps steps
whole us ps steps a =
    subst (λ l. Whole l ps steps) (sym a.tokens) (subst (Whole (a.vs ++ a.ws) ps) (sym a.program) (whole-term a.context a.derives))

-- 4. A token.

barred : (us : List Lexeme) (ps : List Pending) (steps : List Step) (at : ℕ) → Whole us ps steps → Holds (us ++ mark at Bar ∷ []) (after_bar ps steps)
barred us ps steps at w =
    subst (Holds (us ++ mark at Bar ∷ [])) (sym w.bar)
    (subst (λ l. At factor l (operator Union ∷ w.qs) (w.earlier ++ postfix w.set))
    (sym (append_assoc w.vs w.ws (mark at Bar ∷ [])) ∙ ap (λ l. l ++ mark at Bar ∷ []) (sym w.tokens))
    (first_factor (next_term at w.context w.derives)))

closing : {vs ws : List Lexeme} {qs : List Pending} {earlier : List Step} {set : SyntaxTree} (at : ℕ) → At expression vs qs earlier → Derives expression ws set
    → (new : State) → after_close at (unwound qs (earlier ++ postfix set)).0 (unwound qs (earlier ++ postfix set)).1 (unwound qs (earlier ++ postfix set)).2 ≡ Ok new
    → Holds (vs ++ (ws ++ mark at Close ∷ [])) new
closing at start d new h = cc
closing {ws = ws} {set = set} at (in_group {at = from} {us = us} {ps = ps} {steps = steps} a) d new h =
    let is : after_operand ps (steps ++ postfix set) ≡ new = cc in
    subst (Holds ((us ++ mark from Open ∷ []) ++ (ws ++ mark at Close ∷ []))) is
    (subst (λ l. Holds l (after_operand ps (steps ++ postfix set))) (sym (append_assoc us (mark from Open ∷ []) (ws ++ mark at Close ∷ [])))
    (completed a (grouped at d)))

closed_at : (us : List Lexeme) (ps : List Pending) (steps : List Step) (at : ℕ) → Whole us ps steps → (new : State)
    → after_close at (unwound ps steps).0 (unwound ps steps).1 (unwound ps steps).2 ≡ Ok new → Holds (us ++ mark at Close ∷ []) new
closed_at us ps steps at w new h =
    subst (λ l. Holds l new) (sym (append_assoc w.vs w.ws (mark at Close ∷ [])) ∙ ap (λ l. l ++ mark at Close ∷ []) (sym w.tokens))
    (closing at w.context w.derives new (ap (λ u. after_close at u.0 u.1 u.2) (sym w.unwinds) ∙ h))

and_factor : (us : List Lexeme) (ps : List Pending) (steps : List Step) (at : ℕ) → After us ps steps → At factor (us ++ mark at Ampersand ∷ []) (operator Intersection ∷ ps) steps
and_factor us ps steps at a =
    subst (λ l. At factor l (operator Intersection ∷ ps) steps) (sym (append_assoc a.vs a.ws (mark at Ampersand ∷ [])) ∙ ap (λ l. l ++ mark at Ampersand ∷ []) (sym a.tokens))
    (subst (At factor (a.vs ++ (a.ws ++ mark at Ampersand ∷ [])) (operator Intersection ∷ ps)) (sym a.program) (after_and at a.context a.derives))

minus_factor : (us : List Lexeme) (ps : List Pending) (steps : List Step) (at : ℕ) → After us ps steps → At factor (us ++ mark at Tilde ∷ []) (operator Difference ∷ ps) steps
minus_factor us ps steps at a =
    subst (λ l. At factor l (operator Difference ∷ ps) steps) (sym (append_assoc a.vs a.ws (mark at Tilde ∷ [])) ∙ ap (λ l. l ++ mark at Tilde ∷ []) (sym a.tokens))
    (subst (At factor (a.vs ++ (a.ws ++ mark at Tilde ∷ [])) (operator Difference ∷ ps)) (sym a.program) (after_minus at a.context a.derives))

stepped : (us : List Lexeme) (old : State) (at : ℕ) (token : Token) → Holds us old → (new : State) → after_token old at token ≡ Ok new → Holds (us ++ mark at token ∷ []) new
stepped us (before ps steps) at (Operand leaf) a new h = let is : after_operand ps (steps ++ Push leaf ∷ []) ≡ new = cc in subst (Holds (us ++ mark at (Operand leaf) ∷ [])) is (completed a operand)
stepped us (before ps steps) at Tilde a new h = let is : before (operator Complement ∷ ps) steps ≡ new = cc in subst (Holds (us ++ mark at Tilde ∷ [])) is (after_not at a)
stepped us (before ps steps) at Open a new h = let is : before (Group at ∷ ps) steps ≡ new = cc in subst (Holds (us ++ mark at Open ∷ [])) is (first_factor (first_term (in_group a)))
stepped us (before ps steps) at Close a new h = cc
stepped us (before ps steps) at Bar a new h = cc
stepped us (before ps steps) at Ampersand a new h = cc
stepped us (after ps steps) at Ampersand a new h = let is : before (operator Intersection ∷ ps) steps ≡ new = cc in subst (Holds (us ++ mark at Ampersand ∷ [])) is (and_factor us ps steps at a)
stepped us (after ps steps) at Tilde a new h = let is : before (operator Difference ∷ ps) steps ≡ new = cc in subst (Holds (us ++ mark at Tilde ∷ [])) is (minus_factor us ps steps at a)
stepped us (after ps steps) at Bar a new h = let is : after_bar ps steps ≡ new = cc in subst (Holds (us ++ mark at Bar ∷ [])) is (barred us ps steps at (whole us ps steps a))
stepped us (after ps steps) at Close a new h = closed_at us ps steps at (whole us ps steps a) new h
stepped us (after ps steps) at Open a new h = cc
stepped us (after ps steps) at (Operand leaf) a new h = cc

-- 5. The end, and a whole expression.

abbrev IsDerived : List Lexeme → List Step → Type 0
IsDerived us steps = (set : SyntaxTree) × Derives expression us set × (steps ≡ postfix set)

ending : {vs ws : List Lexeme} {qs : List Pending} {earlier : List Step} {set : SyntaxTree} → At expression vs qs earlier → Derives expression ws set
    → (steps : List Step) → whole_program (unwound qs (earlier ++ postfix set)).0 (unwound qs (earlier ++ postfix set)).2 ≡ Ok steps → IsDerived (vs ++ ws) steps
ending {set = set} start d steps h = (set, d, cc)
ending (in_group a) d steps h = cc

ended : (us : List Lexeme) (state : State) (len : ℕ) → Holds us state → (steps : List Step) → after_end len state ≡ Ok steps → IsDerived us steps
ended us (before ps new) len a steps h = cc
ended us (after ps new) len a steps h =
    let w = whole us ps new a in
    subst (λ l. IsDerived l steps) (sym w.tokens) (ending w.context w.derives steps (ap (λ u. whole_program u.0 u.2) (sym w.unwinds) ∙ h))

derived : (len : ℕ) (us : List Lexeme) (found : Result State FilesetParseError) (ls : List Lexeme) (steps : List Step) → ((state : State) → found ≡ Ok state → Holds us state)
    → parsed_after len found ls ≡ Ok steps → IsDerived (us ++ ls) steps
derived len us (Err error) ls steps holds h = cc
derived len us (Ok state) [] steps holds h = subst (λ l. IsDerived l steps) (sym (append-nil us)) (ended us state len (holds state refl) steps h)
derived len us (Ok state) (l ∷ ls) steps holds h =
    subst (λ ws. IsDerived ws steps) (append_assoc us (l ∷ []) ls)
    (derived len (us ++ l ∷ []) (after_token state l.at l.token) ls steps (λ new e. stepped us state l.at l.token (holds state refl) new e) h)

pub parsed : (len : ℕ) (ls : List Lexeme) (steps : List Step) → parsed_after len (Ok (before [] [])) ls ≡ Ok steps
    → (set : SyntaxTree) × Derives expression ls set × (steps ≡ postfix set)
parsed len ls steps h = derived len [] (Ok (before [] [])) ls steps (λ state e. let is : before [] [] ≡ state = cc in subst (Holds []) is (first_factor (first_term start))) h

-- 6. Tokens so far begin an expression.

continues : {level : Level} {us ws : List Lexeme} {ps : List Pending} {steps : List Step} {set : SyntaxTree} → At level us ps steps → Derives level ws set → Begins (us ++ ws)
continues {ws = ws} {set = set} start d = ([], set, subst (λ l. Derives expression l set) (sym (append-nil ws)) d)
continues {ws = ws} {set = set} (in_group {at = at} {us = us} a) d =
    let (rest, whole-set, e) = continues a (grouped {at = at} 0 d) in
    (mark 0 Close ∷ rest, whole-set, subst (λ l. Derives expression l whole-set) (simp append_assoc) e)
continues (first_term a) d = continues a (one_term d)
continues {ws = ws} (next_term at {us = us} {ws = vs} a d) e =
    let (rest, whole-set, f) = continues a (either at d e) in
    (rest, whole-set, subst (λ l. Derives expression l whole-set) (simp append_assoc) f)
continues (first_factor a) d = continues a (one_factor d)
continues {ws = ws} (after_and at {us = us} {ws = vs} a d) e =
    let (rest, whole-set, f) = continues a (both at d e) in
    (rest, whole-set, subst (λ l. Derives expression l whole-set) (simp append_assoc) f)
continues {ws = ws} (after_minus at {us = us} {ws = vs} a d) e =
    let (rest, whole-set, f) = continues a (without at d e) in
    (rest, whole-set, subst (λ l. Derives expression l whole-set) (simp append_assoc) f)
continues {ws = ws} (after_not at {us = us} a) e =
    let (rest, whole-set, f) = continues a (negated {at = at} e) in
    (rest, whole-set, subst (λ l. Derives expression l whole-set) (simp append_assoc) f)

pub begins : (us : List Lexeme) (state : State) → Holds us state → Begins us
begins us (before ps steps) a =
    let (rest, set, d) = continues a (operand {at = 0} {leaf = Nothing}) in
    (mark 0 (Operand Nothing) ∷ rest, set, subst (λ l. Derives expression l set) (append_assoc us (mark 0 (Operand Nothing) ∷ []) rest) d)
begins us (after ps steps) a = subst Begins (sym a.tokens) (continues a.context a.derives)

-- 7. Errors.

-- the parser comes to the state by the tokens
pub record Reaches (len : ℕ) (us : List Lexeme) (state : State) : Type 0 where
  pub holds : Holds us state
  pub runs : (ls : List Lexeme) → parsed_after len (Ok (before [] [])) (us ++ ls) ≡ parsed_after len (Ok state) ls

pub starts : (len : ℕ) → Reaches len [] (before [] [])
starts len = record { holds = first_factor (first_term start); runs = λ ms. refl }

-- tokens that end in an error derive nothing
pub underived : (len : ℕ) (us : List Lexeme) (error : FilesetParseError) → parsed_after len (Ok (before [] [])) us ≡ Err error → (set : SyntaxTree) → Derives expression us set → ⊥
underived len us error h set d =
    let e = parses len d in
    cc

-- a token at which the parser fails does not go on
stuck : (len : ℕ) (us : List Lexeme) (state : State) (l : Lexeme) (error : FilesetParseError) → Reaches len us state → after_token state l.at l.token ≡ Err error
    → Begins (us ++ l ∷ []) → ⊥
stuck len us state l error r h (rest, set, d) =
    underived len ((us ++ l ∷ []) ++ rest) error
    (ap (parsed_after len (Ok (before [] []))) (append_assoc us (l ∷ []) rest) ∙ r.runs (l ∷ rest) ∙ ap (λ found. parsed_after len found rest) h) set d

-- the error of a token after others
record IsAt (len : ℕ) (us : List Lexeme) (l : Lexeme) (error : FilesetParseError) : Type 0 where
  kind : FilesetParseErrorKind
  is : error ≡ Syntax l.at kind
  order : (ls : List Lexeme) → Begins us → (Begins (us ++ l ∷ []) → ⊥) → IsTokenOrderError len (us ++ l ∷ ls) l.at kind

-- an operand may follow where the parser expects one, and not after another
pub operand_follows : (us : List Lexeme) (ps : List Pending) (steps : List Step) → At factor us ps steps → OperandMayFollow us
operand_follows us ps steps a = (0, Nothing, continues a (operand {at = 0} {leaf = Nothing}))

pub no_operand_follows : (len : ℕ) (us : List Lexeme) (ps : List Pending) (steps : List Step) → Reaches len us (after ps steps) → OperandMayFollow us → ⊥
no_operand_follows len us ps steps r (at, leaf, begun) = stuck len us (after ps steps) (mark at (Operand leaf)) (Syntax at ExpectedOperator) r refl begun

no_operand : (len : ℕ) (us : List Lexeme) (ps : List Pending) (steps : List Step) (at : ℕ) (token : Token) (error : FilesetParseError) → At factor us ps steps
    → Syntax at ExpectedOperand ≡ error → IsAt len us (mark at token) error
no_operand len us ps steps at token error a is =
    record { kind = ExpectedOperand; is = sym is; order = λ ls begun wrong. (us, mark at token ∷ ls, refl, begun, (refl, wrong), operand_follows us ps steps a) }

no_operator : (len : ℕ) (us : List Lexeme) (ps : List Pending) (steps : List Step) (at : ℕ) (token : Token) (error : FilesetParseError) → Reaches len us (after ps steps)
    → token ≢ Close → Syntax at ExpectedOperator ≡ error → IsAt len us (mark at token) error
no_operator len us ps steps at token error r other is =
    record { kind = ExpectedOperator; is = sym is; order = λ ls begun wrong. (us, mark at token ∷ ls, refl, begun, (refl, wrong), (no_operand_follows len us ps steps r, other)) }

-- a parenthesis is unopened after a whole expression
unopened : {vs ws : List Lexeme} {qs : List Pending} {earlier : List Step} {set : SyntaxTree} (at : ℕ) (error : FilesetParseError) → At expression vs qs earlier
    → Derives expression ws set → after_close at (unwound qs (earlier ++ postfix set)).0 (unwound qs (earlier ++ postfix set)).1 (unwound qs (earlier ++ postfix set)).2 ≡ Err error
    → (Syntax at UnopenedParenthesis ≡ error) × (whole-set : SyntaxTree) × Derives expression (vs ++ ws) whole-set
unopened {set = set} at error start d h = (cc, set, d)
unopened at error (in_group a) d h = cc

at_close : (len : ℕ) (us : List Lexeme) (ps : List Pending) (steps : List Step) (at : ℕ) (error : FilesetParseError) → Whole us ps steps
    → after_close at (unwound ps steps).0 (unwound ps steps).1 (unwound ps steps).2 ≡ Err error → IsAt len us (mark at Close) error
at_close len us ps steps at error w h =
    let (is, set, d) = unopened at error w.context w.derives (ap (λ u. after_close at u.0 u.1 u.2) (sym w.unwinds) ∙ h) in
    record {
      kind = UnopenedParenthesis;
      is = sym is;
      order = λ ls begun wrong. (us, mark at Close ∷ ls, refl, begun, (refl, wrong), ((set, subst (λ l. Derives expression l set) (sym w.tokens) d), refl));
    }

at_token : (len : ℕ) (us : List Lexeme) (state : State) (at : ℕ) (token : Token) (error : FilesetParseError) → Reaches len us state → after_token state at token ≡ Err error
    → IsAt len us (mark at token) error
at_token len us (before ps steps) at (Operand leaf) error r h = cc
at_token len us (before ps steps) at Tilde error r h = cc
at_token len us (before ps steps) at Open error r h = cc
at_token len us (before ps steps) at Close error r h = no_operand len us ps steps at Close error r.holds (cc)
at_token len us (before ps steps) at Bar error r h = no_operand len us ps steps at Bar error r.holds (cc)
at_token len us (before ps steps) at Ampersand error r h = no_operand len us ps steps at Ampersand error r.holds (cc)
at_token len us (after ps steps) at Ampersand error r h = cc
at_token len us (after ps steps) at Tilde error r h = cc
at_token len us (after ps steps) at Bar error r h = cc
at_token len us (after ps steps) at Close error r h = at_close len us ps steps at error (whole us ps steps r.holds) h
at_token len us (after ps steps) at Open error r h = no_operator len us ps steps at Open error r (λ e. cc) (cc)
at_token len us (after ps steps) at (Operand leaf) error r h = no_operator len us ps steps at (Operand leaf) error r (λ e. cc) (cc)

-- the cause of an error of the parser
abbrev IsCause : ℕ → List Lexeme → FilesetParseError → Type 0
IsCause len lexemes error = (at : ℕ) × (kind : FilesetParseErrorKind) × (error ≡ Syntax at kind) × IsTokenOrderError len lexemes at kind

-- the innermost parenthesis that is not closed is before a whole expression
opened : {vs ws : List Lexeme} {qs : List Pending} {earlier : List Step} {set : SyntaxTree} (len : ℕ) (steps : List Step) (error : FilesetParseError) → At expression vs qs earlier
    → Derives expression ws set → Begins (vs ++ ws) → whole_program (unwound qs steps).0 (unwound qs steps).2 ≡ Err error → IsCause len (vs ++ ws) error
opened len steps error start d b h = cc
opened {ws = ws} {set = set} len steps error (in_group {at = at} {us = us} a) d b h =
    (at, UnclosedParenthesis, cc, (b, us, ws, append_assoc us (mark at Open ∷ []) ws, set, d))

at_end : (len : ℕ) (us : List Lexeme) (state : State) (error : FilesetParseError) → Reaches len us state → after_end len state ≡ Err error → IsCause len us error
at_end len us (before ps steps) error r h =
    let ends = underived len us error (ap (parsed_after len (Ok (before [] []))) (sym (append-nil us)) ∙ r.runs [] ∙ h) in
    (len, ExpectedOperand, cc, (us, [], sym (append-nil us), begins us (before ps steps) r.holds, (refl, ends), operand_follows us ps steps r.holds))
at_end len us (after ps steps) error r h =
    let w = whole us ps steps r.holds in
    subst (λ l. IsCause len l error) (sym w.tokens)
    (opened len (w.earlier ++ postfix w.set) error w.context w.derives (subst Begins w.tokens (begins us (after ps steps) r.holds)) (ap (λ u. whole_program u.0 u.2) (sym w.unwinds) ∙ h))

pub reached : (len : ℕ) (us : List Lexeme) (state new : State) (l : Lexeme) → Reaches len us state → after_token state l.at l.token ≡ Ok new → Reaches len (us ++ l ∷ []) new
reached len us state new l r h = record {
  holds = stepped us state l.at l.token r.holds new h;
  runs = λ ms. ap (parsed_after len (Ok (before [] []))) (append_assoc us (l ∷ []) ms) ∙ r.runs (l ∷ ms) ∙ ap (λ found. parsed_after len found ms) h;
}

failed : (len : ℕ) (all us : List Lexeme) (found : Result State FilesetParseError) (ls : List Lexeme) (error : FilesetParseError) → all ≡ us ++ ls
    → ((state : State) → found ≡ Ok state → Reaches len us state) → ((fault : FilesetParseError) → found ≡ Err fault → IsCause len all fault)
    → parsed_after len found ls ≡ Err error → IsCause len all error
failed len all us (Err fault) ls error split reaches causes h =
    let is : fault ≡ error = cc in
    subst (IsCause len all) is (causes fault refl)
failed len all us (Ok state) [] error split reaches causes h =
    subst (λ l. IsCause len l error) (sym (append-nil us) ∙ sym split) (at_end len us state error (reaches state refl) h)
failed len all us (Ok state) (l ∷ ls) error split reaches causes h =
    let r = reaches state refl in
    failed len all (us ++ l ∷ []) (after_token state l.at l.token) ls error (split ∙ sym (append_assoc us (l ∷ []) ls)) (λ new e. reached len us state new l r e)
    (λ fault e.
    let i = at_token len us state l.at l.token fault r e in
    (l.at, i.kind, i.is, subst (λ k. IsTokenOrderError len k l.at i.kind) (sym split) (i.order ls (begins us state r.holds) (stuck len us state l fault r e)))) h

pub failed_cause : (len : ℕ) (ls : List Lexeme) (error : FilesetParseError) → parsed_after len (Ok (before [] [])) ls ≡ Err error → IsCause len ls error
failed_cause len ls error h =
    failed len ls [] (Ok (before [] [])) ls error refl
    (λ state e.
    let is : before [] [] ≡ state = cc in
    subst (Reaches len []) is (starts len))
    (λ fault e. cc) h
