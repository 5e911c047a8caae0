-- The parser reads what the grammar derives.
use Rattle.std.proofs.Common.{◌≡◌, ◌∙◌, ℕ, List, [], ◌∷◌, ◌++◌, Ok, ap, sym, refl, append_assoc, append-nil}
use Rattle.jj_filesets.specs.declared.fileset.parser.Pending.{Pending}
use Rattle.jj_filesets.specs.declared.fileset.parser.Pending.TheVariants.{Group, Operator as operator}
use Rattle.jj_filesets.specs.declared.fileset.program.Operator.TheVariants.{Complement, Intersection, Difference, Union}
use Rattle.jj_filesets.specs.declared.fileset.program.Step.{Step}
use Rattle.jj_filesets.specs.declared.fileset.program.Step.TheVariants.{Apply}
use Rattle.jj_filesets.specs.declared.fileset.token.Token.TheVariants.{Close, Bar, Ampersand, Tilde}
use Rattle.jj_filesets.specs.declared.fileset.token.Lexeme.{Lexeme}
use Rattle.jj_filesets.specs.SyntaxTrees.{SyntaxTree}
use Rattle.jj_filesets.specs.Grammar.{Level, expression, term, factor, Derives, operand, negated, grouped, one_factor, both, without, one_term, either}
use Rattle.jj_filesets.specs.Programs.{postfix}
use Rattle.jj_filesets.specs.Parsing.{before, after, after_operand, after_bar, unwound, after_close, whole_program, parsed_after}

-- 1. The pending operators on top are none that a complete operand applies; and not a union either.

abbrev pub IsClosed : List Pending → Type 0
IsClosed ps = (steps : List Step) → after_operand ps steps ≡ after ps steps

abbrev IsFresh : List Pending → Type 0
IsFresh ps = IsClosed ps × ((steps : List Step) → after_bar ps steps ≡ before (operator Union ∷ ps) steps)

-- 2. The state of the parser after tokens that derive a tree, whatever follows them.

abbrev Reads : Level → List Lexeme → SyntaxTree → Type 0
Reads factor ws set = (len : ℕ) (ps : List Pending) (steps : List Step) (rest : List Lexeme)
    → parsed_after len (Ok (before ps steps)) (ws ++ rest) ≡ parsed_after len (Ok (after_operand ps (steps ++ postfix set))) rest
Reads term ws set = (len : ℕ) (ps : List Pending) (steps : List Step) (rest : List Lexeme) → IsClosed ps
    → parsed_after len (Ok (before ps steps)) (ws ++ rest) ≡ parsed_after len (Ok (after ps (steps ++ postfix set))) rest
Reads expression ws set = (len : ℕ) (ps : List Pending) (steps : List Step) (rest : List Lexeme) → IsFresh ps
    → (qs : List Pending) × (new : List Step)
    × (parsed_after len (Ok (before ps steps)) (ws ++ rest) ≡ parsed_after len (Ok (after qs new)) rest)
    × (unwound qs new ≡ unwound ps (steps ++ postfix set))
    × (after_bar qs new ≡ before (operator Union ∷ ps) (steps ++ postfix set))

joined : (ws vs rest : List Lexeme) (x : Lexeme) → (ws ++ x ∷ vs) ++ rest ≡ ws ++ x ∷ (vs ++ rest)
joined ws vs rest x = append_assoc ws (x ∷ vs) rest

pub one_step : (steps first : List Step) (x : Step) → (steps ++ first) ++ x ∷ [] ≡ steps ++ (first ++ x ∷ [])
one_step steps first x = append_assoc steps first (x ∷ [])

pub two_steps : (steps first second : List Step) (x : Step) → ((steps ++ first) ++ second) ++ x ∷ [] ≡ steps ++ ((first ++ second) ++ x ∷ [])
two_steps steps first second x = simp append_assoc

pub reads : {level : Level} {ws : List Lexeme} {set : SyntaxTree} → Derives level ws set → Reads level ws set
reads operand = λ len ps steps rest. refl
reads (negated {set = set} d) = λ len ps steps rest.
    reads d len (operator Complement ∷ ps) steps rest
    ∙ ap (λ s. parsed_after len (Ok (after_operand ps s)) rest) (one_step steps (postfix set) (Apply Complement))
reads (grouped {at = at} end {ws = ws} {set = set} d) = λ len ps steps rest.
    let close : Lexeme = record { at = end; token = Close } in
    let (qs, new, run, unwinds, bar) = reads d len (Group at ∷ ps) steps (close ∷ rest) ((λ s. refl), (λ s. refl)) in
    ap (λ l. parsed_after len (Ok (before (Group at ∷ ps) steps)) l) (joined ws [] rest close)
    ∙ run
    ∙ ap (λ u. parsed_after len (after_close end u.0 u.1 u.2) rest) unwinds
reads (one_factor {set = set} d) = λ len ps steps rest closed.
    reads d len ps steps rest ∙ ap (λ s. parsed_after len (Ok s) rest) (closed (steps ++ postfix set))
reads (both at {ws = ws} {vs = vs} {first = first} {second = second} d e) = λ len ps steps rest closed.
    ap (λ l. parsed_after len (Ok (before ps steps)) l) (joined ws vs rest (record { at = at; token = Ampersand }))
    ∙ reads d len ps steps (record { at = at; token = Ampersand } ∷ (vs ++ rest)) closed
    ∙ reads e len (operator Intersection ∷ ps) (steps ++ postfix first) rest
    ∙ ap (λ s. parsed_after len (Ok s) rest) (closed (((steps ++ postfix first) ++ postfix second) ++ Apply Intersection ∷ []))
    ∙ ap (λ s. parsed_after len (Ok (after ps s)) rest) (two_steps steps (postfix first) (postfix second) (Apply Intersection))
reads (without at {ws = ws} {vs = vs} {first = first} {second = second} d e) = λ len ps steps rest closed.
    ap (λ l. parsed_after len (Ok (before ps steps)) l) (joined ws vs rest (record { at = at; token = Tilde }))
    ∙ reads d len ps steps (record { at = at; token = Tilde } ∷ (vs ++ rest)) closed
    ∙ reads e len (operator Difference ∷ ps) (steps ++ postfix first) rest
    ∙ ap (λ s. parsed_after len (Ok s) rest) (closed (((steps ++ postfix first) ++ postfix second) ++ Apply Difference ∷ []))
    ∙ ap (λ s. parsed_after len (Ok (after ps s)) rest) (two_steps steps (postfix first) (postfix second) (Apply Difference))
reads (one_term {set = set} d) = λ len ps steps rest fresh.
    (ps, steps ++ postfix set, reads d len ps steps rest fresh.0, refl, fresh.1 (steps ++ postfix set))
reads (either at {ws = ws} {vs = vs} {first = first} {second = second} d e) = λ len ps steps rest fresh.
    let bar : Lexeme = record { at = at; token = Bar } in
    let (qs, new, run, unwinds, joins) = reads d len ps steps (bar ∷ (vs ++ rest)) fresh in
    let same = two_steps steps (postfix first) (postfix second) (Apply Union) in (
      operator Union ∷ ps,
      (steps ++ postfix first) ++ postfix second,
      ap (λ l. parsed_after len (Ok (before ps steps)) l) (joined ws vs rest bar)
          ∙ run
          ∙ ap (λ s. parsed_after len (Ok s) (vs ++ rest)) joins
          ∙ reads e len (operator Union ∷ ps) (steps ++ postfix first) rest (λ s. refl),
      ap (unwound ps) same,
      ap (before (operator Union ∷ ps)) same,
    )

-- 3. A whole expression.

pub parses : {ws : List Lexeme} {set : SyntaxTree} (len : ℕ) → Derives expression ws set → parsed_after len (Ok (before [] [])) ws ≡ Ok (postfix set)
parses {ws = ws} {set = set} len d =
    let (qs, new, run, unwinds, bar) = reads d len [] [] [] ((λ s. refl), (λ s. refl)) in
    ap (parsed_after len (Ok (before [] []))) (sym (append-nil ws)) ∙ run
    ∙ ap (λ u. whole_program u.0 u.2) unwinds
